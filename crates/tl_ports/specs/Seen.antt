-- What is seen of the outside: the contents of each object, as far as it tells them, and how many faults it had.
use Rattle.std.specs.Prelude.{◌≡◌, ℕ, Bool, List, Option, Some}

-- Files to be read, by name.
pub record StoreSeen : Type 0 where
  pub file : List ℕ → Option (List ℕ)
  pub faults : ℕ

-- Files to be written, by name; the name of the one that is begun, and its bytes.
pub record VaultSeen : Type 0 where
  pub file : List ℕ → Option (List ℕ)
  pub begun : Option (List ℕ)
  pub held : List ℕ
  pub faults : ℕ

-- The begun file's bytes are those of the file of its name.
abbrev pub IsLawful : VaultSeen → Type 0
IsLawful vault = (name : List ℕ) → vault.begun ≡ Some name → vault.file name ≡ Some vault.held

-- Bytes that were put, piece by piece: one piece of each call, and none of a refused call that put nothing.
pub record SinkSeen : Type 0 where
  pub pieces : List (List ℕ)
  pub faults : ℕ

-- All that a program has of the outside.
pub record Outside : Type 0 where
  pub store : StoreSeen
  pub vault : VaultSeen
  pub screen : SinkSeen
  pub out : SinkSeen

-- Which of these tell their contents.
pub record Telling : Type 0 where
  pub store : Bool
  pub vault : Bool
  pub screen : Bool
  pub out : Bool
