-- What a call to the outside may do: to the contents, to the count of faults, and which answer has which cause.
-- Of an object that doesn't tell its contents only the count and what is begun are known.
use Rattle.std.specs.Prelude.{◌≡◌, ◌≢◌, ◌⊎◌, ℕ, ◌+◌, ◌-◌, ◌<◌, ◌≤◌, ◌^◌, min, Bool, IsTrue, List, [], ◌∷◌, ◌++◌, length, take, Some, None, Result, Ok, Err}
use Rattle.tl_ports.specs.declared.fault.FetchFault.{FetchFault}
use Rattle.tl_ports.specs.declared.fault.FetchFault.TheVariants as fetching
use Rattle.tl_ports.specs.declared.fault.PutFault.{PutFault}
use Rattle.tl_ports.specs.declared.fault.PutFault.TheVariants as putting
use Rattle.tl_ports.specs.Seen.{StoreSeen, VaultSeen, SinkSeen}

-- The count rose in a call, or stands at the last value of a 64-bit counter.
abbrev pub Rose : (before now : ℕ) → Type 0
Rose before now = min (before + 1) (2 ^ 64 - 1) ≤ now

-- ---- a store

-- A file that is asked for: its name, and the most bytes that it may have.
pub record Wanted : Type 0 where
  pub name : List ℕ
  pub limit : ℕ

-- These are the bytes of the whole file, and they are within its limit.
abbrev pub IsFetched : (tells : Bool) (store : StoreSeen) → Wanted → (bytes : List ℕ) → Type 0
IsFetched tells store wanted bytes = (length bytes ≤ wanted.limit) × (IsTrue tells → store.file wanted.name ≡ Some bytes)

-- The whole file was added at the end of a buffer.
abbrev pub AddsFile : (tells : Bool) (store : StoreSeen) → Wanted → (before after : List ℕ) → Type 0
AddsFile tells store wanted before after = (bytes : List ℕ) × (after ≡ before ++ bytes) × IsFetched tells store wanted bytes

-- The file of a name is longer than its limit.
abbrev pub IsLonger : StoreSeen → Wanted → Type 0
IsLonger store wanted = (bytes : List ℕ) × (store.file wanted.name ≡ Some bytes) × (wanted.limit < length bytes)

-- It is told to be so, or the count rose.
abbrev pub IsToldOr : (tells : Bool) (told rose : Type 0) → Type 0
IsToldOr tells told rose = (IsTrue tells × told) ⊎ rose

-- A fetch that is refused has its cause: the count rose, or the told store lacks the file or has more bytes of it than the limit.
-- `Ok` and want of memory leave the count as it was.
abbrev pub FetchHasCause : (tells : Bool) (old new : StoreSeen) → Wanted → Result Unit FetchFault → Type 0
FetchHasCause tells old new wanted (Ok done) = new.faults ≡ old.faults
FetchHasCause tells old new wanted (Err fetching.Failed) = Rose old.faults new.faults
FetchHasCause tells old new wanted (Err fetching.Missing) = IsToldOr tells (old.file wanted.name ≡ None) (Rose old.faults new.faults)
FetchHasCause tells old new wanted (Err (fetching.TooLarge limit)) =
    (limit ≡ wanted.limit) × IsToldOr tells (IsLonger old wanted) (Rose old.faults new.faults)
FetchHasCause tells old new wanted (Err fetching.NoMemory) = new.faults ≡ old.faults

-- ---- a vault or a sink

-- `Failed` comes only where the count rose in that call, and every other answer leaves the count as it was.
abbrev pub PutHasCause : {A : Type 0} (before now : ℕ) → Result A PutFault → Type 0
PutHasCause before now (Ok value) = now ≡ before
PutHasCause before now (Err putting.Failed) = Rose before now
PutHasCause before now (Err putting.NoMemory) = now ≡ before

-- At `Ok` the file of this name is begun, and empty. After a refusal none is begun, and that file is as before or empty.
abbrev pub Begins : (tells : Bool) (old new : VaultSeen) (name : List ℕ) → Result Unit PutFault → Type 0
Begins tells old new name (Ok done) = (new.begun ≡ Some name) × (IsTrue tells → new.file name ≡ Some [])
Begins tells old new name (Err fault) =
    (new.begun ≡ None) × (IsTrue tells → (new.file name ≡ old.file name) ⊎ (new.file name ≡ Some []))

-- Files of other names than this one are as before.
abbrev pub KeepsOthers : (tells : Bool) (old new : VaultSeen) (name : List ℕ) → Type 0
KeepsOthers tells old new name = IsTrue tells → (other : List ℕ) → other ≢ name → new.file other ≡ old.file other

-- A piece was added to the begun file, whole, or after a refusal some front of it.
abbrev pub Adds : (tells : Bool) (old new : VaultSeen) (piece : List ℕ) → Result Unit PutFault → Type 0
Adds tells old new piece (Ok done) = IsTrue tells → new.held ≡ old.held ++ piece
Adds tells old new piece (Err fault) = IsTrue tells → (count : ℕ) × (new.held ≡ old.held ++ take count piece)

-- What each call that writes into the begun file keeps: it stays begun, no file of another name changes, and the count doesn't fall.
pub record KeepsBegun (tells : Bool) (old new : VaultSeen) : Type 0 where
  pub same : new.begun ≡ old.begun
  pub others : IsTrue tells → (other : List ℕ) → old.begun ≢ Some other → new.file other ≡ old.file other
  pub later : old.faults ≤ new.faults

-- A piece was put, whole, or where the call failed some front of it or nothing, and where memory was wanting nothing.
abbrev pub PutsPiece : (tells : Bool) (old new : SinkSeen) (piece : List ℕ) → Result Unit PutFault → Type 0
PutsPiece tells old new piece (Ok done) = IsTrue tells → new.pieces ≡ old.pieces ++ piece ∷ []
PutsPiece tells old new piece (Err putting.Failed) =
    IsTrue tells → (new.pieces ≡ old.pieces) ⊎ ((count : ℕ) × (new.pieces ≡ old.pieces ++ take count piece ∷ []))
PutsPiece tells old new piece (Err putting.NoMemory) = IsTrue tells → new.pieces ≡ old.pieces
