-- What reading and writing in pieces does, at a reader or writer whose bytes are known, and what it may answer.
use Rattle.std.specs.Prelude.{◌≡◌, ◌<◌, ℕ, Option, IfSome, List, ◌++◌, length, Result, Ok, Err}
use Rattle.std.specs.Io.KnownBytes.{Appends}
use Rattle.tl_ports.specs.declared.fault.FetchFault.{FetchFault}
use Rattle.tl_ports.specs.declared.fault.FetchFault.TheVariants.{Failed, Missing, TooLarge, NoMemory}
use Rattle.tl_ports.specs.declared.fault.PutFault.{PutFault}

-- The writer's known bytes grew by the piece, and after a refusal by some front of it.
abbrev pub Writes : (before after : Option (List ℕ)) (piece : List ℕ) → Result Unit PutFault → Type 0
Writes before after piece (Ok done) = Appends before after piece
Writes before after piece (Err fault) = (front rest : List ℕ) × (piece ≡ front ++ rest) × Appends before after front

-- A file that is too large has more bytes than this limit, as far as the reader's bytes are known.
abbrev pub IsOver : (limit : ℕ) (known : Option (List ℕ)) → FetchFault → Type 0
IsOver limit known Failed = Unit {0}
IsOver limit known Missing = Unit {0}
IsOver limit known (TooLarge told) = (told ≡ limit) × IfSome known (λ text. limit < length text)
IsOver limit known NoMemory = Unit {0}

-- A read failed, or memory for it ran out.
abbrev pub IsReadFault : FetchFault → Type 0
IsReadFault Failed = Unit {0}
IsReadFault Missing = ⊥
IsReadFault (TooLarge told) = ⊥
IsReadFault NoMemory = Unit {0}
