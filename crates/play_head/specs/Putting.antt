-- What a sink got of pieces that were put one after another.
use Rattle.std.specs.Prelude.{◌≡◌, ◌⊎◌, ℕ, Bool, IsTrue, List, [], ◌∷◌, ◌++◌, take, Result, Ok, Err}
use Rattle.tl_ports.specs.declared.fault.PutFault.{PutFault}
use Rattle.tl_ports.specs.Seen.{SinkSeen}

-- Some front of the pieces: nothing; or the first whole and then some front of the others; or a front of the first and nothing after it.
abbrev pub IsFront : (got pieces : List (List ℕ)) → Type 0
IsFront [] pieces = Unit {0}
IsFront (piece ∷ got) [] = ⊥
IsFront (piece ∷ got) (whole ∷ pieces) =
    ((piece ≡ whole) × IsFront got pieces) ⊎ ((got ≡ []) × ((count : ℕ) × (piece ≡ take count whole)))

-- A sink that tells its bytes got the pieces.
abbrev pub GotAll : Bool → (old new : SinkSeen) → (pieces : List (List ℕ)) → Type 0
GotAll tells old new pieces = IsTrue tells → new.pieces ≡ old.pieces ++ pieces

-- It got some front of them.
abbrev pub GotFront : Bool → (old new : SinkSeen) → (pieces : List (List ℕ)) → Type 0
GotFront tells old new pieces = IsTrue tells → (got : List (List ℕ)) × (new.pieces ≡ old.pieces ++ got) × IsFront got pieces

-- It got all of them, or after a refusal some front.
abbrev pub Gets : Bool → (old new : SinkSeen) → (pieces : List (List ℕ)) → Result Unit PutFault → Type 0
Gets tells old new pieces (Ok done) = GotAll tells old new pieces
Gets tells old new pieces (Err fault) = GotFront tells old new pieces
