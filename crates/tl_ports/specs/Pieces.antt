-- Pieces that lie one after the other.
use Rattle.std.specs.Prelude.{◌≡◌, ℕ, ◌/◌, List, [], ◌∷◌, ◌++◌, length, take, drop, Result, Ok, Err}
use Rattle.tl_ports.specs.declared.fault.PutFault.{PutFault}
use Rattle.tl_ports.specs.declared.fault.PutFault.TheVariants as putting

-- the pieces of these lengths, from the first byte on
abbrev pub cut : (bytes lens : List ℕ) → List (List ℕ)
cut bytes [] = []
cut bytes (n ∷ lens) = take n bytes ∷ cut (drop n bytes) lens

-- A put that is to fail adds the first half of the piece as a piece, and any other the whole; where memory runs out none is added.
abbrev pub PutsPieceByPlan : (fails : Type 0) (before after : List (List ℕ)) (piece : List ℕ) → Result Unit PutFault → Type 0
PutsPieceByPlan fails before after piece (Ok done) = (fails → ⊥) × (after ≡ before ++ piece ∷ [])
PutsPieceByPlan fails before after piece (Err putting.Failed) = fails × (after ≡ before ++ take (length piece / 2) piece ∷ [])
PutsPieceByPlan fails before after piece (Err putting.NoMemory) = after ≡ before
