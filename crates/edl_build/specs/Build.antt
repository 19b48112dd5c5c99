-- The segments of an edit list.
use Rattle.std.specs.Prelude.{◌≡◌, ℕ, ◌-◌, nat_lt, ◌==◌, if◌then◌else◌, List, [], ◌∷◌, ◌++◌, Option, Some, None, Result, Ok, Err, IsPermutation}
use Rattle.std.specs.Ordering.{nat_cmp}
use Rattle.std.specs.List.Sorted.{IsNonDecreasingBy, IsStableByKey}
use Rattle.edl_text.specs.declared.event.Event.{Event}
use Rattle.edl_text.specs.declared.fault.EdlWhy.TheVariants as why
use Rattle.edl_text.specs.declared.fault.EdlFault.{EdlFault}
use Rattle.edl_text.specs.declared.fault.EdlFault.TheVariants as faults
use Rattle.edl_text.specs.List.{◌>>=◌, at_line}
use Rattle.tl_model.specs.declared.recipe.Side.{Side}
use Rattle.tl_model.specs.declared.recipe.Side.TheVariants as side
use Rattle.tl_model.specs.declared.segment.Segment.{Segment}
use Rattle.edl_build.specs.declared.part.Part.{Part}
use Rattle.edl_build.specs.declared.part.Addition.{Addition}
use Rattle.edl_build.specs.declared.part.Addition.TheVariants.{Outgoing, Whole}
use Rattle.edl_build.specs.Clip.{clip_from}
use Rattle.edl_build.specs.Part.{added}

abbrev pub first_of : List Event → Option Event
first_of [] = None
first_of (e ∷ more) = Some e

abbrev pub outgoing_of : Addition → Option Side
outgoing_of (Outgoing side) = Some side
outgoing_of (Whole part) = None

abbrev pub parts_of : Addition → List Part
parts_of (Outgoing side) = []
parts_of (Whole part) = part ∷ []

-- The parts of the events, or the first faulty line.
unfoldable pub parts_from : (clips : List ℕ → Option (ℕ × ℕ)) → (from : Option Side) → List Event → Result (List Part) EdlFault
parts_from clips from [] = Ok []
parts_from clips from (e ∷ more) = do
  this ← at_line e.line (added clips from e (first_of more))
  parts ← parts_from clips (outgoing_of this) more
  Ok (parts_of this ++ parts)

-- By their starts, and those of one start in their order.
pub record IsOrdered (parts ordered : List Part) : Type 0 where
  pub same : IsPermutation parts ordered
  pub rising : IsNonDecreasingBy (λ part. part.start) ordered
  pub stable : IsStableByKey (λ part. part.start) nat_cmp parts ordered

abbrev pub gap : ℕ → List Segment
gap len = if len == 0 then [] else record { first = side.Black; len = len; mix = None } ∷ []

-- The segments from a place on, black between them; `Overlap` at the first part that begins before the one before it ends.
unfoldable pub laid_from : (at : ℕ) → List Part → Result (List Segment) EdlFault
laid_from at [] = Ok []
laid_from at (part ∷ more) =
    if nat_lt part.start at
    then Err (faults.Line part.line why.Overlap)
    else (laid_from part.end more >>= λ rest. Ok (gap (part.start - at) ++ part.segment ∷ rest))

abbrev pub start_of : List Part → ℕ
start_of [] = 0
start_of (part ∷ more) = part.start

-- The first start is frame 0.
abbrev pub laid : List Part → Result (List Segment) EdlFault
laid parts = laid_from (start_of parts) parts

-- The parts in order and laid, or the first faulty line.
abbrev pub IsAnswer : Result (List Part) EdlFault → Result (List Segment) EdlFault → Type 0
IsAnswer (Err fault) answer = answer ≡ Err fault
IsAnswer (Ok parts) answer = (ordered : List Part) × IsOrdered parts ordered × (answer ≡ laid ordered)

abbrev pub IsBuilt : (clips : List (List ℕ × ℕ)) → List Event → Result (List Segment) EdlFault → Type 0
IsBuilt clips events (Err faults.NoMemory) = Unit {0}
IsBuilt clips events (Err (faults.Line n why)) = IsAnswer (parts_from (clip_from 0 clips) None events) (Err (faults.Line n why))
IsBuilt clips events (Ok segments) = IsAnswer (parts_from (clip_from 0 clips) None events) (Ok segments)
