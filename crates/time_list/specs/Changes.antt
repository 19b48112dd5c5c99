-- How a list of segments changes: where it is cut, and which segments come in place of which.
use Rattle.std.specs.Prelude.{◌≡◌, ℕ, ◌+◌, ◌<◌, ◌≤◌, Bool, true, false, List, [], ◌∷◌, ◌++◌, length, take, drop, Some, None, Result, Ok, Err}
use Rattle.tl_model.specs.Cells.{Cell, cells_of, cells}
use Rattle.tl_model.specs.Media.{Library}
use Rattle.tl_model.specs.Segment.{IsPiece, ArePieces}
use Rattle.tl_limits.specs.Limits.{IsSmall}
use Rattle.tl_model.specs.Edit.{IsNear}
use Rattle.tl_model.specs.declared.edit.EditRefusal.{EditRefusal}
use Rattle.tl_model.specs.declared.edit.EditRefusal.TheVariants as refusal
use Rattle.tl_model.specs.declared.segment.Segment.{Segment}
use Rattle.time_list.specs.Apply.{first_of, against, too_large}
use Rattle.time_list.specs.Edits.{Proposal, trimmed_in, trimmed_out, slipped, relinked}
use Rattle.time_list.specs.Patch.{PatchOf, patched, LeadsBack}
use Rattle.time_list.specs.Pieces.{IsLane}
use Rattle.time_list.specs.declared.change.Change.{Change}
use Rattle.time_list.specs.declared.change.Made.{Made}
use Rattle.time_list.specs.declared.change.Span.{Span}
use Rattle.time_list.specs.declared.cut.Cut.{Cut}
use Rattle.time_list.specs.declared.lane.ApplyFault.{ApplyFault}
use Rattle.time_list.specs.declared.lane.ApplyFault.TheVariants as fault
use Rattle.time_list.specs.declared.reshape.Reshape.{Reshape}
use Rattle.time_list.specs.declared.reshape.Reshape.TheVariants as reshape

-- So many frames after the first segment's start lies one of its frames.
abbrev pub IsInside : ℕ → List Segment → Type 0
IsInside offset [] = offset ≡ 0
IsInside offset (s ∷ ss) = offset < s.len

-- A place lies in the segment at an index, or is the end.
pub record IsCutAt (items : List Segment) (at : ℕ) (cut : Cut) : Type 0 where
  pub within : cut.index ≤ length items
  pub start : cut.start ≡ length (cells (take cut.index items))
  pub place : at ≡ cut.start + cut.offset
  pub inside : IsInside cut.offset (drop cut.index items)

pub record IsSpan (span : Span) (items : List Segment) : Type 0 where
  pub at : span.at ≡ length (cells (take span.from items))
  pub order : span.from ≤ span.to
  pub within : span.to ≤ length items

-- Segments in place of those of a span.
abbrev pub spliced : Span → (put items : List Segment) → List Segment
spliced span put items = take span.from items ++ put ++ drop span.to items

-- A change after which the cells are these.
pub record IsChangeTo (items : List Segment) (after : List Cell) (change : Change) : Type 0 where
  pub span : IsSpan change.span items
  pub pieces : ArePieces change.put.items
  pub line : cells (spliced change.span change.put.items items) ≡ after

-- The change that a proposal asks for, or the first reason against it.
abbrev pub Changes : {F : Type 0} → Library F → List Segment → Proposal → Result Change ApplyFault → Type 0
Changes lib items p (Ok change) = (first_of (against lib p) ≡ None) × IsChangeTo items p.line change
Changes lib items p (Err (fault.Refused why)) = first_of (against lib p) ≡ Some why
Changes lib items p (Err fault.NoMemory) = Unit {0}

-- The change that a proposal asks for that takes no frames.
abbrev pub Rearranges : List Segment → Proposal → Result Change ApplyFault → Type 0
Rearranges items p (Ok change) = (p.past_end ≡ false) × IsChangeTo items p.line change
Rearranges items p (Err (fault.Refused why)) = (p.past_end ≡ true) × (why ≡ refusal.PastEnd)
Rearranges items p (Err fault.NoMemory) = Unit {0}

-- A segment in place of another, as a proposal for its own cells asks for.
abbrev pub Reshapes : {F : Type 0} → Library F → Proposal → Result Segment EditRefusal → Type 0
Reshapes lib p (Ok s) = (first_of (against lib p) ≡ None) × IsPiece s × (cells_of s ≡ p.line)
Reshapes lib p (Err why) = first_of (against lib p) ≡ Some why

abbrev pub reshaped : Reshape → List Cell → Proposal
reshaped (reshape.TrimIn by) own = trimmed_in by own
reshaped (reshape.TrimOut by) own = trimmed_out by own
reshaped (reshape.Slip by) own = slipped by own
reshaped (reshape.Relink clip first) own = relinked clip first own

-- The numbers of an edit of a segment's own frames are small.
abbrev pub IsReshape : Reshape → Type 0
IsReshape (reshape.TrimIn by) = IsNear by
IsReshape (reshape.TrimOut by) = IsNear by
IsReshape (reshape.Slip by) = IsNear by
IsReshape (reshape.Relink clip first) = IsSmall clip × IsSmall first

-- A segment with fewer frames, which takes none.
abbrev pub Shortens : Proposal → Result Segment EditRefusal → Type 0
Shortens p (Ok s) = (p.past_end ≡ false) × IsPiece s × (cells_of s ≡ p.line)
Shortens p (Err why) = (p.past_end ≡ true) × (why ≡ refusal.PastEnd)

-- The first reason that holds is answered.
abbrev pub FirstIs : List (Bool × EditRefusal) → Result Unit EditRefusal → Type 0
FirstIs reasons (Ok done) = first_of reasons ≡ None
FirstIs reasons (Err why) = first_of reasons ≡ Some why

-- A list that was made from another by a change, with the patch that leads back.
pub record IsMade (before after : List Segment) (made : Made) : Type 0 where
  pub items : made.items.items ≡ after
  pub lane : IsLane after made.frames
  pub patch : LeadsBack made.patch (cells after) (cells before)

-- It is made where it is within the limits.
abbrev pub Makes : (before after : List Segment) → Result Made ApplyFault → Type 0
Makes before after (Ok made) = (first_of (too_large (cells after)) ≡ None) × IsMade before after made
Makes before after (Err (fault.Refused why)) = first_of (too_large (cells after)) ≡ Some why
Makes before after (Err fault.NoMemory) = Unit {0}

-- A list that was patched, with the patch that leads back.
pub record IsReverted (reverted : PatchOf) (before : List Segment) (made : Made) : Type 0 where
  pub line : cells made.items.items ≡ patched reverted (cells before)
  pub lane : IsLane made.items.items made.frames
  pub patch : LeadsBack made.patch (patched reverted (cells before)) (cells before)
