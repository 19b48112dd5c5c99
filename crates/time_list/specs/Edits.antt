-- What each edit would make of a timeline, and what it takes for that.
use Rattle.std.specs.Prelude.{ℕ, ◌+◌, ◌-◌, ◌==◌, nat_lt, nat_le, min, ℤ, pos, negsuc, if◌then◌else◌, not, Bool, true, false, ◌||◌, List, [], ◌∷◌, ◌++◌, length, map, take, drop, Option, Some, None}
use Rattle.std.specs.List.{list_any, flat_map}
use Rattle.tl_limits.specs.Limits.{max_mix}
use Rattle.tl_model.specs.declared.recipe.Side.{Side}
use Rattle.tl_model.specs.declared.recipe.Side.TheVariants as side
use Rattle.tl_model.specs.declared.recipe.Mix.{Mix}
use Rattle.tl_model.specs.declared.segment.Segment.{Segment}
use Rattle.tl_model.specs.declared.edit.Edit.{Edit}
use Rattle.tl_model.specs.declared.edit.Edit.TheVariants as edit
use Rattle.tl_model.specs.Cells.{Cell, side_at, run, cells_of, cells}
use Rattle.time_list.specs.Parts.{is_cut, Parts, parts_at, first_side, last_side}

-- The timeline that an edit would make, the sides of the frames that it takes newly, and what may stand against it:
-- it reaches past the end; no cut is there; a frame would come before its clip's first; a dissolve is too long.
pub record Proposal : Type 0 where
  pub line : List Cell
  pub taken : List Side
  pub past_end : Bool
  pub no_cut : Bool
  pub early : Bool
  pub too_long : Bool

-- An edit that takes no new frames and needs no cut.
abbrev pub rearranged : Bool → List Cell → Proposal
rearranged past_end line = record { line = line; taken = []; past_end = past_end; no_cut = false; early = false; too_long = false }

-- An edit that takes new frames.
abbrev pub taking : List Side → Bool → List Cell → Proposal
taking taken past_end line = record { line = line; taken = taken; past_end = past_end; no_cut = false; early = false; too_long = false }

-- The first cell becomes the start of a segment.
abbrev pub headed : List Cell → List Cell
headed [] = []
headed (c ∷ cs) = record { side = c.side; mix = c.mix; is_head = true } ∷ cs

-- A segment of `len` frames from a side on, without a dissolve, and the sides of its frames.
abbrev pub fresh : Side → ℕ → List Cell
fresh first len = cells_of (record { first = first; len = len; mix = None })

-- `count` sides that go on from a side, the first of them `skip` frames after it.
abbrev pub sides_from : Side → (skip count : ℕ) → List Side
sides_from first skip count = run (side_at first) skip count

-- What comes before a side by a number of frames, and whether that is before its clip's first frame.
abbrev pub side_before : ℕ → Side → Side
side_before by side.Black = side.Black
side_before by (side.Clip clip frame) = side.Clip clip (frame - by)

abbrev pub is_early : ℕ → Side → Bool
is_early by side.Black = false
is_early by (side.Clip clip frame) = nat_lt frame by

abbrev pub inserted : ℕ → Side → ℕ → List Cell → Proposal
inserted at side len line =
    taking (sides_from side 0 len) (nat_lt (length line) at) (take at line ++ fresh side len ++ headed (drop at line))

abbrev pub extracted : ℕ → ℕ → List Cell → Proposal
extracted at len line =
    rearranged (nat_lt (length line) (at + len)) (take at line ++ headed (drop (at + len) line))

-- In place of the frames from `at` on; past the end nothing is left to give way.
abbrev pub overwritten : ℕ → Side → ℕ → List Cell → Proposal
overwritten at side len line =
    taking (sides_from side 0 len) (nat_lt (length line) at) (take at line ++ fresh side len ++ headed (drop (at + len) line))

abbrev pub lifted : ℕ → ℕ → List Cell → Proposal
lifted at len line =
    rearranged (nat_lt (length line) (at + len)) (take at line ++ fresh side.Black len ++ headed (drop (at + len) line))

abbrev pub divided : ℕ → List Cell → Proposal
divided at line = rearranged (nat_le (length line) at) (take at line ++ headed (drop at line))

-- Other cells in place of a segment's own.
abbrev pub with_own : Parts → List Cell → List Cell
with_own p own = p.before ++ own ++ p.after

-- A proposal for the cells of the segment that has frame `at`, as one for the timeline.
abbrev pub in_segment : (List Cell → Proposal) → ℕ → List Cell → Proposal
in_segment change at line = let p = parts_at at line in let q = change p.own in record {
  line = with_own p q.line;
  taken = q.taken;
  past_end = nat_le (length line) at || q.past_end;
  no_cut = q.no_cut;
  early = q.early;
  too_long = q.too_long;
}

-- The first `by` cells of a segment go; the next becomes its start and keeps its step of the dissolve.
abbrev pub shortened_in : ℕ → List Cell → Proposal
shortened_in by own = rearranged (nat_le (length own) by) (headed (drop by own))

-- A cell that goes on from the one before it.
abbrev pub plain : Side → Cell
plain side = record { side = side; mix = None; is_head = false }

-- The `by` frames before the segment's first come before it as its start, and its dissolve is gone.
abbrev pub lengthened_in : ℕ → List Cell → Proposal
lengthened_in by own = let first = side_before by (first_side own) in record {
  line = fresh first by ++ map (λ c. plain c.side) own;
  taken = sides_from first 0 by;
  past_end = false;
  no_cut = false;
  early = is_early by (first_side own);
  too_long = false;
}

abbrev pub trimmed_in : ℤ → List Cell → Proposal
trimmed_in (pos by) own = shortened_in by own
trimmed_in (negsuc by) own = lengthened_in (by + 1) own

-- The last `by` cells of a segment go.
abbrev pub shortened_out : ℕ → List Cell → Proposal
shortened_out by own = rearranged (nat_le (length own) by) (take (length own - by) own)

-- The `by` frames after the segment's last come after it, without a dissolve.
abbrev pub lengthened_out : ℕ → List Cell → Proposal
lengthened_out by own = let more = sides_from (last_side own) 1 by in taking more false (own ++ map plain more)

abbrev pub trimmed_out : ℤ → List Cell → Proposal
trimmed_out (pos by) own = shortened_out by own
trimmed_out (negsuc by) own = lengthened_out (by + 1) own

-- A side `by` frames on or back.
abbrev pub side_by : ℤ → Side → Side
side_by (pos by) side = side_at side by
side_by (negsuc by) side = side_before (by + 1) side

abbrev pub is_early_by : ℤ → Side → Bool
is_early_by (pos by) side = false
is_early_by (negsuc by) side = is_early (by + 1) side

-- Each side of a segment moves; the outgoing sides of its dissolve stay.
abbrev pub slipped : ℤ → List Cell → Proposal
slipped by own = record {
  line = map (λ c. record { side = side_by by c.side; mix = c.mix; is_head = c.is_head }) own;
  taken = map (λ c. side_by by c.side) own;
  past_end = false;
  no_cut = false;
  early = list_any (λ c. is_early_by by c.side) own;
  too_long = false;
}

-- Cells with a dissolve of `total` steps, of which the first cell has the step after `done`, and none after its end.
-- The outgoing sides go on after `from`.
abbrev pub dissolved : Side → (total done : ℕ) → List Cell → List Cell
dissolved from total done [] = []
dissolved from total done (c ∷ cs) =
    record {
      side = c.side;
      mix = if nat_lt done total then Some (record { from = side_at from (done + 1); step = done + 1; total = total }) else None;
      is_head = c.is_head;
    } ∷ dissolved from total (done + 1) cs

-- A dissolve from `from` on, in place of any that the segment has.
abbrev pub with_dissolve : Side → ℕ → List Cell → Proposal
with_dissolve from len own = record {
  line = dissolved from len 0 own;
  taken = sides_from from 1 (min len (length own));
  past_end = false;
  no_cut = false;
  early = false;
  too_long = nat_lt (length own) len || nat_lt max_mix len;
}

-- The dissolve goes on from the segment before the one that frame `at` begins.
abbrev pub joined : ℕ → ℕ → List Cell → Proposal
joined at len line = let q = in_segment (with_dissolve (last_side (parts_at at line).before) len) at line in
    record q { no_cut = (at == 0) || not (is_cut at line) }

-- The cells show a clip from its frame `first` on; their dissolve stays.
abbrev pub shown_from : ℕ → ℕ → List Cell → List Cell
shown_from clip first [] = []
shown_from clip first (c ∷ cs) = record { side = side.Clip clip first; mix = c.mix; is_head = c.is_head } ∷ shown_from clip (first + 1) cs

abbrev pub relinked : ℕ → ℕ → List Cell → Proposal
relinked clip first own = taking (sides_from (side.Clip clip first) 0 (length own)) false (shown_from clip first own)

-- The sides of a segment's frames, and the outgoing ones of those of its frames that dissolve.
abbrev pub outgoing_sides : Option Mix → ℕ → List Side
outgoing_sides None len = []
outgoing_sides (Some mix) len = sides_from mix.from 0 (min mix.steps len)

abbrev pub sides_of : Segment → List Side
sides_of s = sides_from s.first 0 s.len ++ outgoing_sides s.mix s.len

abbrev pub is_long_mix : Option Mix → ℕ → Bool
is_long_mix None len = false
is_long_mix (Some mix) len = nat_lt len mix.steps || nat_lt max_mix mix.total

abbrev pub replaced : List Segment → Proposal
replaced segments = record {
  line = cells segments;
  taken = flat_map sides_of segments;
  past_end = false;
  no_cut = false;
  early = false;
  too_long = list_any (λ s. is_long_mix s.mix s.len) segments;
}

abbrev pub proposal : Edit → List Cell → Proposal
proposal (edit.Insert at side len) line = inserted at side len line
proposal (edit.Extract at len) line = extracted at len line
proposal (edit.Overwrite at side len) line = overwritten at side len line
proposal (edit.Lift at len) line = lifted at len line
proposal (edit.Split at) line = divided at line
proposal (edit.TrimIn at by) line = in_segment (trimmed_in by) at line
proposal (edit.TrimOut at by) line = in_segment (trimmed_out by) at line
proposal (edit.Slip at by) line = in_segment (slipped by) at line
proposal (edit.Dissolve at len) line = joined at len line
proposal (edit.Relink at clip first) line = in_segment (relinked clip first) at line
proposal (edit.Replace segments) line = replaced segments
