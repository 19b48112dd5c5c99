-- A patch: what it makes of a timeline, where it fits, and when one leads back.
use Rattle.std.specs.Prelude.{◌≡◌, ℕ, ◌+◌, ◌≤◌, IsTrue, List, ◌++◌, length, take, drop, Result, Ok, Err}
use Rattle.tl_limits.specs.Limits.{max_frames, max_segments}
use Rattle.tl_model.specs.Cells.{Cell, segment_count}
use Rattle.time_list.specs.Parts.{is_cut}

-- Cells in place of `count` others from `at` on.
pub record PatchOf : Type 0 where
  pub at : ℕ
  pub count : ℕ
  pub cells : List Cell

abbrev pub patched : PatchOf → List Cell → List Cell
patched patch line = take patch.at line ++ patch.cells ++ drop (patch.at + patch.count) line

-- It begins and ends where segments do, and what it makes is within the limits.
pub record IsPatchOf (patch : PatchOf) (line : List Cell) : Type 0 where
  pub within : patch.at + patch.count ≤ length line
  pub begin : IsTrue (is_cut patch.at line)
  pub end : IsTrue (is_cut (patch.at + patch.count) line)
  pub frames : length (patched patch line) ≤ max_frames
  pub segments : segment_count (patched patch line) ≤ max_segments

-- The patch leads from a timeline back to the one before.
pub record LeadsBack (patch : PatchOf) (line before : List Cell) : Type 0 where
  pub fits : IsPatchOf patch line
  pub back : patched patch line ≡ before

-- The timeline is patched and the answer leads back, or timeline and patch are as before.
abbrev pub Reverts : {E : Type 0} → PatchOf → (old new : List Cell) → Result PatchOf (PatchOf × E) → Type 0
Reverts patch old new (Ok back) = (new ≡ patched patch old) × LeadsBack back new old
Reverts patch old new (Err given) = (new ≡ old) × (given.0 ≡ patch)
