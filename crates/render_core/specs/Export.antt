-- An export: a copy of the timeline at its ask, and how far it has come.
use Rattle.std.specs.Prelude.{ℕ, Bool, true, false, List}
use Rattle.tl_model.specs.Cells.{Cell}
use Rattle.tl_model.specs.declared.fault.Ending.{Ending}
use Rattle.tl_model.specs.declared.segment.Segment.{Segment}
use Rattle.render_core.specs.declared.export.Stage.{Stage}
use Rattle.render_core.specs.declared.export.Stage.TheVariants as stage

pub record ExportOf : Type 0 where
  pub name : List ℕ
  pub line : List Cell
  pub stage : Stage

-- What the caller holds that took an export.
pub record ExportJobOf : Type 0 where
  pub export : ℕ
  pub name : List ℕ
  pub segments : List Segment

abbrev pub is_untaken_stage : Stage → Bool
is_untaken_stage stage.Untaken = true
is_untaken_stage (stage.Taken by) = false
is_untaken_stage (stage.Ended ending) = false

abbrev pub is_taken_stage : Stage → Bool
is_taken_stage stage.Untaken = false
is_taken_stage (stage.Taken by) = true
is_taken_stage (stage.Ended ending) = false

abbrev pub is_untaken : ExportOf → Bool
is_untaken export = is_untaken_stage export.stage

abbrev pub is_taken : ExportOf → Bool
is_taken export = is_taken_stage export.stage

abbrev pub with_taker : ℕ → ExportOf → ExportOf
with_taker pass export = record export { stage = stage.Taken pass }

abbrev pub with_ending : Ending → ExportOf → ExportOf
with_ending ending export = record export { stage = stage.Ended ending }
