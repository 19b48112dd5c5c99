-- What an export keeps until it is taken.
use Rattle.std.specs.Prelude.{◌≡◌, ℕ, List, Option, Some, None}
use Rattle.tl_model.specs.Cells.{Cell, cells}
use Rattle.tl_model.specs.Segment.{ArePieces}
use Rattle.render_core.specs.declared.export.Stage.{Stage}
use Rattle.render_core.specs.declared.export.Stage.TheVariants as stage
use Rattle.render_core.specs.declared.export.Waiting.{Waiting}
use Rattle.render_core.specs.Export.{ExportOf, ExportJobOf}
use Rattle.render_core.specs.State.{State, HoldsExport}

-- What an untaken export was asked with is there.
abbrev pub IsThere : Waiting → Option Waiting → Stage → Type 0
IsThere asked waiting stage.Untaken = waiting ≡ Some asked
IsThere asked waiting (stage.Taken by) = Unit {0}
IsThere asked waiting (stage.Ended ending) = Unit {0}

pub record Waits (asked : Waiting) (waiting : Option Waiting) (stage : Stage) : Type 0 where
  pub pieces : ArePieces asked.segments
  pub there : IsThere asked waiting stage

-- The export's name and timeline were taken.
abbrev pub Took : (name : List ℕ) → (line : List Cell) → Option ExportOf → Type 0
Took name line None = ⊥
Took name line (Some export) = (name ≡ export.name) × (line ≡ export.line)

-- Some pass holds the export of a job.
abbrev pub IsHeldExport : State → ExportJobOf → Type 0
IsHeldExport s job = (pass : ℕ) × HoldsExport s pass job.export job.name (cells job.segments)
