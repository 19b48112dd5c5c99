-- A claim as contracts see it.
use Rattle.std.specs.Prelude.{◌≡◌, ℕ, List, [], ◌∷◌}
use Rattle.tl_model.specs.declared.journal.Act.{Act}
use Rattle.tl_model.specs.declared.journal.Act.TheVariants as act
use Rattle.tl_model.specs.declared.journal.Entry.{Entry}
use Rattle.tl_model.specs.declared.recipe.Recipe.{Recipe}

-- The number and the recipe of the job.
pub record ClaimOf : Type 0 where
  pub job : ℕ
  pub recipe : Recipe

-- The act is the end of this job.
abbrev pub EndsJob : ℕ → Act → Type 0
EndsJob n (act.Edit edit) = ⊥
EndsJob n act.Undo = ⊥
EndsJob n act.Redo = ⊥
EndsJob n (act.Want first len) = ⊥
EndsJob n (act.Cancel first len) = ⊥
EndsJob n act.Claim = ⊥
EndsJob n (act.File job) = job ≡ n
EndsJob n (act.Release job) = job ≡ n
EndsJob n (act.Play frame) = ⊥
EndsJob n (act.Show frame) = ⊥
EndsJob n (act.Ask name) = ⊥
EndsJob n act.Take = ⊥
EndsJob n (act.End export ending) = ⊥
EndsJob n (act.Mark turns) = ⊥
EndsJob n act.Skip = ⊥
EndsJob n act.Stop = ⊥

-- The act is the end of this export.
abbrev pub EndsExport : ℕ → Act → Type 0
EndsExport n (act.Edit edit) = ⊥
EndsExport n act.Undo = ⊥
EndsExport n act.Redo = ⊥
EndsExport n (act.Want first len) = ⊥
EndsExport n (act.Cancel first len) = ⊥
EndsExport n act.Claim = ⊥
EndsExport n (act.File job) = ⊥
EndsExport n (act.Release job) = ⊥
EndsExport n (act.Play frame) = ⊥
EndsExport n (act.Show frame) = ⊥
EndsExport n (act.Ask name) = ⊥
EndsExport n act.Take = ⊥
EndsExport n (act.End export ending) = export ≡ n
EndsExport n (act.Mark turns) = ⊥
EndsExport n act.Skip = ⊥
EndsExport n act.Stop = ⊥

-- None of the entries of this pass is such an end.
abbrev pub EndsNone : (Act → Type 0) → (pass : ℕ) → List Entry → Type 0
EndsNone ends pass [] = Unit {0}
EndsNone ends pass (e ∷ es) = (e.pass ≡ pass → ends e.act → ⊥) × EndsNone ends pass es
