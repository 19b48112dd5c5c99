-- What is left of a roll.
use Rattle.std.specs.Prelude.{ℕ, ◌-◌, List, [], ◌∷◌, Option, Some, None}
use Rattle.std.specs.List.{flat_map}
use Rattle.tl_model.specs.Cells.{run}
use Rattle.tl_model.specs.declared.journal.Act.{Act}
use Rattle.tl_model.specs.declared.journal.Act.TheVariants as act
use Rattle.play_head.specs.declared.roll.Due.{Due}
use Rattle.play_head.specs.Roll.{frame_calls}

-- the want that comes next, where one does
abbrev pub due_calls : Option Due → List Act
due_calls None = []
due_calls (Some due) = act.Want due.first due.len ∷ []

-- the calls of the frames that weren't played
unfoldable pub frames_left : (first len played : ℕ) → List Act
frames_left first len played = flat_map (frame_calls first len) (run (λ i. i) played (len - played))
