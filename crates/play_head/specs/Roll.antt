-- The calls of a roll: frames are played one after another, and each is wanted eight frames ahead.
use Rattle.std.specs.Prelude.{ℕ, ◌+◌, nat_lt, if◌then◌else◌, min, List, [], ◌∷◌}
use Rattle.std.specs.List.{flat_map}
use Rattle.tl_model.specs.Cells.{run}
use Rattle.tl_model.specs.declared.journal.Act.{Act}
use Rattle.tl_model.specs.declared.journal.Act.TheVariants as act

-- how many frames are wanted ahead
abbrev pub ahead : ℕ
ahead = 8

-- frame i of the roll is played, and then the one eight frames on is wanted, where there is one
abbrev pub frame_calls : (first len i : ℕ) → List Act
frame_calls first len i = act.Play (first + i) ∷ (if nat_lt (i + ahead) len then act.Want (first + i + ahead) 1 ∷ [] else [])

-- The first eight frames are wanted, or all where there are fewer; then come the calls of each frame.
abbrev pub roll_calls : (first len : ℕ) → List Act
roll_calls first len = act.Want first (min len ahead) ∷ flat_map (frame_calls first len) (run (λ i. i) 0 len)

-- A call of a roll wants or plays.
abbrev pub IsRollCall : Act → Type 0
IsRollCall (act.Want first len) = Unit {0}
IsRollCall (act.Play n) = Unit {0}
IsRollCall other = ⊥
