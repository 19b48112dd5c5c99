-- What is answered.
use Rattle.std.specs.Prelude.{◌≡◌, ℕ, ◌≤◌}
use Rattle.work_gen.specs.declared.make.Generated.{Generated}
use Rattle.work_gen.specs.Script.{script}
use Rattle.work_gen.specs.Clip.{IsClip}

-- the most frames of a generated clip
abbrev pub max_generated : ℕ
max_generated = 1000

abbrev pub IsCount : ℕ → Type 0
IsCount frames = (1 ≤ frames) × (frames ≤ max_generated)

-- The script and the clip of so many frames.
abbrev pub Gives : (frames : ℕ) → Generated → Type 0
Gives frames generated = (generated.script.items ≡ script frames) × IsClip frames generated.clip.items
