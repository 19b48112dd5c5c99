-- A step of a dissolve, sample by sample.
use Rattle.std.specs.Prelude.{ℕ, ◌+◌, ◌-◌, ◌*◌, ◌/◌}

-- `weight` parts of 256 of the incoming sample b, and the rest of the outgoing sample a, to the nearest
abbrev pub blended : (weight a b : ℕ) → ℕ
blended weight a b = (a * (256 - weight) + b * weight + 128) / 256
