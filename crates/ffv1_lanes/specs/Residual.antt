-- What is coded for a sample. RFC 9043 section 3.8.
use Rattle.std.specs.Prelude.{ℕ, ℤ, pos, ◌-ℤ◌}
use Rattle.tl_base.specs.Arithmetic.{folded}

-- its difference from the prediction, folded to eight bits
abbrev pub residual : ℕ → ℕ → ℤ
residual sample predicted = folded (pos sample -ℤ pos predicted)
