-- Formulas of the predictor. RFC 9043 sections 3.3 and 3.8.
use Rattle.std.specs.Prelude.{ℤ, pos, ◌+ℤ◌, ◌-ℤ◌, ◌≤ℤ◌}
use Rattle.std.specs.Int.{int_min, int_max, int_rem_euclid}

-- the middle one of three numbers
abbrev pub median : ℤ → ℤ → ℤ → ℤ
median a b c = int_max (int_min a b) (int_min (int_max a b) c)

-- a difference modulo 256, from -128 to 127
abbrev pub folded : ℤ → ℤ
folded d = int_rem_euclid (d +ℤ pos 128) (pos 256) -ℤ pos 128

-- the number that lies between each two of three numbers
abbrev pub IsBetween : ℤ → ℤ → ℤ → Type 0
IsBetween a b m = (int_min a b ≤ℤ m) × (m ≤ℤ int_max a b)

pub record IsMiddle (a b c m : ℤ) : Type 0 where
  pub first : IsBetween a b m
  pub second : IsBetween b c m
  pub third : IsBetween a c m
