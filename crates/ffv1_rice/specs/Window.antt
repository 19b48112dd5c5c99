-- Words of 64 bits that begin as a list of bits does.
use Rattle.std.specs.Prelude.{◌≡◌, ℕ, ◌-◌, ◌/◌, ◌^◌, ◌<◌, ◌≤◌, List}
use Rattle.std.specs.List.{AllByRecursion}
use Rattle.ffv1_rice.specs.Bits.{number_at}

abbrev pub AreBits : List ℕ → Type 0
AreBits bits = AllByRecursion (λ bit. bit < 2) bits

-- Of the next bits, for each count up to 57, the word's highest ones are the number.
pub record IsWindow (word : ℕ) (bits : List ℕ) : Type 0 where
  pub are_bits : AreBits bits
  pub highest : (n : ℕ) → n ≤ 57 → word / 2 ^ (64 - n) ≡ number_at n bits
