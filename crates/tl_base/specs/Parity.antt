-- Parity: the remainder of a polynomial over GF(2). RFC 9043 sections 4.3.2 and 4.9.3.
-- A polynomial is the list of its coefficients, 0 or 1, the highest power first, or the whole number with these as its bits.
use Rattle.std.specs.Prelude.{◌≡◌, ℕ, zero, suc, ◌+◌, ◌*◌, ◌<◌, ◌^◌, if◌then◌else◌, nat_lt, List, [], ◌∷◌, ◌++◌, bit_xor, replicate}
use Rattle.std.specs.Int.{bit_at}
use Rattle.std.specs.List.{fold, flat_map}

-- x ^ 32 + x ^ 26 + x ^ 23 + x ^ 22 + x ^ 16 + x ^ 12 + x ^ 11 + x ^ 10 + x ^ 8 + x ^ 7 + x ^ 5 + x ^ 4 + x ^ 2 + x + 1
abbrev pub generator : ℕ
generator = 0x104C11DB7

-- the lowest n bits of a number, the highest of them first
abbrev pub bits_of : ℕ → ℕ → List ℕ
bits_of zero number = []
bits_of (suc n) number = bit_at number n ∷ bits_of n number

-- bytes as coefficients, each byte's highest bit first
abbrev pub coefficients : List ℕ → List ℕ
coefficients bytes = flat_map (bits_of 8) bytes

-- a remainder times x and one more coefficient, reduced by the generator
unfoldable pub reduced : ℕ → ℕ → ℕ
reduced remainder coefficient =
    let product = 2 * remainder + coefficient in
    if nat_lt product (2 ^ 32) then product else bit_xor product generator

-- the remainder of a division by the generator, long division over the coefficients
abbrev pub remainder : List ℕ → ℕ
remainder dividend = fold reduced 0 dividend

-- the remainder of the bytes followed by 32 zero bits
unfoldable pub parity : List ℕ → ℕ
parity bytes = remainder (coefficients bytes ++ replicate 32 0)

-- a remainder times x ^ n
unfoldable pub times : ℕ → ℕ → ℕ
times zero r = r
times (suc n) r = times n (reduced r 0)

-- ---- what a remainder is: the dividend is a multiple of the generator, and the remainder, of a degree below 32
-- a polynomial as a whole number
abbrev pub number_of : List ℕ → ℕ
number_of polynomial = fold (λ n coefficient. 2 * n + coefficient) 0 polynomial

-- the generator times a polynomial: sums over GF(2) are exclusive ors
abbrev pub multiple : List ℕ → ℕ
multiple quotient = fold (λ n coefficient. bit_xor (2 * n) (coefficient * generator)) 0 quotient

pub record IsRemainder (dividend : List ℕ) (r : ℕ) : Type 0 where
  pub quotient : List ℕ
  pub below : r < 2 ^ 32
  pub divides : number_of dividend ≡ bit_xor (multiple quotient) r
