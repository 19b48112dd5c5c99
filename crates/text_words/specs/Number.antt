-- Numbers in decimal digits.
use Rattle.std.specs.Prelude.{◌≡◌, ℕ, zero, suc, ◌+◌, ◌-◌, ◌*◌, ◌/◌, ◌%◌, Bool, ◌&&◌, nat_lt, nat_le, ◌==◌, if◌then◌else◌, ℤ, pos, neg_ℤ, List, [], ◌∷◌, ◌++◌, length, fold, max, Option, Some, None, option_map}
use Rattle.std.specs.List.{list_all}
use Rattle.std.specs.Char.{is_ascii_digit}
use Rattle.std.specs.Int.Digits.{digits_of}

-- The number that decimal digits spell, the first the highest.
abbrev pub value_of : List ℕ → ℕ
value_of digits = fold (λ value digit. 10 * value + (digit - 48)) 0 digits

-- A number has at least one digit and at most so many.
abbrev pub is_number : ℕ → List ℕ → Bool
is_number most word = (nat_lt 0 (length word) && nat_le (length word) most) && list_all is_ascii_digit word

abbrev pub within : ℕ → ℕ → ℕ → Option ℕ
within low high value = if nat_le low value && nat_le value high then Some value else None

-- The number from low to high that a word of at most so many digits spells.
unfoldable pub number : (most low high : ℕ) → List ℕ → Option ℕ
number most low high word = if is_number most word then within low high (value_of word) else None

-- The same of at most high, with a minus before it or not.
unfoldable pub signed_number : (most high : ℕ) → List ℕ → Option ℤ
signed_number most high [] = None
signed_number most high (sign ∷ digits) =
    if sign == 45
    then option_map (λ value. neg_ℤ (pos value)) (number most 0 high digits)
    else option_map (λ value. pos value) (number most 0 high (sign ∷ digits))

-- the last so many decimal digits of a number
unfoldable pub last_digits : ℕ → ℕ → List ℕ
last_digits zero number = []
last_digits (suc places) number = last_digits places (number / 10) ++ (48 + number % 10) ∷ []

-- A number is written in as many digits as it has, and at least so many.
unfoldable pub number_text : (least number : ℕ) → List ℕ
number_text least number = last_digits (max least (length (digits_of 10 number))) number

-- A list begins as before.
pub record Extends (old new : List ℕ) : Type 0 where
  pub more : List ℕ
  pub whole : new ≡ old ++ more
