-- The words of a line are read as that line.
use Rattle.std.proofs.Common.{◌≡◌, ℕ, ◌+◌, ◌-◌, ◌*◌, ◌/◌, ◌%◌, ◌^◌, ◌<◌, ◌≤◌, Bool, true, false, ◌&&◌, not, List, [], ◌∷◌, ◌++◌, length, map, flat_map, fold, Option, Some, None, refl, ap, sym, ◌∙◌, arith, codes, decimal, nat_lt, nat_le, nat_eq, lit<}
use Rattle.std.specs.List.{list_all}
use Rattle.std.specs.Char.{is_ascii_digit}
use Rattle.std.proofs.lemmas.Fmt.{decimal_by_steps}
use Rattle.std.proofs.lemmas.Grind.{fold-append}
use Rattle.std.proofs.lemmas.Bool.{le-leb, lt-ltb, leb-true, ne_eqb}
use Rattle.std.proofs.lemmas.List.{length-append}
use Rattle.std.proofs.lemmas.List.Folds.{list_all-append}
use Rattle.text_words.specs.declared.blanks.Blanks.TheVariants.{SpaceTabReturn}
use Rattle.text_words.specs.Blanks.{is_blank}
use Rattle.text_words.specs.Law.{is_line, is_word}
use Rattle.script_lang.specs.Parsed.{next_value, long_number, number}

digit_passes : (d : ℕ) → d < 10 → is_ascii_digit (48 + d) ≡ true
digit_passes d small =
    let above : 48 ≤ 48 + d = omega arith in
    let below : 48 + d ≤ 57 = omega arith in
    rw (le-leb 48 (48 + d) above, le-leb (48 + d) 57 below) refl

-- one more digit
digit_more : (value d : ℕ) → d < 10 → 10 * value + d < 2 ^ 64 → next_value (Some value) (48 + d) ≡ Some (10 * value + d)
digit_more value d small fits =
    let same : 48 + d - 48 ≡ d = omega arith in
    rw (digit_passes d small, same, lt-ltb (10 * value + d) (2 ^ 64) fits) refl

Reads : ℕ → List ℕ → Type 0
Reads n digits = n < 2 ^ 64 → fold next_value (Some 0) digits ≡ Some n

reads_one : (n : ℕ) → n < 10 → Reads n ((48 + n) ∷ [])
unfolding Reads
reads_one n small fits = digit_more 0 n small (omega arith) ∙ ap Some (omega arith)

reads_more : (n : ℕ) (digits : List ℕ) → 10 ≤ n → Reads (n / 10) digits → Reads n (digits ++ ((48 + n % 10) ∷ []))
unfolding Reads
reads_more n digits high before fits =
    let less : n / 10 < 2 ^ 64 = omega arith in
    let whole : 10 * (n / 10) + n % 10 ≡ n = omega arith in
    let room : 10 * (n / 10) + n % 10 < 2 ^ 64 = omega arith in
    fold-append next_value (Some 0) digits ((48 + n % 10) ∷ [])
    ∙ ap (λ value. next_value value (48 + n % 10)) (before less)
    ∙ digit_more (n / 10) (n % 10) (omega arith) room ∙ ap Some whole

pub long_number-decimal : (n : ℕ) → n < 2 ^ 64 → long_number (decimal n) ≡ Some n
unfolding long_number Reads
long_number-decimal n fits = decimal_by_steps Reads reads_one reads_more n fits fits

pub number-decimal : (n : ℕ) → n < 2 ^ 32 → number (decimal n) ≡ Some n
unfolding number
number-decimal n fits = rw (long_number-decimal n (omega arith), lt-ltb n (2 ^ 32) fits) refl

-- ---- words that have neither blanks nor ends of lines
pub both : (a b : Bool) → (a && b) ≡ true → (a ≡ true) × (b ≡ true)
both true b e = (refl, e)
both false b e = absurd (cc)

unfoldable pub is_plain : List ℕ → Bool
is_plain word = is_word SpaceTabReturn word && is_line word

digit_bounds : (b : ℕ) → is_ascii_digit b ≡ true → (48 ≤ b) × (b ≤ 57)
digit_bounds b e = let parts = both (nat_le 48 b) (nat_le b 57) e in (leb-true 48 b parts.0, leb-true b 57 parts.1)

pub other_byte : (b other : ℕ) → is_ascii_digit b ≡ true → other < 48 → nat_eq b other ≡ false
other_byte b other e low = let bounds = digit_bounds b e in ne_eqb b other (λ same. omega arith)

digits_unblank : (digits : List ℕ) → list_all is_ascii_digit digits ≡ true
    → list_all (λ byte. not (is_blank SpaceTabReturn byte)) digits ≡ true
digits_unblank [] e = refl
digits_unblank (b ∷ more) e =
    let parts = both (is_ascii_digit b) (list_all is_ascii_digit more) e in
    rw (
      other_byte b 32 parts.0 (lit< tt),
      other_byte b 9 parts.0 (lit< tt),
      other_byte b 13 parts.0 (lit< tt),
      digits_unblank more parts.1,
    ) refl

digits_is_line : (digits : List ℕ) → list_all is_ascii_digit digits ≡ true → is_line digits ≡ true
digits_is_line [] e = refl
digits_is_line (b ∷ more) e =
    let parts = both (is_ascii_digit b) (list_all is_ascii_digit more) e in
    rw (other_byte b 10 parts.0 (lit< tt), other_byte b 13 parts.0 (lit< tt), digits_is_line more parts.1) refl

Digits : ℕ → List ℕ → Type 0
Digits n digits = (list_all is_ascii_digit digits ≡ true) × (0 < length digits)

digits_one : (n : ℕ) → n < 10 → Digits n ((48 + n) ∷ [])
unfolding Digits
digits_one n small = (rw (digit_passes n small) refl, lit< tt)

digits_more : (n : ℕ) (digits : List ℕ) → 10 ≤ n → Digits (n / 10) digits → Digits n (digits ++ ((48 + n % 10) ∷ []))
unfolding Digits
digits_more n digits high before = (
  rw (list_all-append is_ascii_digit digits ((48 + n % 10) ∷ []), before.0, digit_passes (n % 10) (omega arith)) refl,
  omega (arith, length-append digits ((48 + n % 10) ∷ []), before.1),
)

pub decimal_plain : (n : ℕ) → n < 2 ^ 64 → is_plain (decimal n) ≡ true
unfolding Digits is_plain
decimal_plain n fits =
    let digits : (list_all is_ascii_digit (decimal n) ≡ true) × (0 < length (decimal n)) =
    decimal_by_steps Digits digits_one digits_more n fits in
    rw (
      ne_eqb (length (decimal n)) 0 (λ none. omega (arith, digits.1)),
      digits_unblank (decimal n) digits.0,
      digits_is_line (decimal n) digits.0,
    ) refl
