-- Bytes of numbers and timecodes.
use Rattle.std.proofs.Common.{◌≡◌, ℕ, zero, suc, ◌+◌, ◌/◌, ◌%◌, ◌<◌, ◌≤◌, Bool, true, false, ◌&&◌, ◌||◌, not, nat_eq, nat_lt, nat_le, List, [], ◌∷◌, ◌++◌, length, get_or, refl, ap, sym, ◌∙◌, arith, codes}
use Rattle.std.specs.List.{list_all, list_any}
use Rattle.std.specs.Str.{IsUtf8, IsAscii}
use Rattle.std.specs.Char.{is_ascii_digit}
use Rattle.std.proofs.lemmas.Str.{IsUtf8-from_ascii}
use Rattle.std.proofs.lemmas.Bool.Decides.{nat_tests}
use Rattle.std.proofs.lemmas.List.{length-append}
use Rattle.std.proofs.lemmas.List.Folds.{list_all-append}
use Rattle.text_words.specs.declared.blanks.Blanks.TheVariants.{SpaceTab}
use Rattle.text_words.specs.Blanks.{is_blank}
use Rattle.text_words.specs.Law.{is_line, is_word}
use Rattle.text_words.specs.Number.{number_text}
use Rattle.text_words.specs.Timecode.{timecode_text}
use Rattle.text_words.proofs.Reading.{digits-number_text, length-number_text}

pub both : (a b : Bool) → (a && b) ≡ true → (a ≡ true) × (b ≡ true)
both true b e = (refl, e)
both false b e = absurd (cc)

pub joint : (a b : Bool) → a ≡ true → b ≡ true → (a && b) ≡ true
joint a b e f = rw (e, f) refl

-- a digit or a colon
pub is_clock : ℕ → Bool
is_clock b = nat_le 48 b && nat_le b 58

pub clock_word : (b : ℕ) → is_clock b ≡ true → not (is_blank SpaceTab b) ≡ true
unfolding is_clock
clock_word b e = grind (arith, nat_tests)

pub clock_line : (b : ℕ) → is_clock b ≡ true → (not (nat_eq b 10) && not (nat_eq b 13)) ≡ true
unfolding is_clock
clock_line b e = grind (arith, nat_tests)

pub clock_semicolon : (b : ℕ) → is_clock b ≡ true → not (nat_eq b 59) ≡ true
unfolding is_clock
clock_semicolon b e = grind (arith, nat_tests)

pub clock_ascii : (b : ℕ) → is_clock b ≡ true → nat_lt b 128 ≡ true
unfolding is_clock
clock_ascii b e = grind (arith, nat_tests)

pub digit_clock : (b : ℕ) → is_ascii_digit b ≡ true → is_clock b ≡ true
unfolding is_clock
digit_clock b e = grind (arith, nat_tests)

pub all_weaker : (p q : ℕ → Bool) → ((b : ℕ) → p b ≡ true → q b ≡ true) → (xs : List ℕ) → list_all p xs ≡ true → list_all q xs ≡ true
all_weaker p q h [] e = refl
all_weaker p q h (x ∷ xs) e =
    let parts = both (p x) (list_all p xs) e in
    joint (q x) (list_all q xs) (h x parts.0) (all_weaker p q h xs parts.1)

pub all_append : (p : ℕ → Bool) (xs ys : List ℕ) → list_all p xs ≡ true → list_all p ys ≡ true → list_all p (xs ++ ys) ≡ true
all_append p xs ys e f = list_all-append p xs ys ∙ joint (list_all p xs) (list_all p ys) e f

ascii_at : (xs : List ℕ) → list_all (λ b. nat_lt b 128) xs ≡ true → (i : ℕ) → get_or xs i 0 < 128
ascii_at [] e i = omega arith
ascii_at (x ∷ xs) e zero = let h = (both (nat_lt x 128) (list_all (λ b. nat_lt b 128) xs) e).0 in grind (arith, nat_tests)
ascii_at (x ∷ xs) e (suc i) = ascii_at xs (both (nat_lt x 128) (list_all (λ b. nat_lt b 128) xs) e).1 i

pub ascii_utf8 : (xs : List ℕ) → list_all (λ b. nat_lt b 128) xs ≡ true → IsUtf8 xs
ascii_utf8 xs e = IsUtf8-from_ascii xs (ascii_at xs e)

-- ---- the texts of numbers and timecodes
pub clock-number : (least n : ℕ) → list_all is_clock (number_text least n) ≡ true
clock-number least n = all_weaker is_ascii_digit is_clock digit_clock (number_text least n) (digits-number_text least n)

clock_joined : (a b c d : List ℕ) → list_all is_clock a ≡ true → list_all is_clock b ≡ true → list_all is_clock c ≡ true → list_all is_clock d ≡ true
    → list_all is_clock (a ++ codes ":" ++ b ++ codes ":" ++ c ++ codes ":" ++ d) ≡ true
unfolding is_clock
clock_joined a b c d p q r s =
    all_append is_clock (a ++ codes ":" ++ b ++ codes ":" ++ c ++ codes ":") d (all_append is_clock (a ++ codes ":" ++ b ++ codes ":" ++ c) (codes ":")
    (all_append is_clock (a ++ codes ":" ++ b ++ codes ":") c (all_append is_clock (a ++ codes ":" ++ b) (codes ":")
    (all_append is_clock (a ++ codes ":") b (all_append is_clock a (codes ":") p refl) q) refl) r) refl) s

pub clock-timecode : (rate frame : ℕ) → list_all is_clock (timecode_text rate frame) ≡ true
unfolding timecode_text
clock-timecode rate frame = clock_joined _ _ _ _ (clock-number 2 (frame / rate / 3600)) (clock-number 2 (frame / rate / 60 % 60)) (clock-number 2 (frame / rate % 60)) (clock-number 2 (frame % rate))

longer : (x d : List ℕ) → 0 < length d → 0 < length (x ++ d)
longer x d h = omega (arith, length-append x d)

pub some-number : (least n : ℕ) → 0 < least → 0 < length (number_text least n)
some-number least n some = let len = length-number_text least n in omega arith

pub length-timecode : (rate frame : ℕ) → 0 < length (timecode_text rate frame)
unfolding timecode_text
length-timecode rate frame = longer _ (number_text 2 (frame % rate)) (some-number 2 (frame % rate) (omega arith))

not_zero : (n : ℕ) → 0 < n → not (nat_eq n 0) ≡ true
not_zero n some = grind (arith, nat_tests)

pub clock_is_word : (xs : List ℕ) → 0 < length xs → list_all is_clock xs ≡ true → is_word SpaceTab xs ≡ true
clock_is_word xs some e = joint (not (nat_eq (length xs) 0)) (list_all (λ b. not (is_blank SpaceTab b)) xs) (not_zero (length xs) some) (all_weaker is_clock (λ b. not (is_blank SpaceTab b)) clock_word xs e)

pub clock_is_line : (xs : List ℕ) → list_all is_clock xs ≡ true → is_line xs ≡ true
clock_is_line xs e = all_weaker is_clock (λ b. not (nat_eq b 10) && not (nat_eq b 13)) clock_line xs e

no_any : (xs : List ℕ) → list_all (λ b. not (nat_eq b 59)) xs ≡ true → list_any (λ b. nat_eq b 59) xs ≡ false
no_any [] e = refl
no_any (x ∷ xs) e =
    let parts = both (not (nat_eq x 59)) (list_all (λ b. not (nat_eq b 59)) xs) e in
    rw (not_true (nat_eq x 59) parts.0, no_any xs parts.1) refl
  where
    not_true : (b : Bool) → not b ≡ true → b ≡ false
    not_true true e = absurd (cc)
    not_true false e = refl

pub clock_semicolons : (xs : List ℕ) → list_all is_clock xs ≡ true → list_any (λ b. nat_eq b 59) xs ≡ false
clock_semicolons xs e = no_any xs (all_weaker is_clock (λ b. not (nat_eq b 59)) clock_semicolon xs e)
