-- Numbers and timecodes are read as they were written.
use Rattle.std.proofs.Common.{◌≡◌, ℕ, zero, suc, ◌+◌, ◌-◌, ◌*◌, ◌/◌, ◌%◌, ◌^◌, ◌<◌, ◌≤◌, true, List, [], ◌∷◌, ◌++◌, length, max, Some, refl, ap, sym, ◌∙◌, arith, lit<, lit≤, codes}
use Rattle.std.specs.List.{list_all}
use Rattle.std.specs.Char.{is_ascii_digit}
use Rattle.std.specs.Int.Digits.{digits_of}
use Rattle.std.proofs.lemmas.Int.Digits.{number_lt, number_digits_of, all_below_base_digits_of, length-digits_of-le}
use Rattle.std.proofs.lemmas.List.{length-append}
use Rattle.std.proofs.lemmas.List.Folds.{list_all-append}
use Rattle.std.proofs.lemmas.Grind.{fold-append, pow_more}
use Rattle.std.proofs.lemmas.Bool.{le-leb, lt-ltb}
use Rattle.std.proofs.Math.Nat.{pow-le-pow_right, div-add-mod, div-lt_iff_lt-mul, mul_comm}
use Rattle.tl_limits.specs.Limits.{IsRate}
use Rattle.text_words.specs.Number.{number, value_of, last_digits, number_text}
use Rattle.text_words.specs.Timecode.{timecode, timecode_text, pair_of, frames_of, frame_number}
use Rattle.text_words.specs.Law.{NumbersReadBack, TimecodesReadBack}
use Rattle.text_words.proofs.Writing.{number_text-step, number_text-zero}

-- ---- the digits
length-last_digits : (places n : ℕ) → length (last_digits places n) ≡ places
unfolding last_digits
length-last_digits zero n = refl
length-last_digits (suc places) n = omega (arith, length-append (last_digits places (n / 10)) ((48 + n % 10) ∷ []), length-last_digits places (n / 10))

digit_passes : (d : ℕ) → d < 10 → is_ascii_digit (48 + d) ≡ true
digit_passes d small =
    let above : 48 ≤ 48 + d = omega arith in
    let below : 48 + d ≤ 57 = omega arith in
    rw (le-leb 48 (48 + d) above, le-leb (48 + d) 57 below) refl

digits_pass : (places n : ℕ) → list_all is_ascii_digit (last_digits places n) ≡ true
unfolding last_digits
digits_pass zero n = refl
digits_pass (suc places) n = rw (list_all-append is_ascii_digit (last_digits places (n / 10)) ((48 + n % 10) ∷ []), digits_pass places (n / 10), digit_passes (n % 10) (omega arith)) refl

value-last_digits : (places n : ℕ) → n < 10 ^ places → value_of (last_digits places n) ≡ n
unfolding last_digits
value-last_digits zero n small = omega arith
value-last_digits (suc places) n small =
    let less : n / 10 < 10 ^ places = omega (arith, pow_more 10 places) in
    fold-append (λ value digit. 10 * value + (digit - 48)) 0 (last_digits places (n / 10)) ((48 + n % 10) ∷ [])
    ∙ rw (value-last_digits places (n / 10) less) (omega arith)

enough : (least n : ℕ) → n < 10 ^ max least (length (digits_of 10 n))
enough least n =
    let own : n < 10 ^ length (digits_of 10 n) = rw (number_digits_of 10 n (lit≤ tt)) at (number_lt 10 (digits_of 10 n) (all_below_base_digits_of 10 n (lit≤ tt))) in
    let fewer : length (digits_of 10 n) ≤ max least (length (digits_of 10 n)) = omega arith in
    let more : 10 ^ length (digits_of 10 n) ≤ 10 ^ max least (length (digits_of 10 n)) = pow-le-pow_right (lit< tt) fewer in
    omega arith

pub length-number_text : (least n : ℕ) → length (number_text least n) ≡ max least (length (digits_of 10 n))
unfolding number_text
length-number_text least n = length-last_digits (max least (length (digits_of 10 n))) n

pub digits-number_text : (least n : ℕ) → list_all is_ascii_digit (number_text least n) ≡ true
unfolding number_text
digits-number_text least n = digits_pass (max least (length (digits_of 10 n))) n

value-number_text : (least n : ℕ) → value_of (number_text least n) ≡ n
unfolding number_text
value-number_text least n = value-last_digits (max least (length (digits_of 10 n))) n (enough least n)

pub numbers_read_back : NumbersReadBack
unfolding number
numbers_read_back most least low high n some few small above below =
    let short : length (digits_of 10 n) ≤ most = length-digits_of-le 10 most n (lit≤ tt) small in
    let len = length-number_text least n in
    let has : 0 < length (number_text least n) = omega arith in
    let fits : length (number_text least n) ≤ most = omega arith in
    rw (lt-ltb 0 (length (number_text least n)) has, le-leb (length (number_text least n)) most fits, digits-number_text least n, value-number_text least n, le-leb low n above, le-leb n high below) refl

-- ---- timecodes
two_digits : (n : ℕ) → n < 100 → number_text 2 n ≡ (48 + n / 10) ∷ (48 + n % 10) ∷ []
two_digits n small =
    let none : n / 10 / 10 ≡ 0 = omega arith in
    let tens : n / 10 % 10 ≡ n / 10 = omega arith in
    let first : number_text 1 (n / 10) ≡ (48 + n / 10) ∷ [] = number_text-step 1 (n / 10) (omega arith) ∙ rw (none, tens, number_text-zero) refl in
    number_text-step 2 n (omega arith) ∙ ap (λ front. front ++ (48 + n % 10) ∷ []) first

pair_again : (high n : ℕ) → n ≤ high → high < 100 → pair_of high (48 + n / 10) (48 + n % 10) ≡ Some n
pair_again high n below small =
    ap (number 2 0 high) (sym (two_digits n (omega arith))) ∙ numbers_read_back 2 2 0 high n (omega arith) (omega arith) (omega arith) (omega arith) below

frames_again : (rate n : ℕ) → IsRate rate → n < rate → frames_of rate (number_text 2 n) ≡ Some n
frames_again rate n bounds below =
    let len = length-number_text 2 n in
    let long : 2 ≤ length (number_text 2 n) = omega arith in
    rw (le-leb 2 (length (number_text 2 n)) long) (numbers_read_back 3 2 0 (rate - 1) n (omega arith) (omega arith) (omega arith) (omega arith) (omega arith))

-- the parts of a timecode, the last as it is
parts_text : (h m s : ℕ) → List ℕ → List ℕ
parts_text h m s frames = number_text 2 h ++ codes ":" ++ number_text 2 m ++ codes ":" ++ number_text 2 s ++ codes ":" ++ frames

parts_again : (rate h m s n : ℕ) → IsRate rate → h ≤ 23 → m ≤ 59 → s ≤ 59 → n < rate → timecode rate (parts_text h m s (number_text 2 n)) ≡ Some (frame_number rate h m s n)
unfolding timecode parts_text
parts_again rate h m s n bounds hours minutes seconds frames =
    rw (two_digits h (omega arith), two_digits m (omega arith), two_digits s (omega arith))
    (rw (pair_again 23 h hours (omega arith), pair_again 59 m minutes (omega arith), pair_again 59 s seconds (omega arith), frames_again rate n bounds frames) refl)

all_seconds : (q : ℕ) → 3600 * (q / 3600) + 60 * (q / 60 % 60) + q % 60 ≡ q
all_seconds q = omega arith

pub timecodes_read_back : TimecodesReadBack
unfolding timecode_text parts_text
timecodes_read_back rate frame bounds small =
    let some : 0 < rate = omega arith in
    let q : ℕ = frame / rate in
    let whole : q < 86400 = (div-lt_iff_lt-mul some).1 small in
    let rest : frame % rate < rate = omega arith in
    parts_again rate (q / 3600) (q / 60 % 60) (q % 60) (frame % rate) bounds (omega arith) (omega arith) (omega arith) rest
    ∙ ap Some (ap (λ seconds. seconds * rate + frame % rate) (all_seconds q) ∙ ap (λ n. n + frame % rate) (mul_comm q rate) ∙ div-add-mod frame rate)
