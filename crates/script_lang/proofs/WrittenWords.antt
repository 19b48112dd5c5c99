-- The words of a written line are single words in UTF-8, and are read as what they were written from.
use Rattle.std.proofs.Common.{◌≡◌, ℕ, ◌+◌, ◌/◌, ◌%◌, ◌<◌, ◌≤◌, ℤ, pos, negsuc, Bool, true, ◌&&◌, not, List, [], ◌∷◌, ◌++◌, length, flat_map, Some, option_map, Ok, codes, nat_eq, nat_lt, nat_le, refl, ◌∙◌, add-one, arith, lit<, lit≤}
use Rattle.std.specs.List.{list_all}
use Rattle.std.specs.Char.{is_ascii_digit}
use Rattle.std.specs.Str.{is_utf8, IsUtf8}
use Rattle.std.proofs.lemmas.Bool.Decides.{nat_tests}
use Rattle.std.proofs.lemmas.Str.{IsUtf8-append, IsUtf8-from_ascii, IsUtf8-from_is_utf8, IsUtf8-nil, is_utf8-from_IsUtf8}
use Rattle.std.proofs.lemmas.Str.Ascii.{IsAscii-nil, IsAscii-cons}
use Rattle.std.proofs.lemmas.List.{length-append}
use Rattle.std.proofs.lemmas.List.Folds.{list_all-append}
use Rattle.tl_limits.specs.Limits.{max_frames}
use Rattle.tl_model.specs.Edit.{IsNear}
use Rattle.text_words.specs.declared.blanks.Blanks.TheVariants.{SpaceTabReturn}
use Rattle.text_words.specs.Blanks.{text, is_blank}
use Rattle.text_words.specs.Law.{is_line, is_word}
use Rattle.text_words.specs.Number.{number, signed_number, number_text}
use Rattle.text_words.specs.Timecode.{timecode_text}
use Rattle.text_words.proofs.Reading.{numbers_read_back, length-number_text, digits-number_text}
use Rattle.script_lang.specs.Fields.{within, signed, name_of}
use Rattle.script_lang.specs.Line.{is_name, joined}
use Rattle.script_lang.specs.Lists.{Words}
use Rattle.script_lang.specs.Writing.{digits, signed_digits}
use Rattle.script_lang.proofs.Reread.{both, is_plain, other_byte}
use Rattle.script_lang.proofs.Soundness.{is_letters, letters_name}

joint : (a b : Bool) → a ≡ true → b ≡ true → (a && b) ≡ true
joint a b e f = rw (e, f) refl

all_weaker : (p q : ℕ → Bool) → ((b : ℕ) → p b ≡ true → q b ≡ true) → (xs : List ℕ) → list_all p xs ≡ true → list_all q xs ≡ true
all_weaker p q h [] e = refl
all_weaker p q h (x ∷ xs) e =
    let parts = both (p x) (list_all p xs) e in
    joint (q x) (list_all q xs) (h x parts.0) (all_weaker p q h xs parts.1)

all_append : (p : ℕ → Bool) (xs ys : List ℕ) → list_all p xs ≡ true → list_all p ys ≡ true → list_all p (xs ++ ys) ≡ true
all_append p xs ys e f = list_all-append p xs ys ∙ joint (list_all p xs) (list_all p ys) e f

-- ---- words of digits, colons and signs
is_mark : ℕ → Bool
is_mark b = nat_le 45 b && nat_le b 58

mark_low : (b : ℕ) → is_mark b ≡ true → nat_lt b 128 ≡ true
unfolding is_mark
mark_low b e = grind (arith, nat_tests)

mark_word : (b : ℕ) → is_mark b ≡ true → not (is_blank SpaceTabReturn b) ≡ true
unfolding is_mark
mark_word b e = grind (arith, nat_tests)

mark_line : (b : ℕ) → is_mark b ≡ true → (not (nat_eq b 10) && not (nat_eq b 13)) ≡ true
unfolding is_mark
mark_line b e = grind (arith, nat_tests)

digit_mark : (b : ℕ) → is_ascii_digit b ≡ true → is_mark b ≡ true
unfolding is_mark
digit_mark b e = grind (arith, nat_tests)

not_zero : (n : ℕ) → 0 < n → not (nat_eq n 0) ≡ true
not_zero n some = grind (arith, nat_tests)

marks_name : (word : List ℕ) → 0 < length word → list_all is_mark word ≡ true → is_name word ≡ true
unfolding is_letters is_plain
marks_name word some e =
    letters_name word (joint (list_all (λ b. nat_lt b 128) word) (is_word SpaceTabReturn word && is_line word)
    (all_weaker is_mark (λ b. nat_lt b 128) mark_low word e)
    (joint (is_word SpaceTabReturn word) (is_line word)
    (joint (not (nat_eq (length word) 0)) (list_all (λ b. not (is_blank SpaceTabReturn b)) word) (not_zero (length word) some)
    (all_weaker is_mark (λ b. not (is_blank SpaceTabReturn b)) mark_word word e))
    (all_weaker is_mark (λ b. not (nat_eq b 10) && not (nat_eq b 13)) mark_line word e)))

some_digits : (least n : ℕ) → 0 < least → 0 < length (number_text least n)
some_digits least n some = let len = length-number_text least n in omega arith

number_marks : (least n : ℕ) → list_all is_mark (number_text least n) ≡ true
number_marks least n = all_weaker is_ascii_digit is_mark digit_mark (number_text least n) (digits-number_text least n)

pub digits_name : (n : ℕ) → is_name (digits n) ≡ true
digits_name n = marks_name (digits n) (some_digits 1 n (omega arith)) (number_marks 1 n)

pub signed_name : (by : ℤ) → is_name (signed_digits by) ≡ true
unfolding is_mark
signed_name (pos n) = digits_name n
signed_name (negsuc n) = marks_name (45 ∷ digits (n + 1)) (omega arith) (number_marks 1 (n + 1))

clock_joined : (a b c d : List ℕ) → list_all is_mark a ≡ true → list_all is_mark b ≡ true → list_all is_mark c ≡ true → list_all is_mark d ≡ true
    → list_all is_mark (a ++ codes ":" ++ b ++ codes ":" ++ c ++ codes ":" ++ d) ≡ true
unfolding is_mark
clock_joined a b c d p q r s =
    all_append is_mark (a ++ codes ":" ++ b ++ codes ":" ++ c ++ codes ":") d (all_append is_mark (a ++ codes ":" ++ b ++ codes ":" ++ c) (codes ":")
    (all_append is_mark (a ++ codes ":" ++ b ++ codes ":") c (all_append is_mark (a ++ codes ":" ++ b) (codes ":")
    (all_append is_mark (a ++ codes ":") b (all_append is_mark a (codes ":") p refl) q) refl) r) refl) s

longer : (front back : List ℕ) → 0 < length back → 0 < length (front ++ back)
longer front back some = omega (arith, length-append front back)

pub timecode_name : (rate frame : ℕ) → is_name (timecode_text rate frame) ≡ true
unfolding timecode_text
timecode_name rate frame =
    marks_name (timecode_text rate frame) (longer _ (number_text 2 (frame % rate)) (some_digits 2 (frame % rate) (omega arith)))
    (clock_joined _ _ _ _ (number_marks 2 (frame / rate / 3600)) (number_marks 2 (frame / rate / 60 % 60)) (number_marks 2 (frame / rate % 60)) (number_marks 2 (frame % rate)))

-- ---- what the words say
pub within_again : (low high n : ℕ) → low ≤ n → n ≤ high → high < 10000000 → within low high (digits n) ≡ Ok n
unfolding within
within_again low high n above below few = rw (numbers_read_back 7 1 low high n (lit≤ tt) (lit≤ tt) (omega arith) above below) refl

unsigned : (most high : ℕ) (word : List ℕ) → list_all is_ascii_digit word ≡ true
    → signed_number most high word ≡ option_map (λ value. pos value) (number most 0 high word)
unfolding signed_number number
unsigned most high [] e = refl
unsigned most high (sign ∷ more) e = rw (other_byte sign 45 (both (is_ascii_digit sign) (list_all is_ascii_digit more) e).0 (lit< tt)) refl

small_again : (n : ℕ) → n ≤ max_frames → number 7 0 max_frames (digits n) ≡ Some n
small_again n few = numbers_read_back 7 1 0 max_frames n (lit≤ tt) (lit≤ tt) (omega arith) (omega arith) few

pub signed_again : (by : ℤ) → IsNear by → signed (signed_digits by) ≡ Ok by
unfolding signed signed_number
signed_again (pos n) near = rw (unsigned 7 max_frames (digits n) (digits-number_text 1 n), small_again n near) refl
signed_again (negsuc n) near =
    let few : n + 1 ≤ max_frames = omega arith in
    rw (small_again (n + 1) few, add-one) refl

pub name_again : (word : List ℕ) → is_name word ≡ true → name_of word ≡ Ok word
unfolding name_of text
name_again word e = rw ((both (is_utf8 word) (is_word SpaceTabReturn word && is_line word) e).0) refl

-- ---- lines
pub names_plain : (ws : Words) → list_all is_name ws ≡ true → list_all is_plain ws ≡ true
unfolding is_plain
names_plain [] e = refl
names_plain (w ∷ more) e =
    let parts = both (is_name w) (list_all is_name more) e in
    joint (is_word SpaceTabReturn w && is_line w) (list_all is_plain more)
    (both (is_utf8 w) (is_word SpaceTabReturn w && is_line w) parts.0).1 (names_plain more parts.1)

name_utf8 : (word : List ℕ) → is_name word ≡ true → IsUtf8 word
name_utf8 word e = IsUtf8-from_is_utf8 word (both (is_utf8 word) (is_word SpaceTabReturn word && is_line word) e).0

more_utf8 : (ws : Words) → list_all is_name ws ≡ true → IsUtf8 (flat_map (λ next. 32 ∷ next) ws)
more_utf8 [] e = IsUtf8-nil
more_utf8 (w ∷ more) e =
    let parts = both (is_name w) (list_all is_name more) e in
    IsUtf8-append (32 ∷ w) (flat_map (λ next. 32 ∷ next) more)
    (IsUtf8-append (32 ∷ []) w (IsUtf8-from_ascii (32 ∷ []) (IsAscii-cons 32 [] (lit< tt) IsAscii-nil)) (name_utf8 w parts.0)) (more_utf8 more parts.1)

pub joined_utf8 : (w : List ℕ) (ws : Words) → list_all is_name (w ∷ ws) ≡ true → is_utf8 (joined (w ∷ ws)) ≡ true
unfolding joined
joined_utf8 w ws e =
    let parts = both (is_name w) (list_all is_name ws) e in
    is_utf8-from_IsUtf8 (joined (w ∷ ws)) (IsUtf8-append w (flat_map (λ next. 32 ∷ next) ws) (name_utf8 w parts.0) (more_utf8 ws parts.1))
