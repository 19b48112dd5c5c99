-- What trimming takes from an end.
use Rattle.std.proofs.Common.{◌≡◌, ℕ, ◌+◌, ◌-◌, ◌<◌, Bool, true, false, ◌&&◌, List, [], ◌∷◌, ◌++◌, length, take, get_or, refl, ap, sym, ◌∙◌, arith}
use Rattle.std.specs.List.{list_all}
use Rattle.std.proofs.lemmas.List.{take_more, take_all}
use Rattle.text_words.specs.declared.blanks.Blanks.{Blanks}
use Rattle.text_words.specs.Blanks.{is_blank, without_trailing}

and_false : (b : Bool) → (b && false) ≡ false
and_false true = refl
and_false false = refl

all-blank : (blanks : Blanks) (xs : List ℕ) (byte : ℕ) → is_blank blanks byte ≡ true → list_all (is_blank blanks) (xs ++ byte ∷ []) ≡ list_all (is_blank blanks) xs
all-blank blanks [] byte e = rw e refl
all-blank blanks (x ∷ xs) byte e = ap (λ b. is_blank blanks x && b) (all-blank blanks xs byte e)

all-other : (blanks : Blanks) (xs : List ℕ) (byte : ℕ) → is_blank blanks byte ≡ false → list_all (is_blank blanks) (xs ++ byte ∷ []) ≡ false
all-other blanks [] byte e = rw e refl
all-other blanks (x ∷ xs) byte e = ap (λ b. is_blank blanks x && b) (all-other blanks xs byte e) ∙ and_false (is_blank blanks x)

pub trailing-blank : (blanks : Blanks) (kept : List ℕ) (byte : ℕ) → is_blank blanks byte ≡ true → without_trailing blanks (kept ++ byte ∷ []) ≡ without_trailing blanks kept
unfolding without_trailing
trailing-blank blanks [] byte e = rw e refl
trailing-blank blanks (x ∷ xs) byte e = rw (all-blank blanks xs byte e, trailing-blank blanks xs byte e) refl

pub trailing-other : (blanks : Blanks) (kept : List ℕ) (byte : ℕ) → is_blank blanks byte ≡ false → without_trailing blanks (kept ++ byte ∷ []) ≡ kept ++ byte ∷ []
unfolding without_trailing
trailing-other blanks [] byte e = rw e refl
trailing-other blanks (x ∷ xs) byte e = rw (all-other blanks xs byte e, and_false (is_blank blanks x), trailing-other blanks xs byte e) refl

-- a list with its last item by itself
split_last : (kept : List ℕ) → 0 < length kept → kept ≡ take (length kept - 1) kept ++ get_or kept (length kept - 1) 0 ∷ []
split_last kept some =
    let before : length kept - 1 < length kept = omega arith in
    let whole : (length kept - 1) + 1 ≡ length kept = omega arith in
    sym (take_all (length kept) kept (omega arith)) ∙ ap (λ n. take n kept) (sym whole) ∙ take_more kept (length kept - 1) 0 before

pub trailing-blank_at : (blanks : Blanks) (kept : List ℕ) → 0 < length kept → is_blank blanks (get_or kept (length kept - 1) 0) ≡ true → without_trailing blanks (take (length kept - 1) kept) ≡ without_trailing blanks kept
trailing-blank_at blanks kept some e =
    sym (trailing-blank blanks (take (length kept - 1) kept) (get_or kept (length kept - 1) 0) e) ∙ ap (λ text. without_trailing blanks text) (sym (split_last kept some))

pub trailing-other_at : (blanks : Blanks) (kept : List ℕ) → 0 < length kept → is_blank blanks (get_or kept (length kept - 1) 0) ≡ false → without_trailing blanks kept ≡ kept
trailing-other_at blanks kept some e =
    ap (λ text. without_trailing blanks text) (split_last kept some) ∙ trailing-other blanks (take (length kept - 1) kept) (get_or kept (length kept - 1) 0) e ∙ sym (split_last kept some)

pub trailing-nil : (blanks : Blanks) → without_trailing blanks [] ≡ []
unfolding without_trailing
trailing-nil blanks = refl
