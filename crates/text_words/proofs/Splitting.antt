-- Lines and words are cut where they were joined.
use Rattle.std.proofs.Common.{◌≡◌, ℕ, ◌-◌, ◌<◌, Bool, true, false, ◌&&◌, not, List, [], ◌∷◌, ◌++◌, length, get_or, nat_eq, refl, ap, ◌∙◌, arith}
use Rattle.std.specs.List.{list_all, slice_split, onto_first}
use Rattle.std.specs.Str.Lines.{lines, strip_carriage_return}
use Rattle.std.proofs.lemmas.List.Splits.{slice_split-cons_yes, slice_split-cons_no}
use Rattle.std.proofs.lemmas.List.Folds.{list_all_at}
use Rattle.text_words.specs.Blanks.{is_blank, words}
use Rattle.text_words.specs.Law.{is_line, LinesReadBack, WordsReadBack}
use Rattle.text_words.proofs.Lining.{is_feed, lines-split}

both : (a b : Bool) → (a && b) ≡ true → (a ≡ true) × (b ≡ true)
both true b e = (refl, e)
both false b e = absurd (cc)

not_true : (a : Bool) → not a ≡ true → a ≡ false
not_true true e = absurd (cc)
not_true false e = refl

-- what has no element that passes is the first piece, and all of the pieces
split_at_first : (p : ℕ → Bool) (xs ys : List ℕ) (y : ℕ) → list_all (λ x. not (p x)) xs ≡ true → p y ≡ true → slice_split p (xs ++ y ∷ ys) ≡ xs ∷ slice_split p ys
split_at_first p [] ys y none passes = slice_split-cons_yes p y ys passes
split_at_first p (x ∷ xs) ys y none passes =
    let parts = both (not (p x)) (list_all (λ x. not (p x)) xs) none in
    slice_split-cons_no p x (xs ++ y ∷ ys) (not_true (p x) parts.0) ∙ ap (onto_first x) (split_at_first p xs ys y parts.1 passes)

split_whole : (p : ℕ → Bool) (xs : List ℕ) → list_all (λ x. not (p x)) xs ≡ true → slice_split p xs ≡ xs ∷ []
split_whole p [] none = refl
split_whole p (x ∷ xs) none =
    let parts = both (not (p x)) (list_all (λ x. not (p x)) xs) none in
    slice_split-cons_no p x xs (not_true (p x) parts.0) ∙ ap (onto_first x) (split_whole p xs parts.1)

-- ---- lines
no_feed : (line : List ℕ) → is_line line ≡ true → list_all (λ byte. not (is_feed byte)) line ≡ true
no_feed [] e = refl
no_feed (x ∷ xs) e =
    let parts = both (not (nat_eq x 10) && not (nat_eq x 13)) (is_line xs) e in
    rw ((both (not (nat_eq x 10)) (not (nat_eq x 13)) parts.0).0, no_feed xs parts.1) refl

and_false : (b : Bool) → (b && false) ≡ false
and_false true = refl
and_false false = refl

no_return : (line : List ℕ) (b : Bool) → is_line line ≡ true → nat_eq (get_or line (length line - 1) 0) 13 ≡ b → b ≡ false
no_return line false e f = refl
no_return [] true e f = absurd (cc)
no_return (x ∷ xs) true e f =
    let last : length (x ∷ xs) - 1 < length (x ∷ xs) = omega arith in
    let byte = get_or (x ∷ xs) (length (x ∷ xs) - 1) 0 in
    let bad : (not (nat_eq byte 10) && not (nat_eq byte 13)) ≡ false = rw f (and_false (not (nat_eq byte 10))) in
    absurd (let h = list_all_at (λ byte. not (nat_eq byte 10) && not (nat_eq byte 13)) (x ∷ xs) (length (x ∷ xs) - 1) 0 last bad in cc)

stripped : (line : List ℕ) → is_line line ≡ true → strip_carriage_return line ≡ line
stripped line e = rw (no_return line (nat_eq (get_or line (length line - 1) 0) 13) e refl) refl

pub lines_read_back : LinesReadBack
lines_read_back line rest h =
    let plain = h in
    lines-split line (line ++ 10 ∷ rest) rest (split_at_first is_feed line rest 10 (no_feed line plain) refl) ∙ ap (λ first. first ∷ lines rest) (stripped line plain)

-- ---- words
pub words_read_back : WordsReadBack
unfolding words
words_read_back = record {
  one = λ blanks word rest byte h blank.
      let parts = both (not (nat_eq (length word) 0)) (list_all (λ b. not (is_blank blanks b)) word) h in
      rw (split_at_first (is_blank blanks) word rest byte parts.1 blank, parts.0) refl;
  last = λ blanks word h.
      let parts = both (not (nat_eq (length word) 0)) (list_all (λ b. not (is_blank blanks b)) word) h in
      rw (split_whole (is_blank blanks) word parts.1, parts.0) refl;
  blank = λ blanks rest byte h. rw (slice_split-cons_yes (is_blank blanks) byte rest h) refl;
}
