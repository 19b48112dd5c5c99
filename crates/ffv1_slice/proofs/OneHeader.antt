-- A source gives one header or one fault.
use Rattle.std.proofs.Common.{◌≡◌, ℕ, ◌<◌, List, [], ◌∷◌, length, refl, sym, ◌∙◌, ap, subst, arith, inl, inr, Some, None, Result, Ok, Err}
use Rattle.std.specs.Prelude.{◌⊎◌, pos, false}
use Rattle.ffv1_range.specs.Reading.{Reading}
use Rattle.ffv1_range.specs.Symbol.{Source, symbol_at}
use Rattle.ffv1_slice.specs.declared.header.Grid.{Grid}
use Rattle.ffv1_slice.specs.declared.header.Header.{Header}
use Rattle.ffv1_slice.specs.declared.fault.HeaderFault.{HeaderFault}
use Rattle.ffv1_slice.specs.declared.fault.HeaderFault.TheVariants.{Header as BadHeader, TableIndex}
use Rattle.ffv1_slice.specs.Header.{Gives, ReadsNumber, ReadsUpTo, ReadsNumbers, TooLongInNumbers, IsHeader, IsWithinGrid, PassesGrid, PassesSets}

-- two pairs that are one have one first part, and one second
pub one_pair : {A B : Type 0} (t : A × B) (a b : A) (x y : B) → t ≡ (a, x) → t ≡ (b, y) → (a ≡ b) × (x ≡ y)
one_pair {A} {B} t a b x y first second =
    (sym (ap (λ (p : A × B). p.0) first) ∙ ap (λ (p : A × B). p.0) second, sym (ap (λ (p : A × B). p.1) first) ∙ ap (λ (p : A × B). p.1) second)

-- ---- numbers in turn
one_number : (a b : ℕ) (old x y : Source) → ReadsNumber a old x → ReadsNumber b old y → (a ≡ b) × (x ≡ y)
one_number a b old x y first second =
    let both = one_pair (symbol_at old false) (Some (pos a)) (Some (pos b)) x y first second in
    let value : Some (pos a) ≡ Some (pos b) = both.0 in
    (cc, both.1)

-- a symbol is a number or too long
number_or_none : (n : ℕ) (old x y : Source) → ReadsNumber n old x → symbol_at old false ≡ (None, y) → ⊥
number_or_none n old x y here long =
    let value : Some (pos n) ≡ None = (one_pair (symbol_at old false) (Some (pos n)) None x y here long).0 in cc

pub one_reading : (a b : List ℕ) (old x y : Source) → length a ≡ length b → ReadsUpTo a old x → ReadsUpTo b old y → (a ≡ b) × (x ≡ y)
one_reading [] [] old x y same first second = (refl, sym first ∙ second)
one_reading [] (b ∷ rest) old x y same first second = absurd (omega arith)
one_reading (a ∷ more) [] old x y same first second = absurd (omega arith)
one_reading (a ∷ more) (b ∷ rest) old x y same (mid, here, left) (next, now, others) =
    let one = one_number a b old mid next here now in
    let all = one_reading more rest mid x y (omega arith) left (subst (λ (s : Source). ReadsUpTo rest s y) (sym one.1) others) in
    (cc, all.1)

-- A number that is too long isn't among those that are read.
not_too_long : (before numbers : List ℕ) (old mid new end : Source) → length before < length numbers
    → ReadsUpTo before old mid → symbol_at mid false ≡ (None, new) → ReadsUpTo numbers old end → ⊥
not_too_long before [] old mid new end few reads long all = absurd (omega arith)
not_too_long [] (n ∷ more) old mid new end few reads long (next, here, left) =
    number_or_none n old next new here (subst (λ (s : Source). symbol_at s false ≡ (None, new)) (sym reads) long)
not_too_long (b ∷ before) (n ∷ more) old mid new end few (next, read, others) long (after, here, left) =
    let one = one_number b n old next after read here in
    not_too_long before more after mid new end (omega arith) (subst (λ (s : Source). ReadsUpTo before s mid) one.1 others) long left

-- ---- what nine numbers spell
abbrev pub Spells : Grid → List ℕ → Result Header HeaderFault → Type 0
Spells grid numbers (Ok h) = IsHeader grid numbers h
Spells grid numbers (Err BadHeader) = PassesGrid grid numbers
Spells grid numbers (Err TableIndex) = IsWithinGrid grid numbers × PassesSets grid numbers

same_header : (grid : Grid) (numbers : List ℕ) (h i : Header) → IsHeader grid numbers h → IsHeader grid numbers i → h ≡ i
same_header grid numbers h i first second = λ k. record {
  x = (first.x ∙ sym second.x) k;
  y = (first.y ∙ sym second.y) k;
  columns = (first.columns ∙ sym second.columns) k;
  rows = (first.rows ∙ sym second.rows) k;
  luma_set = (first.luma_set ∙ sym second.luma_set) k;
  chroma_set = (first.chroma_set ∙ sym second.chroma_set) k;
}

not_past_grid : (grid : Grid) (numbers : List ℕ) (h : Header) → IsHeader grid numbers h → PassesGrid grid numbers → ⊥
not_past_grid grid numbers h is (inl over) = omega arith
not_past_grid grid numbers h is (inr over) = omega arith

not_past_sets : (grid : Grid) (numbers : List ℕ) (h : Header) → IsHeader grid numbers h → PassesSets grid numbers → ⊥
not_past_sets grid numbers h is (inl over) = omega arith
not_past_sets grid numbers h is (inr over) = omega arith

not_within : (grid : Grid) (numbers : List ℕ) → IsWithinGrid grid numbers → PassesGrid grid numbers → ⊥
not_within grid numbers is (inl over) = omega arith
not_within grid numbers is (inr over) = omega arith

one_spelling : (grid : Grid) (numbers : List ℕ) (a b : Result Header HeaderFault) → Spells grid numbers a → Spells grid numbers b → a ≡ b
one_spelling grid numbers (Ok h) (Ok i) first second = ap Ok (same_header grid numbers h i first second)
one_spelling grid numbers (Ok h) (Err BadHeader) first second = absurd (not_past_grid grid numbers h first second)
one_spelling grid numbers (Ok h) (Err TableIndex) first second = absurd (not_past_sets grid numbers h first second.1)
one_spelling grid numbers (Err BadHeader) (Ok i) first second = absurd (not_past_grid grid numbers i second first)
one_spelling grid numbers (Err BadHeader) (Err BadHeader) first second = refl
one_spelling grid numbers (Err BadHeader) (Err TableIndex) first second = absurd (not_within grid numbers second.0 first)
one_spelling grid numbers (Err TableIndex) (Ok i) first second = absurd (not_past_sets grid numbers i second first.1)
one_spelling grid numbers (Err TableIndex) (Err BadHeader) first second = absurd (not_within grid numbers first.0 second)
one_spelling grid numbers (Err TableIndex) (Err TableIndex) first second = refl

-- ---- a header
-- What is given stands for a number that is too long, or for what nine numbers spell.
abbrev Tells : Grid → Source → Reading → Result Header HeaderFault → Type 0
Tells grid old reading result =
    (TooLongInNumbers 9 old reading × (result ≡ Err BadHeader))
    ⊎ ((numbers : List ℕ) × (length numbers ≡ 9) × ReadsNumbers numbers old reading × Spells grid numbers result)

told : (grid : Grid) (old : Source) (reading : Reading) (result : Result Header HeaderFault) → Gives grid old reading result → Tells grid old reading result
told grid old reading (Ok h) gives = inr gives
told grid old reading (Err BadHeader) (inl long) = inl (long, refl)
told grid old reading (Err BadHeader) (inr passes) = inr passes
told grid old reading (Err TableIndex) (numbers, nine, reads, within, passes) = inr (numbers, nine, reads, (within, passes))

not_both : (old : Source) (x y : Reading) (numbers : List ℕ) → TooLongInNumbers 9 old x → length numbers ≡ 9 → ReadsNumbers numbers old y → ⊥
not_both old x y numbers long nine (end, reads, place) =
    let few : length long.before < length numbers = omega (arith, nine, long.few) in
    not_too_long long.before numbers old long.mid long.new end few long.reads long.too_long reads

same_numbers : (old : Source) (x y : Reading) (a b : List ℕ) → length a ≡ 9 → length b ≡ 9 → ReadsNumbers a old x → ReadsNumbers b old y → (a ≡ b) × (x ≡ y)
same_numbers old x y a b nine len (end, reads, place) (last, others, at) =
    let all = one_reading a b old end last (nine ∙ sym len) reads others in
    (all.0, sym place ∙ ap (λ (s : Source). s.reading) all.1 ∙ at)

one_telling : (grid : Grid) (old : Source) (x y : Reading) (a b : Result Header HeaderFault) → Tells grid old x a → Tells grid old y b → a ≡ b
one_telling grid old x y a b (inl (long, is)) (inl (other, same)) = is ∙ sym same
one_telling grid old x y a b (inl (long, is)) (inr (numbers, nine, reads, spells)) = absurd (not_both old x y numbers long nine reads)
one_telling grid old x y a b (inr (numbers, nine, reads, spells)) (inl (long, is)) = absurd (not_both old y x numbers long nine reads)
one_telling grid old x y a b (inr (numbers, nine, reads, spells)) (inr (others, len, read, spell)) =
    let same = same_numbers old x y numbers others nine len reads read in
    one_spelling grid others a b (subst (λ (l : List ℕ). Spells grid l a) same.0 spells) spell

-- Two answers to one source are one.
pub one_header : (grid : Grid) (old : Source) (x y : Reading) (a b : Result Header HeaderFault) → Gives grid old x a → Gives grid old y b → a ≡ b
one_header grid old x y a b first second = one_telling grid old x y a b (told grid old x a first) (told grid old y b second)

-- Behind a header stands one reader.
pub one_place : (grid : Grid) (old : Source) (x y : Reading) (h i : Header) → Gives grid old x (Ok h) → Gives grid old y (Ok i) → x ≡ y
one_place grid old x y h i (numbers, nine, reads, is) (others, len, read, other) = (same_numbers old x y numbers others nine len reads read).1
