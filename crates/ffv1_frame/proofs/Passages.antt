-- What is written between two places is read back between two places.
use Rattle.std.proofs.Common.{◌≡◌, ℕ, ◌^◌, ◌<◌, Bool, false, ℤ, pos, List, [], ◌∷◌, ◌++◌, Some, refl, sym, ◌∙◌, ap, subst}
use Rattle.std.specs.List.{AllByRecursion}
use Rattle.ffv1_range.specs.Transition.{IsTransition, AllKept}
use Rattle.ffv1_range.specs.Reading.{Reading, bit_of, after_bit, after_bits}
use Rattle.ffv1_range.specs.Writing.{Writing, put, put_all, AreStates}
use Rattle.ffv1_range.specs.Symbol.{source, Reads, spelling, symbol_at, with_states, set_after}
use Rattle.ffv1_range.specs.Law.{states_of, IsSpelled}
use Rattle.ffv1_range.proofs.Symbols.{codes_in_turn, reads_symbols}
use Rattle.ffv1_record.proofs.Sinks.{put_all-append, put_all-table}
use Rattle.ffv1_record.proofs.Again.{Stands, Stands-append, after_bits-table}
use Rattle.ffv1_record.proofs.States.{spelling-places, with_states-states, set_after-kept, AreStates-append}
use Rattle.ffv1_slice.specs.Header.{Numbering, ReadsNumbers, with_number, with_numbers}

-- Bits lead from one writing to another, and where a reader of the table has them before it, it reads them so.
pub record Passage (table : List ℕ) (old new : Writing) (Read : Reading → Reading → Type 0) : Type 0 where
  pub coded : List (ℕ × Bool)
  pub written : new ≡ put_all old coded
  pub states : AreStates coded
  pub read : (p : Reading) → p.table ≡ table → Stands p coded → Read p (after_bits p (states_of coded))

pub nothing_passed : (table : List ℕ) (w : Writing) → Passage table w w (λ p q. p ≡ q)
nothing_passed table w = record { coded = []; written = refl; states = tt; read = λ p at stands. refl }

-- the same bits, read as something else
pub read_as : (table : List ℕ) (old new : Writing) (Read Other : Reading → Reading → Type 0) → ((p q : Reading) → p.table ≡ table → Read p q → Other p q)
    → Passage table old new Read → Passage table old new Other
read_as table old new Read Other as_other passage = record {
  coded = passage.coded;
  written = passage.written;
  states = passage.states;
  read = λ p at stands. as_other p (after_bits p (states_of passage.coded)) at (passage.read p at stands);
}

pub at_writing : (table : List ℕ) (old new other : Writing) (Read : Reading → Reading → Type 0) → new ≡ other → Passage table old new Read → Passage table old other Read
at_writing table old new other Read same passage = subst (λ (w : Writing). Passage table old w Read) same passage

after_bits-append : (p : Reading) (a b : List (ℕ × Bool)) → after_bits p (states_of (a ++ b)) ≡ after_bits (after_bits p (states_of a)) (states_of b)
after_bits-append p [] b = refl
after_bits-append p (c ∷ a) b = after_bits-append (after_bit p c.0) a b

-- one after the other
pub both_passed : (table : List ℕ) (old between new : Writing) (First Second : Reading → Reading → Type 0) → Passage table old between First → Passage table between new Second
    → Passage table old new (λ p q. (mid : Reading) × First p mid × Second mid q)
both_passed table old between new First Second first second = record {
  coded = first.coded ++ second.coded;
  written = second.written ∙ ap (λ (w : Writing). put_all w second.coded) first.written ∙ sym (put_all-append old first.coded second.coded);
  states = AreStates-append first.coded second.coded first.states second.states;
  read = λ p at stands.
      let parts = Stands-append p first.coded second.coded stands in
      let mid : Reading = after_bits p (states_of first.coded) in
      (mid, first.read p at parts.0, subst (Second mid) (sym (after_bits-append p first.coded second.coded)) (second.read mid (after_bits-table p (states_of first.coded) ∙ at) parts.1));
}

head_is : (a b : Bool) (rest others : List Bool) → a ∷ rest ≡ b ∷ others → a ≡ b
head_is a b rest others same = cc

-- ---- a bit
pub bit_passed : (table : List ℕ) (w : Writing) (state : ℕ) (bit : Bool) → 0 < state → state < 256 → Passage table w (put w state bit) (λ p q. (bit_of p state ≡ bit) × (q ≡ after_bit p state))
bit_passed table w state bit some small = record {
  coded = (state, bit) ∷ [];
  written = refl;
  states = ((some, small), tt);
  read = λ p at stands. (head_is (bit_of p state) bit [] [] stands, refl);
}

-- ---- a symbol
pub symbol_passed : (table : List ℕ) (w : Writing) (set : List ℕ) (value : ℤ) (signed : Bool) → IsTransition table → AllKept table set → IsSpelled value signed
    → Passage table w (put_all w (with_states table set (spelling value signed))) (λ p q. symbol_at (source p set) signed ≡ (Some value, source q (set_after table set (spelling value signed))))
symbol_passed table w set value signed sound kept spelled = record {
  coded = with_states table set (spelling value signed);
  written = refl;
  states = with_states-states table set (spelling value signed) sound kept (spelling-places value signed);
  read = λ p at stands.
      let bits : List (ℕ × Bool) = spelling value signed in
      let InTurn : List ℕ → Type 0 = λ t. Reads (source p set) bits (source (after_bits p (states_of (with_states t set bits))) (set_after t set bits)) in
      let turn : InTurn p.table = codes_in_turn p set bits (subst (λ (t : List ℕ). Stands p (with_states t set bits)) (sym at) stands) in
      reads_symbols.value (source p set) (source (after_bits p (states_of (with_states table set bits))) (set_after table set bits)) value signed spelled (subst InTurn at turn);
}

-- ---- the numbers of a header
pub numbers_passed : (table : List ℕ) (numbers : List ℕ) (n : Numbering) → IsTransition table → n.writing.table ≡ table → AllKept table n.set → AllByRecursion (λ number. number < 2 ^ 32) numbers
    → Passage table n.writing (with_numbers n numbers).writing (λ p q. ReadsNumbers numbers (source p n.set) q)
unfolding with_number
numbers_passed table [] n sound at kept small =
    read_as table n.writing n.writing (λ p q. p ≡ q) (λ p q. ReadsNumbers [] (source p n.set) q) (λ p q from same. (source p n.set, refl, same)) (nothing_passed table n.writing)
numbers_passed table (number ∷ more) n sound at kept small =
    let bits : List (ℕ × Bool) = spelling (pos number) false in
    let next : Numbering = with_number n number in
    let set : next.set ≡ set_after table n.set bits = ap (λ (t : List ℕ). set_after t n.set bits) at in
    let written : put_all n.writing (with_states table n.set bits) ≡ next.writing = ap (λ (t : List ℕ). put_all n.writing (with_states t n.set bits)) (sym at) in
    let first = at_writing table n.writing (put_all n.writing (with_states table n.set bits)) next.writing (λ p q. symbol_at (source p n.set) false ≡ (Some (pos number), source q (set_after table n.set bits))) written
    (symbol_passed table n.writing n.set (pos number) false sound kept (small.0, λ _. refl)) in
    let next_kept : AllKept table next.set = subst (AllKept table) (sym set) (set_after-kept table n.set bits sound kept (spelling-places (pos number) false)) in
    let next_at : next.writing.table ≡ table = put_all-table n.writing (with_states n.writing.table n.set bits) ∙ at in
    let rest = numbers_passed table more next sound next_at next_kept small.1 in
    read_as table n.writing (with_numbers next more).writing (λ p q. (mid : Reading) × (symbol_at (source p n.set) false ≡ (Some (pos number), source mid (set_after table n.set bits))) × ReadsNumbers more (source mid next.set) q)
    (λ p q. ReadsNumbers (number ∷ more) (source p n.set) q)
    (λ p q from (mid, here, (new, later, same)). (new, (source mid next.set, subst (λ (s : List ℕ). symbol_at (source p n.set) false ≡ (Some (pos number), source mid s)) (sym set) here, later), same))
    (both_passed table n.writing next.writing (with_numbers next more).writing (λ p q. symbol_at (source p n.set) false ≡ (Some (pos number), source q (set_after table n.set bits))) (λ p q. ReadsNumbers more (source p next.set) q) first rest)
