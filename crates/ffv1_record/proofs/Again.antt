-- Fields that were written are read again, one after the other.
use Rattle.std.proofs.Common.{◌≡◌, ℕ, ◌^◌, ◌<◌, Bool, true, false, cond, ltb, eqb, ℤ, pos, nat_abs, List, [], ◌∷◌, ◌++◌, Some, Result, Ok, refl, sym, ap, subst, ◌∙◌, append_assoc}
use Rattle.ffv1_range.specs.declared.transition.TheConstants.{DEFAULT_TRANSITION}
use Rattle.ffv1_range.specs.Reading.{Reading, bit_of, after_bit, narrowed, renewed, bits_read, after_bits}
use Rattle.ffv1_range.specs.Symbol.{Source, source, Reads, spelling, symbol_at, bit_at_place, after_place, with_states, set_after}
use Rattle.ffv1_range.specs.Law.{states_of, bits_of, CodesInTurn, ReadsSymbols}
use Rattle.ffv1_record.specs.declared.fault.RecordFault.{RecordFault}
use Rattle.ffv1_record.specs.Reading.{signed_at, number_at, only_at}
use Rattle.ffv1_record.specs.Spelling.{number, flag}
use Rattle.ffv1_record.proofs.Sinks.{with_states-append, set_after-append}

-- what the range coder's laws say
pub record Laws : Type 0 where
  pub turn : CodesInTurn
  pub symbols : ReadsSymbols

-- These bits with their states are read next.
abbrev pub Stands : Reading → List (ℕ × Bool) → Type 0
Stands p coded = bits_read p (states_of coded) ≡ bits_of coded

abbrev head_of : List Bool → Bool
head_of [] = false
head_of (b ∷ bs) = b

abbrev tail_of : List Bool → List Bool
tail_of [] = []
tail_of (b ∷ bs) = bs

pub Stands-append : (p : Reading) (a b : List (ℕ × Bool)) → Stands p (a ++ b) → Stands p a × Stands (after_bits p (states_of a)) b
Stands-append p [] b h = (refl, h)
Stands-append p (c ∷ a) b h =
    let first : bit_of p c.0 ≡ c.1 = ap head_of h in
    let others : Stands (after_bit p c.0) (a ++ b) = ap tail_of h in
    let both = Stands-append (after_bit p c.0) a b others in
    (ap (λ (x : Bool). x ∷ bits_read (after_bit p c.0) (states_of a)) first ∙ ap (λ (xs : List Bool). c.1 ∷ xs) both.0, both.1)

cond-table : (b : Bool) (x y : Reading) (table : List ℕ) → x.table ≡ table → y.table ≡ table → (cond b x y).table ≡ table
cond-table true x y table first second = first
cond-table false x y table first second = second

after_bit-table : (p : Reading) (state : ℕ) → (after_bit p state).table ≡ p.table
unfolding after_bit renewed narrowed
after_bit-table p state =
    let kept : (narrowed p state).table ≡ p.table = cond-table (bit_of p state) _ _ p.table refl refl in
    cond-table (ltb (narrowed p state).range 256) _ _ p.table kept kept

pub after_bits-table : (p : Reading) (states : List ℕ) → (after_bits p states).table ≡ p.table
after_bits-table p [] = refl
after_bits-table p (state ∷ states) = after_bits-table (after_bit p state) states ∙ after_bit-table p state

-- what follows fields, by the set after them: bits with their states
abbrev pub Rest : Type 0
Rest = List ℕ → List (ℕ × Bool)

-- At a source the bits of fields are read next, and then what follows them.
pub record Ahead (s : Source) (bits : List (ℕ × Bool)) (rest : Rest) : Type 0 where
  pub default : s.reading.table ≡ DEFAULT_TRANSITION
  pub stands : Stands s.reading (with_states DEFAULT_TRANSITION s.set bits ++ rest (set_after DEFAULT_TRANSITION s.set bits))

-- the source after bits
abbrev pub past : Source → List (ℕ × Bool) → Source
past s bits = source (after_bits s.reading (states_of (with_states DEFAULT_TRANSITION s.set bits))) (set_after DEFAULT_TRANSITION s.set bits)

pub Ahead-append : (laws : Laws) (s : Source) (a b : List (ℕ × Bool)) (rest : Rest) → Ahead s (a ++ b) rest → Reads s a (past s a) × Ahead (past s a) b rest
Ahead-append laws s a b rest ahead =
    let coded : List (ℕ × Bool) = with_states DEFAULT_TRANSITION s.set a in
    let others : List (ℕ × Bool) = with_states DEFAULT_TRANSITION (set_after DEFAULT_TRANSITION s.set a) b in
    let after : List (ℕ × Bool) = rest (set_after DEFAULT_TRANSITION (set_after DEFAULT_TRANSITION s.set a) b) in
    let split : with_states DEFAULT_TRANSITION s.set (a ++ b) ++ rest (set_after DEFAULT_TRANSITION s.set (a ++ b)) ≡ coded ++ (others ++ after) =
    ap (λ (set : List ℕ). with_states DEFAULT_TRANSITION s.set (a ++ b) ++ rest set) (set_after-append DEFAULT_TRANSITION s.set a b)
    ∙ ap (λ (x : List (ℕ × Bool)). x ++ after) (with_states-append DEFAULT_TRANSITION s.set a b)
    ∙ append_assoc coded others after in
    let both = Stands-append s.reading coded (others ++ after) (subst (λ (x : List (ℕ × Bool)). Stands s.reading x) split ahead.stands) in
    let turn = laws.turn s.reading s.set a (subst (λ (t : List ℕ). Stands s.reading (with_states t s.set a)) (sym ahead.default) both.0) in (
      subst (λ (t : List ℕ). Reads s a (source (after_bits s.reading (states_of (with_states t s.set a))) (set_after t s.set a))) ahead.default turn,
      record { default = after_bits-table s.reading (states_of coded) ∙ ahead.default; stands = both.1 },
    )

-- ---- fields of one symbol or bit
-- what is read at a source is this, and then the bits that are left stand next
abbrev pub Again : {A : Type 0} → Result (A × Source) RecordFault → A → List (ℕ × Bool) → Rest → Type 0
Again read value more rest = (after : Source) × (read ≡ Ok (value, after)) × Ahead after more rest

pub signed_again : (laws : Laws) (s : Source) (value : ℤ) (more : List (ℕ × Bool)) (rest : Rest) → nat_abs value < 2 ^ 32 → Ahead s (spelling value true ++ more) rest → Again (signed_at s) value more rest
unfolding signed_at
signed_again laws s value more rest fits ahead =
    let both = Ahead-append laws s (spelling value true) more rest ahead in
    let read : symbol_at s true ≡ (Some value, past s (spelling value true)) = laws.symbols.value s (past s (spelling value true)) value true (fits, λ e. absurd cc) both.0 in
    (past s (spelling value true), rw read refl, both.1)

pub number_again : (laws : Laws) (s : Source) (n : ℕ) (more : List (ℕ × Bool)) (rest : Rest) → n < 2 ^ 32 → Ahead s (number n ++ more) rest → Again (number_at s) n more rest
unfolding number_at number
number_again laws s n more rest fits ahead =
    let both = Ahead-append laws s (spelling (pos n) false) more rest ahead in
    let read : symbol_at s false ≡ (Some (pos n), past s (spelling (pos n) false)) = laws.symbols.value s (past s (spelling (pos n) false)) (pos n) false (fits, λ _. refl) both.0 in
    (past s (spelling (pos n) false), rw read refl, both.1)

pub only_again : (laws : Laws) (s : Source) (n : ℕ) (fault : RecordFault) (more : List (ℕ × Bool)) (rest : Rest) → n < 2 ^ 32 → eqb n n ≡ true → Ahead s (number n ++ more) rest → Again (only_at n fault s) n more rest
unfolding only_at
only_again laws s n fault more rest fits same ahead =
    let read = number_again laws s n more rest fits ahead in
    (read.0, rw (read.1, same) refl, read.2)

pub flag_again : (laws : Laws) (s : Source) (bit : Bool) (more : List (ℕ × Bool)) (rest : Rest) → Ahead s (flag bit ++ more) rest → (bit_at_place s 0 ≡ bit) × Ahead (after_place s 0) more rest
unfolding flag
flag_again laws s bit more rest ahead =
    let both = Ahead-append laws s ((0, bit) ∷ []) more rest ahead in
    (both.0.0, subst (λ (x : Source). Ahead x more rest) (sym both.0.1) both.1)
