-- What a writer of fields stands at, after fields in turn.
use Rattle.std.proofs.Common.{◌≡◌, ℕ, suc, pos, ◌+ℤ◌, neg_ℤ, ◌-◌, ◌+◌, ◌*◌, ◌≤◌, ◌<◌, Bool, true, false, cond, ltb, List, [], ◌∷◌, ◌++◌, length, get_or, map, drop, refl, sym, ap, ◌∙◌, add-one, arith, drop-cons}
use Rattle.std.proofs.lemmas.List.{drop_all}
use Rattle.ffv1_range.specs.Transition.{moved}
use Rattle.ffv1_range.specs.Writing.{Writing, put, put_all, shifted, chosen}
use Rattle.ffv1_range.specs.Symbol.{with_states, set_after, spelling}
use Rattle.ffv1_record.specs.declared.tables.Runs.{Runs}
use Rattle.ffv1_record.specs.Spelling.{number, flag, deltas, runs, flags}
use Rattle.ffv1_record.specs.Sink.{Sink, wrote, wrote_table, wrote_tables, wrote_sets}

put-table : (w : Writing) (state : ℕ) (bit : Bool) → (put w state bit).table ≡ w.table
unfolding put shifted chosen
put-table w state true = elim (ltb (chosen w state true).range 256) as (λ b. (cond b (record (chosen w state true) { range = 256 * (chosen w state true).range; low = 256 * (chosen w state true).low; count = (chosen w state true).count + 1 }) (chosen w state true)).table ≡ w.table) [ true ↦ refl | false ↦ refl ]
put-table w state false = elim (ltb (chosen w state false).range 256) as (λ b. (cond b (record (chosen w state false) { range = 256 * (chosen w state false).range; low = 256 * (chosen w state false).low; count = (chosen w state false).count + 1 }) (chosen w state false)).table ≡ w.table) [ true ↦ refl | false ↦ refl ]

pub put_all-table : (w : Writing) (coded : List (ℕ × Bool)) → (put_all w coded).table ≡ w.table
put_all-table w [] = refl
put_all-table w (bit ∷ coded) = put_all-table (put w bit.0 bit.1) coded ∙ put-table w bit.0 bit.1

pub put_all-append : (w : Writing) (a b : List (ℕ × Bool)) → put_all w (a ++ b) ≡ put_all (put_all w a) b
put_all-append w [] b = refl
put_all-append w (bit ∷ a) b = put_all-append (put w bit.0 bit.1) a b

pub with_states-append : (table set : List ℕ) (a b : List (ℕ × Bool)) → with_states table set (a ++ b) ≡ with_states table set a ++ with_states table (set_after table set a) b
with_states-append table set [] b = refl
with_states-append table set (bit ∷ a) b = ap (λ (rest : List (ℕ × Bool)). (get_or set bit.0 0, bit.1) ∷ rest) (with_states-append table (moved table set bit.0 bit.1) a b)

pub set_after-append : (table set : List ℕ) (a b : List (ℕ × Bool)) → set_after table set (a ++ b) ≡ set_after table (set_after table set a) b
set_after-append table set [] b = refl
set_after-append table set (bit ∷ a) b = set_after-append table (moved table set bit.0 bit.1) a b

-- fields in turn are their bits one after the other
pub wrote-append : (w : Sink) (a b : List (ℕ × Bool)) → wrote (wrote w a) b ≡ wrote w (a ++ b)
unfolding wrote
wrote-append w a b =
    let table = w.writing.table in
    let kept : (put_all w.writing (with_states table w.set a)).table ≡ table = put_all-table w.writing (with_states table w.set a) in
    let writing : put_all w.writing (with_states table w.set (a ++ b)) ≡ put_all (put_all w.writing (with_states table w.set a)) (with_states table (set_after table w.set a) b) = ap (put_all w.writing) (with_states-append table w.set a b) ∙ put_all-append w.writing (with_states table w.set a) (with_states table (set_after table w.set a) b) in
    rw (kept, writing, set_after-append table w.set a b) refl

pub wrote-nothing : (w : Sink) → wrote w [] ≡ w
unfolding wrote
wrote-nothing w = refl

pub appended : (old between new : Sink) (a b : List (ℕ × Bool)) → new ≡ wrote between b → between ≡ wrote old a → new ≡ wrote old (a ++ b)
appended old between new a b last first = last ∙ ap (λ (w : Sink). wrote w b) first ∙ wrote-append old a b

pub in_turn_3 : (w w₁ w₂ w₃ : Sink) (a b c : List (ℕ × Bool)) → w₁ ≡ wrote w a → w₂ ≡ wrote w₁ b → w₃ ≡ wrote w₂ c → w₃ ≡ wrote w (a ++ b ++ c)
in_turn_3 w w₁ w₂ w₃ a b c first second third = appended w w₂ w₃ (a ++ b) c third (appended w w₁ w₂ a b second first)

pub in_turn_4 : (w w₁ w₂ w₃ w₄ : Sink) (a b c d : List (ℕ × Bool)) → w₁ ≡ wrote w a → w₂ ≡ wrote w₁ b → w₃ ≡ wrote w₂ c → w₄ ≡ wrote w₃ d → w₄ ≡ wrote w (a ++ b ++ c ++ d)
in_turn_4 w w₁ w₂ w₃ w₄ a b c d first second third fourth = appended w w₃ w₄ (a ++ b ++ c) d fourth (in_turn_3 w w₁ w₂ w₃ a b c first second third)

-- ---- loops: what is left to write after so many
pub deltas-next : (default entries : List ℕ) (i : ℕ) → length default ≡ length entries → i < length default → deltas (drop i default) (drop i entries) ≡ spelling (pos (get_or entries i 0) +ℤ neg_ℤ (pos (get_or default i 0))) true ++ deltas (drop (i + 1) default) (drop (i + 1) entries)
unfolding deltas
deltas-next default entries i same lt =
    let at : i < length entries = omega (arith, same) in
    rw (drop-cons default i 0, drop-cons entries i 0, add-one) refl

pub runs-next : (lengths : List ℕ) (i : ℕ) → i < length lengths → runs (drop i lengths) ≡ number (get_or lengths i 0 - 1) ++ runs (drop (i + 1) lengths)
unfolding runs
runs-next lengths i lt = rw (drop-cons lengths i 0, add-one) refl

pub flags-next : (count i : ℕ) → i < count → flags (count - i) ≡ flag false ++ flags (count - (i + 1))
unfolding flags
flags-next count i lt =
    let k : count - i ≡ suc (count - (i + 1)) = omega arith in
    rw k refl

-- a step of a loop: of what was left, the first part is written
pub step : (initial now next : Sink) (left part rest total : List (ℕ × Bool)) → wrote now left ≡ wrote initial total → left ≡ part ++ rest → next ≡ wrote now part → wrote next rest ≡ wrote initial total
step initial now next left part rest total so_far split written =
    ap (λ (w : Sink). wrote w rest) written ∙ wrote-append now part rest ∙ sym (ap (wrote now) split) ∙ so_far

pub finished : (initial now : Sink) (left total : List (ℕ × Bool)) → wrote now left ≡ wrote initial total → left ≡ [] → now ≡ wrote initial total
finished initial now left total so_far none_left = sym (ap (wrote now) none_left ∙ wrote-nothing now) ∙ so_far

pub deltas-done : (default entries : List ℕ) (i : ℕ) → length default ≤ i → deltas (drop i default) entries ≡ []
unfolding deltas
deltas-done default entries i le = rw (drop_all i default le) refl

pub runs-done : (lengths : List ℕ) (i : ℕ) → length lengths ≤ i → runs (drop i lengths) ≡ []
unfolding runs
runs-done lengths i le = rw (drop_all i lengths le) refl

pub flags-done : (count i : ℕ) → count ≤ i → flags (count - i) ≡ []
unfolding flags
flags-done count i le =
    let k : count - i ≡ 0 = omega arith in
    rw k refl

abbrev lengths_of : List Runs → List (List ℕ)
lengths_of tables = map (λ t. t.lengths.items) tables

pub tables-step : (now next : Sink) (tables : List Runs) (i : ℕ) (table : Runs) (lengths : List ℕ) (total : Sink) → i < length tables → table ≡ get_or tables i table → lengths ≡ table.lengths.items → next ≡ wrote_table now lengths
    → wrote_tables now (lengths_of (drop i tables)) ≡ total → wrote_tables next (lengths_of (drop (i + 1) tables)) ≡ total
tables-step now next tables i table lengths total lt is lengths_is written so_far =
    let split : drop i tables ≡ table ∷ drop (suc i) tables = drop-cons tables i table lt ∙ ap (λ (t : Runs). t ∷ drop (suc i) tables) (sym is) in
    let one : wrote_tables now (lengths_of (drop i tables)) ≡ wrote_tables (wrote_table now table.lengths.items) (lengths_of (drop (suc i) tables)) = ap (λ (ts : List Runs). wrote_tables now (lengths_of ts)) split in
    rw (written, lengths_is, add-one) (sym one ∙ so_far)

pub tables-done : (now : Sink) (tables : List Runs) (i : ℕ) (total : Sink) → length tables ≤ i → wrote_tables now (lengths_of (drop i tables)) ≡ total → now ≡ total
tables-done now tables i total le so_far =
    let nothing : drop i tables ≡ [] = drop_all i tables le in
    sym (ap (λ (ts : List Runs). wrote_tables now (lengths_of ts)) nothing) ∙ so_far

pub sets-step : (now next : Sink) (sets : List (List (List ℕ))) (i : ℕ) (set : List (List ℕ)) (total : Sink) → i < length sets → set ≡ get_or sets i set → next ≡ wrote_tables now set
    → wrote_sets now (drop i sets) ≡ total → wrote_sets next (drop (i + 1) sets) ≡ total
sets-step now next sets i set total lt is written so_far =
    let split : drop i sets ≡ set ∷ drop (suc i) sets = drop-cons sets i set lt ∙ ap (λ (s : List (List ℕ)). s ∷ drop (suc i) sets) (sym is) in
    let one : wrote_sets now (drop i sets) ≡ wrote_sets (wrote_tables now set) (drop (suc i) sets) = ap (wrote_sets now) split in
    rw (written, add-one) (sym one ∙ so_far)

pub sets-done : (now : Sink) (sets : List (List (List ℕ))) (i : ℕ) (total : Sink) → length sets ≤ i → wrote_sets now (drop i sets) ≡ total → now ≡ total
sets-done now sets i total le so_far = sym (ap (wrote_sets now) (drop_all i sets le)) ∙ so_far
