-- The fields of a record are read again.
use Rattle.std.proofs.Common.{◌≡◌, ℕ, zero, suc, ◌-◌, ◌+◌, ◌*◌, ◌^◌, ◌≤◌, ◌<◌, Bool, true, false, cond, ltb, leb, eqb, List, [], ◌∷◌, ◌++◌, length, sum, Ok, refl, sym, ap, subst, ◌∙◌, append_assoc, arith}
use Rattle.std.specs.List.{AllByRecursion}
use Rattle.std.proofs.lemmas.Bool.{lt-ltb, le-leb, ne_eqb}
use Rattle.std.proofs.lemmas.List.{append-nil}
use Rattle.std.proofs.lemmas.List.Sums.{sum_by-cons}
use Rattle.std.proofs.lemmas.List.Elements.{recursion_from_All}
use Rattle.pic_planes.specs.declared.shape.Chroma.{Chroma}
use Rattle.pic_planes.specs.declared.shape.Chroma.TheVariants.{Grey, Shifts}
use Rattle.pic_planes.specs.Shape.{AreShifts}
use Rattle.ffv1_range.specs.declared.transition.TheConstants.{DEFAULT_TRANSITION}
use Rattle.ffv1_range.specs.Reading.{Reading}
use Rattle.ffv1_range.specs.Symbol.{Source, source, after_place, with_states}
use Rattle.ffv1_record.specs.declared.fault.RecordFault.TheVariants as faults
use Rattle.ffv1_record.specs.Reading.{fresh, coder_at, bits_at, chroma_of, chroma_at, grid_at, runs_at, table_at, tables_at, sets_at, states_at, ec_at}
use Rattle.ffv1_record.specs.Tables.{AreRuns, AreSetRuns, ScalesFit, next_scale}
use Rattle.pic_planes.specs.Grid.{IsGrid}
use Rattle.ffv1_record.specs.Spelling.{number, flag, chroma, coding, planes, grid, flags, runs, transition, coded_tables, coded_sets}
use Rattle.ffv1_record.proofs.Again.{Laws, Rest, Stands, Ahead, Again, number_again, only_again, flag_again}

moved_on : (s : Source) (a b : List (ℕ × Bool)) (rest : Rest) → a ≡ b → Ahead s a rest → Ahead s b rest
moved_on s a b rest same ahead = subst (λ (bits : List (ℕ × Bool)). Ahead s bits rest) same ahead

-- ---- version, micro_version, coder_type
coding-parts : (a b c d e : List (ℕ × Bool)) → (a ++ b ++ c ++ d) ++ e ≡ a ++ (b ++ (c ++ (d ++ e)))
coding-parts a b c d e = simp append_assoc

pub coder_again : (laws : Laws) (s : Source) (coder_type : ℕ) (table : List ℕ) (more : List (ℕ × Bool)) (rest : Rest) → coder_type ≤ 2 → Ahead s (coding coder_type table ++ more) rest → Again (coder_at s) coder_type (transition coder_type table ++ more) rest
unfolding coder_at coding
coder_again laws s coder_type table more rest small ahead =
    let ahead₀ = moved_on s _ _ rest (coding-parts (number 3) (number 4) (number coder_type) (transition coder_type table) more) ahead in
    let version = only_again laws s 3 faults.Version (number 4 ++ (number coder_type ++ (transition coder_type table ++ more))) rest (omega arith) refl ahead₀ in
    let micro = only_again laws version.0 4 faults.Micro (number coder_type ++ (transition coder_type table ++ more)) rest (omega arith) refl version.2 in
    let coder = number_again laws micro.0 coder_type (transition coder_type table ++ more) rest (omega (arith, small)) micro.2 in
    let fits : leb coder_type 2 ≡ true = le-leb coder_type 2 small in
    (coder.0, rw (version.1, micro.1, coder.1, fits) refl, coder.2)

-- ---- colorspace_type, bits_per_raw_sample, the chroma planes
planes-parts : (a b c d e : List (ℕ × Bool)) → (a ++ b ++ c ++ d) ++ e ≡ a ++ (b ++ (c ++ (d ++ e)))
planes-parts a b c d e = simp append_assoc

pub bits_again : (laws : Laws) (s : Source) (shifts : Chroma) (more : List (ℕ × Bool)) (rest : Rest) → Ahead s (planes 8 shifts ++ more) rest → Again (bits_at s) 8 (chroma shifts ++ (flag false ++ more)) rest
unfolding bits_at planes
bits_again laws s shifts more rest ahead =
    let ahead₀ = moved_on s _ _ rest (planes-parts (number 0) (number 8) (chroma shifts) (flag false) more) ahead in
    let color = only_again laws s 0 faults.Color (number 8 ++ (chroma shifts ++ (flag false ++ more))) rest (omega arith) refl ahead₀ in
    let bits = number_again laws color.0 8 (chroma shifts ++ (flag false ++ more)) rest (omega arith) color.2 in
    (bits.0, rw (color.1, bits.1) refl, bits.2)

chroma-parts : (a b c e : List (ℕ × Bool)) → (a ++ b ++ c) ++ e ≡ a ++ (b ++ (c ++ e))
chroma-parts a b c e = simp append_assoc

-- the chroma planes by their fields
chroma_from : (laws : Laws) (s : Source) (has_planes : Bool) (h v : ℕ) (shifts : Chroma) (more : List (ℕ × Bool)) (rest : Rest) → h ≤ 2 → v ≤ 2 → chroma_of has_planes h v ≡ Ok shifts
    → Ahead s ((flag has_planes ++ number h ++ number v) ++ (flag false ++ more)) rest → Again (chroma_at s) shifts more rest
unfolding chroma_at
chroma_from laws s has_planes h v shifts more rest h_small v_small made ahead =
    let ahead₀ = moved_on s _ _ rest (chroma-parts (flag has_planes) (number h) (number v) (flag false ++ more)) ahead in
    let planes = flag_again laws s has_planes (number h ++ (number v ++ (flag false ++ more))) rest ahead₀ in
    let horizontal = number_again laws (after_place s 0) h (number v ++ (flag false ++ more)) rest (omega (arith, h_small)) planes.1 in
    let vertical = number_again laws horizontal.0 v (flag false ++ more) rest (omega (arith, v_small)) horizontal.2 in
    let extra = flag_again laws vertical.0 false more rest vertical.2 in
    (after_place vertical.0 0, rw (planes.0, horizontal.1, vertical.1, made, extra.0) refl, extra.1)

pub chroma_again : (laws : Laws) (s : Source) (shifts : Chroma) (more : List (ℕ × Bool)) (rest : Rest) → AreShifts shifts → Ahead s (chroma shifts ++ (flag false ++ more)) rest → Again (chroma_at s) shifts more rest
unfolding chroma
chroma_again laws s Grey more rest small ahead = chroma_from laws s false 0 0 Grey more rest (omega arith) (omega arith) refl ahead
chroma_again laws s (Shifts h v) more rest small ahead =
    let h_fits : leb h 2 ≡ true = le-leb h 2 small.0 in
    let v_fits : leb v 2 ≡ true = le-leb v 2 small.1 in
    let made : chroma_of true h v ≡ Ok (Shifts h v) = rw (h_fits, v_fits) refl in
    chroma_from laws s true h v (Shifts h v) more rest small.0 small.1 made ahead

-- ---- the grid
pub grid_again : (laws : Laws) (s : Source) (columns rows count : ℕ) (rest : Rest) → IsGrid columns rows → Ahead s (grid columns rows count) rest → Again (grid_at s) (columns, rows) (number count) rest
unfolding grid_at grid
grid_again laws s columns rows count rest sound ahead =
    let ahead₀ = moved_on s _ _ rest (append_assoc (number (columns - 1)) (number (rows - 1)) (number count)) ahead in
    let columns_small : columns ≤ 1024 = grid-side columns rows sound.some_rows sound.few in
    let rows_small : rows ≤ 1024 = grid-side rows columns sound.some_columns (omega (arith, sound.few)) in
    let first = number_again laws s (columns - 1) (number (rows - 1) ++ number count) rest (omega (arith, columns_small)) ahead₀ in
    let second = number_again laws first.0 (rows - 1) (number count) rest (omega (arith, rows_small)) first.2 in
    let c : columns - 1 + 1 ≡ columns = omega (arith, sound.some_columns) in
    let r : rows - 1 + 1 ≡ rows = omega (arith, sound.some_rows) in
    let fits : leb (columns * rows) 1024 ≡ true = le-leb (columns * rows) 1024 sound.few in
    (second.0, rw (first.1, second.1, c, r, fits) refl, second.2)
  where
    grid-side : (a b : ℕ) → 1 ≤ b → a * b ≤ 1024 → a ≤ 1024
    grid-side a b some few = grind arith

-- ---- ec and states_coded
pub states_again : (laws : Laws) (s : Source) (count : ℕ) (more : List (ℕ × Bool)) (rest : Rest) → Ahead s (flags count ++ more) rest → Again (states_at count s) tt more rest
unfolding states_at flags
states_again laws s zero more rest ahead = (s, refl, ahead)
states_again laws s (suc n) more rest ahead =
    let ahead₀ = moved_on s _ _ rest (append_assoc (flag false) (flags n) more) ahead in
    let first = flag_again laws s false (flags n ++ more) rest ahead₀ in
    let others = states_again laws (after_place s 0) n more rest first.1 in
    (others.0, rw first.0 others.1, others.2)

pub ec_again : (laws : Laws) (s : Source) (ec : Bool) (more : List (ℕ × Bool)) (rest : Rest) → Ahead s (number (cond ec 1 0) ++ more) rest → Again (ec_at s) ec more rest
unfolding ec_at
ec_again laws s true more rest ahead =
    let read = number_again laws s 1 more rest (omega arith) ahead in
    (read.0, rw read.1 refl, read.2)
ec_again laws s false more rest ahead =
    let read = number_again laws s 0 more rest (omega arith) ahead in
    (read.0, rw read.1 refl, read.2)

-- ---- tables
pub runs_again : (laws : Laws) (s : Source) (most left : ℕ) (lengths : List ℕ) (more : List (ℕ × Bool)) (rest : Rest) → AllByRecursion (λ run. 0 < run) lengths → sum lengths ≡ left → left ≤ most → most < 2 ^ 32
    → Ahead s (runs lengths ++ more) rest → Again (runs_at most left s) lengths more rest
unfolding runs_at runs
runs_again laws s zero left [] more rest some whole room small ahead = (s, refl, ahead)
runs_again laws s (suc most) left [] more rest some whole room small ahead =
    let nothing : eqb left 0 ≡ true = ap (λ n. eqb n 0) (sym whole) in
    (s, rw nothing refl, ahead)
runs_again laws s zero left (run ∷ lengths) more rest some whole room small ahead =
    absurd (omega (arith, sum_by-cons (λ x. x) run lengths, some.0, whole, room))
runs_again laws s (suc most) left (run ∷ lengths) more rest some whole room small ahead =
    let added : sum (run ∷ lengths) ≡ run + sum lengths = sum_by-cons (λ x. x) run lengths in
    let ahead₀ = moved_on s _ _ rest (append_assoc (number (run - 1)) (runs lengths) more) ahead in
    let first = number_again laws s (run - 1) (runs lengths ++ more) rest (omega (arith, added, some.0, whole, room, small)) ahead₀ in
    let others = runs_again laws first.0 most (sum lengths) lengths more rest some.1 refl (omega (arith, added, some.0, whole, room)) (omega (arith, small)) first.2 in
    let something : eqb left 0 ≡ false = ne_eqb left 0 (λ e. absurd (omega (arith, e, added, some.0, whole))) in
    let within : ltb (run - 1) left ≡ true = lt-ltb (run - 1) left (omega (arith, added, some.0, whole)) in
    let back : run - 1 + 1 ≡ run = omega (arith, some.0) in
    let left_then : left - run ≡ sum lengths = omega (arith, added, whole) in
    (others.0, rw (something, first.1, within, back, left_then, others.1) refl, others.2)

-- ---- sets of tables
-- A table's runs stand next with a fresh set.
tables-parts : (table : List ℕ) (more : List (List ℕ)) (rest : List (ℕ × Bool)) → coded_tables (table ∷ more) ++ rest ≡ with_states DEFAULT_TRANSITION fresh (runs table ++ []) ++ (coded_tables more ++ rest)
unfolding coded_tables
tables-parts table more rest =
    append_assoc (with_states DEFAULT_TRANSITION fresh (runs table)) (coded_tables more) rest
    ∙ ap (λ (bits : List (ℕ × Bool)). with_states DEFAULT_TRANSITION fresh bits ++ (coded_tables more ++ rest)) (sym (append-nil (runs table)))

pub table_again : (laws : Laws) (s : Source) (scale : ℕ) (table : List ℕ) (rest : List (ℕ × Bool)) → AreRuns table → next_scale scale table ≤ 32768 → Ahead (source s.reading fresh) (runs table ++ []) (λ _. rest)
    → (after : Reading) × (table_at scale s ≡ Ok ((table, next_scale scale table), source after s.set)) × (after.table ≡ DEFAULT_TRANSITION) × Stands after rest
unfolding table_at
table_again laws s scale table rest sound small ahead =
    let some : AllByRecursion (λ run. 0 < run) table = recursion_from_All (λ run. 0 < run) table sound.some in
    let read = runs_again laws (source s.reading fresh) 128 128 table [] (λ _. rest) some sound.whole (omega arith) (omega arith) ahead in
    let fits : leb (next_scale scale table) 32768 ≡ true = le-leb (next_scale scale table) 32768 small in
    (read.0.reading, rw (read.1, fits) refl, read.2.default, read.2.stands)

pub tables_again : (laws : Laws) (s : Source) (scale : ℕ) (tables : List (List ℕ)) (rest : List (ℕ × Bool)) → AllByRecursion AreRuns tables → ScalesFit scale tables → s.reading.table ≡ DEFAULT_TRANSITION → Stands s.reading (coded_tables tables ++ rest)
    → (after : Reading) × (tables_at (length tables) scale s ≡ Ok (tables, source after s.set)) × (after.table ≡ DEFAULT_TRANSITION) × Stands after rest
unfolding tables_at coded_tables
tables_again laws s scale [] rest sound fit default stands = (s.reading, refl, default, stands)
tables_again laws s scale (table ∷ more) rest sound fit default stands =
    let ahead : Ahead (source s.reading fresh) (runs table ++ []) (λ _. coded_tables more ++ rest) = record { default = default; stands = subst (λ (coded : List (ℕ × Bool)). Stands s.reading coded) (tables-parts table more rest) stands } in
    let first = table_again laws s scale table (coded_tables more ++ rest) sound.0 fit.0 ahead in
    let others = tables_again laws (source first.0 s.set) (next_scale scale table) more rest sound.1 fit.1 first.2 first.3 in
    (others.0, rw (first.1, others.1) refl, others.2, others.3)

pub sets_again : (laws : Laws) (s : Source) (sets : List (List (List ℕ))) (rest : List (ℕ × Bool)) → AllByRecursion AreSetRuns sets → s.reading.table ≡ DEFAULT_TRANSITION → Stands s.reading (coded_sets sets ++ rest)
    → (after : Reading) × (sets_at (length sets) s ≡ Ok (sets, source after s.set)) × (after.table ≡ DEFAULT_TRANSITION) × Stands after rest
unfolding sets_at coded_sets
sets_again laws s [] rest sound default stands = (s.reading, refl, default, stands)
sets_again laws s (set ∷ more) rest sound default stands =
    let parts : Stands s.reading (coded_tables set ++ (coded_sets more ++ rest)) = subst (λ (coded : List (ℕ × Bool)). Stands s.reading coded) (append_assoc (coded_tables set) (coded_sets more) rest) stands in
    let first = tables_again laws s 1 set (coded_sets more ++ rest) (recursion_from_All AreRuns set sound.0.each) sound.0.scales default parts in
    let five : tables_at 5 1 s ≡ Ok (set, source first.0 s.set) = subst (λ n. tables_at n 1 s ≡ Ok (set, source first.0 s.set)) sound.0.five first.1 in
    let others = sets_again laws (source first.0 s.set) more rest sound.1 first.2 first.3 in
    (others.0, rw (five, others.1) refl, others.2, others.3)
