-- The default record has few bytes: each coded bit adds at most one, and a number has at most 64 bits.
use Rattle.std.proofs.Common.{◌≡◌, ℕ, zero, suc, ◌+◌, ◌-◌, ◌*◌, ◌/◌, ◌≤◌, Bool, true, false, eqb, List, [], ◌∷◌, ◌++◌, length, refl, ◌∙◌, ap, arith, inl, inr}
use Rattle.std.proofs.lemmas.Bool.{cases_Bool, cases_lt, lt-ltb, le-ltb}
use Rattle.std.proofs.lemmas.List.{length-append}
use Rattle.byteorder.specs.Numbers.{length-bytes_high_first}
use Rattle.byteorder.specs.Endian.{big_bytes}
use Rattle.tl_limits.specs.Limits.{IsRecordLength}
use Rattle.tl_base.specs.Parity.{parity}
use Rattle.pic_planes.specs.declared.shape.Chroma.{Chroma}
use Rattle.pic_planes.specs.declared.shape.Chroma.TheVariants.{Grey, Shifts}
use Rattle.ffv1_range.specs.declared.transition.TheConstants.{DEFAULT_TRANSITION}
use Rattle.ffv1_range.specs.Transition.{moved}
use Rattle.ffv1_range.specs.Writing.{Writing, started, chosen, shifted, put, put_all, part}
use Rattle.ffv1_range.specs.Symbol.{exponent_of, ones, low_bits, magnitude_bits, spelling, with_states, set_after}
use Rattle.ffv1_range.specs.Law.{written}
use Rattle.ffv1_record.specs.declared.record.Coder.{Coder}
use Rattle.ffv1_record.specs.declared.record.Coder.TheVariants.{Range, Rice}
use Rattle.ffv1_record.specs.Parameters.{Parameters}
use Rattle.ffv1_record.specs.Reading.{fresh}
use Rattle.ffv1_record.specs.Default.{coder_type_of, default_runs, default_parameters}
use Rattle.ffv1_record.specs.Spelling as spell

-- ---- bytes
count_shifted : (w : Writing) → (shifted w).count ≤ w.count + 1
unfolding shifted
count_shifted w = elim (cases_lt w.range 256) [ inl less ↦ rw (lt-ltb _ _ less) (omega arith) | inr more ↦ rw (le-ltb _ _ more) (omega arith) ]

pub count_put : (w : Writing) (state : ℕ) (bit : Bool) → (put w state bit).count ≤ w.count + 1
unfolding put chosen
count_put w state true = count_shifted (chosen w state true)
count_put w state false = count_shifted (chosen w state false)

pub count_all : (w : Writing) (coded : List (ℕ × Bool)) → (put_all w coded).count ≤ w.count + length coded
count_all w [] = omega arith
count_all w (c ∷ more) = omega (arith, count_all (put w c.0 c.1) more, count_put w c.0 c.1)

part_few : (table : List ℕ) (coded : List (ℕ × Bool)) → length (part (written table coded)) ≤ length coded + 1
unfolding part started
part_few table coded =
    let w : Writing = written table coded in
    omega (arith, count_all (started table) coded, length-bytes_high_first (w.count - 1) ((w.low + 255) / 256))

-- ---- bits
pub length-with_states : (table set : List ℕ) (bits : List (ℕ × Bool)) → length (with_states table set bits) ≡ length bits
length-with_states table set [] = refl
length-with_states table set (bit ∷ bits) = ap suc (length-with_states table (moved table set bit.0 bit.1) bits)

length-ones : (i n : ℕ) → length (ones i n) ≡ n
unfolding ones
length-ones i zero = refl
length-ones i (suc n) = ap suc (length-ones (i + 1) n)

length-low_bits : (n magnitude : ℕ) → length (low_bits n magnitude) ≡ n
unfolding low_bits
length-low_bits zero magnitude = refl
length-low_bits (suc n) magnitude = ap suc (length-low_bits n magnitude)

pub length-magnitude : (n : ℕ) → length (magnitude_bits n) ≤ 63
unfolding magnitude_bits
length-magnitude n = let e : ℕ = exponent_of n in simp length-append (omega (arith, length-ones 0 e, length-low_bits e n))

length-number : (n : ℕ) → length (spell.number n) ≤ 64
unfolding spell.number spelling
length-number n =
    elim (cases_Bool (eqb n 0)) [
      | inl is ↦ rw is (omega arith)
      | inr above ↦ rw above (simp length-append (omega (arith, length-magnitude n)))
    ]

-- ---- fields
length-runs : (table : List ℕ) → length (spell.runs table) ≤ 64 * length table
unfolding spell.runs
length-runs [] = omega arith
length-runs (run ∷ more) = omega (arith, length-append (spell.number (run - 1)) (spell.runs more), length-number (run - 1), length-runs more)

abbrev run_count : List (List ℕ) → ℕ
run_count [] = 0
run_count (table ∷ more) = length table + run_count more

length-tables : (tables : List (List ℕ)) → length (spell.coded_tables tables) ≤ 64 * run_count tables
unfolding spell.coded_tables
length-tables [] = omega arith
length-tables (table ∷ more) =
    omega (arith, length-append (with_states DEFAULT_TRANSITION fresh (spell.runs table)) (spell.coded_tables more), length-with_states DEFAULT_TRANSITION fresh (spell.runs table), length-runs table, length-tables more)

length-coding : (coder : Coder) (table : List ℕ) → length (spell.coding (coder_type_of coder) table) ≤ 192
unfolding spell.coding spell.transition
length-coding Range table = simp length-append (omega (arith, length-number 3, length-number 4, length-number 1))
length-coding Rice table = simp length-append (omega (arith, length-number 3, length-number 4, length-number 0))

length-chroma : (chroma : Chroma) → length (spell.chroma chroma) ≤ 129
unfolding spell.chroma spell.flag
length-chroma Grey = simp length-append (omega (arith, length-number 0))
length-chroma (Shifts h v) = simp length-append (omega (arith, length-number h, length-number v))

length-planes : (bits : ℕ) (chroma : Chroma) → length (spell.planes bits chroma) ≤ 258
unfolding spell.planes spell.flag
length-planes bits chroma = simp length-append (omega (arith, length-number 0, length-number bits, length-chroma chroma))

length-grid : (columns rows sets : ℕ) → length (spell.grid columns rows sets) ≤ 192
unfolding spell.grid
length-grid columns rows sets = simp length-append (omega (arith, length-number (columns - 1), length-number (rows - 1), length-number sets))

length-ending : length (spell.ending 1 true 1) ≤ 129
unfolding spell.ending spell.flags spell.flag
length-ending = simp length-append (omega (arith, length-number 1))

-- ---- the record
length-before : (coder : Coder) (chroma : Chroma) (columns rows : ℕ) → length (spell.before_tables (default_parameters coder chroma columns rows)) ≤ 642
unfolding spell.before_tables
length-before coder chroma columns rows =
    simp length-append (omega (arith, length-coding coder DEFAULT_TRANSITION, length-planes 8 chroma, length-grid columns rows 1))

length-sets : length (spell.coded_sets (default_runs ∷ [])) ≤ 1088
unfolding spell.coded_sets
length-sets = simp length-append (omega (arith, length-tables default_runs))

length-coded : (coder : Coder) (chroma : Chroma) (columns rows : ℕ) → length (spell.coded (default_parameters coder chroma columns rows)) ≤ 2000
unfolding spell.coded
length-coded coder chroma columns rows =
    let p : Parameters = default_parameters coder chroma columns rows in
    let before : List (ℕ × Bool) = spell.before_tables p in
    let after : List (ℕ × Bool) = spell.ending 1 true 1 in
    let first : List (ℕ × Bool) = with_states DEFAULT_TRANSITION fresh before in
    let sets : List (ℕ × Bool) = spell.coded_sets (default_runs ∷ []) in
    let last : List (ℕ × Bool) = with_states DEFAULT_TRANSITION (set_after DEFAULT_TRANSITION fresh before) after in
    let whole : length (spell.coded p) ≡ length first + (length sets + length last) = length-append first (sets ++ last) ∙ ap (λ n. length first + n) (length-append sets last) in
    omega (
      arith,
      whole,
      length-with_states DEFAULT_TRANSITION fresh before,
      length-with_states DEFAULT_TRANSITION (set_after DEFAULT_TRANSITION fresh before) after,
      length-before coder chroma columns rows,
      length-sets,
      length-ending,
    )

pub default_bytes_few : (coder : Coder) (chroma : Chroma) (columns rows : ℕ) → IsRecordLength (length (spell.record_bytes (default_parameters coder chroma columns rows)))
unfolding spell.record_bytes spell.with_parity
default_bytes_few coder chroma columns rows =
    let coded : List (ℕ × Bool) = spell.coded (default_parameters coder chroma columns rows) in
    let bytes : List ℕ = part (written DEFAULT_TRANSITION coded) in
    let few : length bytes ≤ 2001 = omega (arith, part_few DEFAULT_TRANSITION coded, length-coded coder chroma columns rows) in
    let whole = length-append bytes (big_bytes 4 (parity bytes)) in
    (omega (arith, whole, length-bytes_high_first 4 (parity bytes)), omega (arith, whole, few, length-bytes_high_first 4 (parity bytes)))
