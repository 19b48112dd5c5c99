-- What is written of a record is read again as the record.
use Rattle.std.proofs.Common.{◌≡◌, ℕ, ◌-◌, ◌+◌, ◌/◌, ◌^◌, ◌≤◌, ◌<◌, Bool, true, false, cond, ltb, leb, List, [], ◌∷◌, ◌++◌, length, map, take, drop, Ok, refl, sym, ap, subst, ◌∙◌, append_assoc, arith, length-append}
use Rattle.byteorder.specs.Numbers.{length-bytes_high_first}
use Rattle.std.proofs.lemmas.Bool.{le-leb, le-ltb, eq-eqb}
use Rattle.std.proofs.lemmas.List.{append-nil, take_at, drop_at, length-map}
use Rattle.std.proofs.lemmas.List.Elements.{recursion_from_All}
use Rattle.byteorder.specs.Endian.{big_number, big_bytes}
use Rattle.tl_base.specs.Parity.{parity}
use Rattle.pic_planes.specs.declared.shape.Chroma.{Chroma}
use Rattle.pic_planes.specs.Shape.{AreShifts}
use Rattle.ffv1_range.specs.declared.transition.TheConstants.{DEFAULT_TRANSITION}
use Rattle.ffv1_range.specs.Transition.{IsTransition}
use Rattle.ffv1_range.specs.Reading.{Reading, opened}
use Rattle.ffv1_range.specs.Writing.{Writing, started, chosen, shifted, put, put_all, part}
use Rattle.ffv1_range.specs.Symbol.{Source, source, spelling, magnitude_bits, ones, low_bits, with_states, set_after}
use Rattle.ffv1_range.specs.Law.{written, ReadsClosedMode}
use Rattle.ffv1_record.specs.Reading.{fresh, fields_at, all_sets_at, parameters, has_parity}
use Rattle.ffv1_record.specs.Tables.{AreSetRuns, AreSets, set_of}
use Rattle.pic_planes.specs.Grid.{IsGrid}
use Rattle.ffv1_record.specs.Parameters.{Parameters, parameters_of, runs_of, IsTableFor, IsRecord}
use Rattle.ffv1_record.specs.Spelling.{number, coding, planes, grid, ending, flags, transition, before_tables, after_tables, coded_sets, coded, with_parity, record_bytes}
use Rattle.ffv1_record.proofs.Sinks.{put_all-append, with_states-append}
use Rattle.ffv1_record.proofs.Bytes.{runs_of-sets}
use Rattle.ffv1_record.proofs.Again.{Laws, Rest, Stands, Ahead, Again, number_again}
use Rattle.ffv1_record.proofs.Fields.{coder_again, bits_again, chroma_again, grid_again, sets_again, states_again, ec_again}
use Rattle.ffv1_record.proofs.Deltas.{transition_again}
use Rattle.ffv1_record.proofs.States.{coded-states}

-- ---- the tables and what follows them
abbrev rest_of : List (List (List ℕ)) → List (ℕ × Bool) → Rest
rest_of sets after = λ set. coded_sets sets ++ with_states DEFAULT_TRANSITION set after

all_sets_again : (laws : Laws) (s : Source) (sets : List (List (List ℕ))) (more : List (ℕ × Bool)) → AreSets sets → Ahead s (number (length sets)) (rest_of sets (flags (length sets) ++ more)) → Again (all_sets_at s) sets more (λ _. [])
unfolding all_sets_at
all_sets_again laws s sets more sound ahead =
    let n = length sets in
    let rest : Rest = rest_of sets (flags n ++ more) in
    let ahead₀ : Ahead s (number n ++ []) rest = subst (λ (bits : List (ℕ × Bool)). Ahead s bits rest) (sym (append-nil (number n))) ahead in
    let count = number_again laws s n [] rest (omega (arith, sound.few)) ahead₀ in
    let read = sets_again laws count.0 sets (with_states DEFAULT_TRANSITION count.0.set (flags n ++ more)) (recursion_from_All AreSetRuns sets sound.each) count.2.default count.2.stands in
    let next : Ahead (source read.0 count.0.set) (flags n ++ more) (λ _. []) = record { default = read.2; stands = subst (λ (x : List (ℕ × Bool)). Stands read.0 x) (sym (append-nil (with_states DEFAULT_TRANSITION count.0.set (flags n ++ more)))) read.3 } in
    let states = states_again laws (source read.0 count.0.set) n more (λ _. []) next in
    let some : leb 1 n ≡ true = le-leb 1 n sound.some in
    let few : leb n 8 ≡ true = le-leb n 8 sound.few in
    (states.0, rw (count.1, some, few, read.1, states.1) refl, states.2)

ending-parts : (a b c : List (ℕ × Bool)) → a ++ b ++ c ≡ a ++ (b ++ (c ++ []))
ending-parts a b c = append_assoc a b c ∙ ap (λ (x : List (ℕ × Bool)). a ++ (b ++ x)) (sym (append-nil c))

-- ---- all fields
fields_again : (laws : Laws) (default : IsTransition DEFAULT_TRANSITION) (r : Reading) (coder_type : ℕ) (table : List ℕ) (shifts : Chroma) (columns rows : ℕ) (sets : List (List (List ℕ))) (ec : Bool) (intra : ℕ)
    → IsTableFor coder_type table → AreShifts shifts → IsGrid columns rows → AreSets sets → intra < 2 ^ 32
    → r.table ≡ DEFAULT_TRANSITION → Stands r (coded (parameters_of coder_type table shifts columns rows sets ec intra))
    → fields_at (source r fresh) ≡ Ok (parameters_of coder_type table shifts columns rows sets ec intra)
unfolding fields_at coded before_tables ending
fields_again laws default r coder_type table shifts columns rows sets ec intra table_sound shifts_sound grid_sound sets_sound intra_small is_default stands =
    let first = coding coder_type table in
    let second = planes 8 shifts in
    let n = length sets in
    let third = grid columns rows n in
    let last = flags n ++ (number (cond ec 1 0) ++ (number intra ++ [])) in
    let rest : Rest = rest_of sets last in
    let form : List (List (List ℕ)) → ℕ → List (ℕ × Bool) = λ rs m. with_states DEFAULT_TRANSITION fresh (first ++ second ++ grid columns rows m) ++ (coded_sets rs ++ with_states DEFAULT_TRANSITION (set_after DEFAULT_TRANSITION fresh (first ++ second ++ grid columns rows m)) (flags m ++ number (cond ec 1 0) ++ number intra)) in
    let whole : Stands r (form sets n) = subst (λ m. Stands r (form sets m)) (length-map sets set_of) (subst (λ (rs : List (List (List ℕ))). Stands r (form rs (length (map set_of sets)))) (runs_of-sets sets) stands) in
    let parted : Stands r (with_states DEFAULT_TRANSITION fresh (first ++ second ++ third) ++ rest (set_after DEFAULT_TRANSITION fresh (first ++ second ++ third))) = subst (λ (after : List (ℕ × Bool)). Stands r (with_states DEFAULT_TRANSITION fresh (first ++ second ++ third) ++ rest_of sets after (set_after DEFAULT_TRANSITION fresh (first ++ second ++ third)))) (ending-parts (flags n) (number (cond ec 1 0)) (number intra)) whole in
    let s : Source = source r fresh in
    let all : Ahead s (first ++ second ++ third) rest = record { default = is_default; stands = parted } in
    let ahead : Ahead s (first ++ (second ++ third)) rest = subst (λ (bits : List (ℕ × Bool)). Ahead s bits rest) (append_assoc first second third) all in
    let coder_read = coder_again laws s coder_type table (second ++ third) rest table_sound.coder ahead in
    let table_read = transition_again laws default coder_read.0 coder_type table (second ++ third) rest table_sound coder_read.2 in
    let bits_read = bits_again laws table_read.0 shifts third rest table_read.2 in
    let chroma_read = chroma_again laws bits_read.0 shifts third rest shifts_sound bits_read.2 in
    let grid_read = grid_again laws chroma_read.0 columns rows n rest grid_sound chroma_read.2 in
    let sets_read = all_sets_again laws grid_read.0 sets (number (cond ec 1 0) ++ (number intra ++ [])) sets_sound grid_read.2 in
    let ec_read = ec_again laws sets_read.0 ec (number intra ++ []) (λ _. []) sets_read.2 in
    let intra_read = number_again laws ec_read.0 intra [] (λ _. []) intra_small ec_read.2 in
    rw (coder_read.1, table_read.1, bits_read.1, chroma_read.1, grid_read.1, sets_read.1, ec_read.1, intra_read.1) refl

-- ---- a record has at least 6 bytes
count-cases : (b : Bool) (x y : Writing) (n : ℕ) → n ≤ x.count → n ≤ y.count → n ≤ (cond b x y).count
count-cases true x y n first second = first
count-cases false x y n first second = second

chosen-count : (w : Writing) (state : ℕ) (bit : Bool) → (chosen w state bit).count ≡ w.count
unfolding chosen
chosen-count w state true = refl
chosen-count w state false = refl

pub put-count : (w : Writing) (state : ℕ) (bit : Bool) → w.count ≤ (put w state bit).count
unfolding put shifted
put-count w state bit = count-cases (ltb (chosen w state bit).range 256) _ _ w.count (omega (arith, chosen-count w state bit)) (omega (arith, chosen-count w state bit))

put_all-count : (w : Writing) (coded : List (ℕ × Bool)) → w.count ≤ (put_all w coded).count
put_all-count w [] = omega arith
put_all-count w (bit ∷ coded) = omega (arith, put-count w bit.0 bit.1, put_all-count (put w bit.0 bit.1) coded)

abbrev opening : List (ℕ × Bool)
opening = with_states DEFAULT_TRANSITION fresh (number 3 ++ number 4)

opening-count : (put_all (started DEFAULT_TRANSITION) opening).count ≡ 3
unfolding put shifted chosen started number spelling magnitude_bits ones low_bits lib.Count.count_leading_zeros
opening-count = refl

coded-opening : (p : Parameters) → (more : List (ℕ × Bool)) × (coded p ≡ opening ++ more)
unfolding coded before_tables coding
coded-opening p =
    let start = number 3 ++ number 4 in
    let second = number p.coder_type ++ (transition p.coder_type p.transition ++ (planes p.bits_per_sample p.chroma ++ grid p.columns p.rows (length p.sets))) in
    let others = coded_sets (runs_of p) ++ with_states DEFAULT_TRANSITION (set_after DEFAULT_TRANSITION fresh (before_tables p)) (after_tables p) in
    let before : before_tables p ≡ start ++ second = simp append_assoc in
    let split : with_states DEFAULT_TRANSITION fresh (before_tables p) ≡ opening ++ with_states DEFAULT_TRANSITION (set_after DEFAULT_TRANSITION fresh start) second = ap (with_states DEFAULT_TRANSITION fresh) before ∙ with_states-append DEFAULT_TRANSITION fresh start second in
    (with_states DEFAULT_TRANSITION (set_after DEFAULT_TRANSITION fresh start) second ++ others, ap (λ (x : List (ℕ × Bool)). x ++ others) split ∙ append_assoc opening (with_states DEFAULT_TRANSITION (set_after DEFAULT_TRANSITION fresh start) second) others)

many-bytes : (p : Parameters) → 3 ≤ (written DEFAULT_TRANSITION (coded p)).count
many-bytes p =
    let split = coded-opening p in
    let same : written DEFAULT_TRANSITION (coded p) ≡ put_all (put_all (started DEFAULT_TRANSITION) opening) split.0 = ap (put_all (started DEFAULT_TRANSITION)) split.1 ∙ put_all-append (started DEFAULT_TRANSITION) opening split.0 in
    rw same (omega (arith, opening-count, put_all-count (put_all (started DEFAULT_TRANSITION) opening) split.0))

pub length-part : (w : Writing) → length (part w) ≡ w.count - 1
unfolding part
length-part w = length-bytes_high_first (w.count - 1) ((w.low + 255) / 256)

-- ---- the parity
parted_again : (numbers : (count n : ℕ) (rest : List ℕ) → n < 256 ^ count → big_number count (big_bytes count n ++ rest) ≡ n) (small : (bytes : List ℕ) → parity bytes < 2 ^ 32) (bytes : List ℕ)
    → 2 ≤ length bytes → parameters (with_parity bytes) ≡ fields_at (source (opened DEFAULT_TRANSITION bytes) fresh)
unfolding parameters with_parity
parted_again numbers small bytes long =
    let last = big_bytes 4 (parity bytes) in
    let four : length last ≡ 4 = length-bytes_high_first 4 (parity bytes) in
    let len : length (bytes ++ last) ≡ length bytes + 4 = length-append bytes last ∙ ap (λ n. length bytes + n) four in
    let long_enough : ltb (length (bytes ++ last)) 6 ≡ false = le-ltb (length (bytes ++ last)) 6 (omega (arith, len, long)) in
    let front : length (bytes ++ last) - 4 ≡ length bytes = omega (arith, len) in
    let taken : take (length (bytes ++ last) - 4) (bytes ++ last) ≡ bytes = ap (λ n. take n (bytes ++ last)) front ∙ take_at bytes last (length bytes) refl in
    let dropped : drop (length (bytes ++ last) - 4) (bytes ++ last) ≡ last = ap (λ n. drop n (bytes ++ last)) front ∙ drop_at bytes last (length bytes) refl in
    let read : big_number 4 last ≡ parity bytes = ap (big_number 4) (sym (append-nil last)) ∙ numbers 4 (parity bytes) [] (small bytes) in
    let right : has_parity (bytes ++ last) ≡ true = eq-eqb _ _ (ap (big_number 4) dropped ∙ read ∙ sym (ap parity taken)) in
    rw (long_enough, right) (ap (λ (x : List ℕ). fields_at (source (opened DEFAULT_TRANSITION x) fresh)) taken)

pub record_again : (laws : Laws) (open_part : ReadsClosedMode) (default : IsTransition DEFAULT_TRANSITION) (numbers : (count n : ℕ) (rest : List ℕ) → n < 256 ^ count → big_number count (big_bytes count n ++ rest) ≡ n) (small : (bytes : List ℕ) → parity bytes < 2 ^ 32)
    (p : Parameters) → IsRecord p → parameters (record_bytes p) ≡ Ok p
unfolding record_bytes opened
record_again laws open_part default numbers small p sound =
    let made : p ≡ parameters_of p.coder_type p.transition p.chroma p.columns p.rows (runs_of p) p.ec p.intra = parts p sound.bits sound.tables in
    let content = part (written DEFAULT_TRANSITION (coded p)) in
    let long : 2 ≤ length content = omega (arith, length-part (written DEFAULT_TRANSITION (coded p)), many-bytes p) in
    let r : Reading = opened DEFAULT_TRANSITION content in
    let back = open_part DEFAULT_TRANSITION (coded p) (coded-states default p) in
    let stands : Stands r (coded (parameters_of p.coder_type p.transition p.chroma p.columns p.rows (runs_of p) p.ec p.intra)) = subst (λ (q : Parameters). Stands r (coded q)) made back.bits in
    let read = fields_again laws default r p.coder_type p.transition p.chroma p.columns p.rows (runs_of p) p.ec p.intra sound.table sound.chroma sound.grid sound.sets sound.intra refl stands in
    parted_again numbers small content long ∙ read ∙ ap (λ (q : Parameters). Ok q) (sym made)
  where
    parts : (p : Parameters) → p.bits_per_sample ≡ 8 → p.sets ≡ map set_of (runs_of p) → p ≡ parameters_of p.coder_type p.transition p.chroma p.columns p.rows (runs_of p) p.ec p.intra
    parts p bits sets =
        ap (λ n. record p { bits_per_sample = n }) bits
        ∙ ap (λ ss. record p { bits_per_sample = 8; sets = ss }) sets
