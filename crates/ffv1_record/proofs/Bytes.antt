-- The bytes of a record, as a writer of its fields gives them.
use Rattle.std.proofs.Common.{◌≡◌, ℕ, Bool, List, [], ◌∷◌, ◌++◌, length, map, ◌<◌, ◌^◌, refl, sym, ap, subst, ◌∙◌}
use Rattle.std.proofs.lemmas.List.{length-map}
use Rattle.pic_planes.specs.declared.shape.Chroma.{Chroma}
use Rattle.pic_planes.specs.Shape.{AreShifts}
use Rattle.ffv1_range.specs.declared.transition.TheConstants.{DEFAULT_TRANSITION}
use Rattle.ffv1_range.specs.Writing.{Writing, started, put_all, part}
use Rattle.ffv1_range.specs.Symbol.{with_states, set_after}
use Rattle.ffv1_range.specs.Law.{written}
use Rattle.ffv1_record.specs.Reading.{fresh}
use Rattle.ffv1_record.specs.Tables.{set_of, AreSets}
use Rattle.pic_planes.specs.Grid.{IsGrid}
use Rattle.ffv1_record.specs.Parameters.{Parameters, parameters_of, runs_of, IsTableFor, IsRecord}
use Rattle.ffv1_record.specs.Spelling.{runs, coding, planes, grid, ending, before_tables, after_tables, coded_tables, coded_sets, coded, with_parity, record_bytes}
use Rattle.ffv1_record.specs.Sink.{Sink, sink, wrote, wrote_table, wrote_tables, wrote_sets}
use Rattle.ffv1_record.proofs.Sinks.{put_all-table, put_all-append, in_turn_3}

wrote_table-writing : (w : Sink) (table : List ℕ) → w.writing.table ≡ DEFAULT_TRANSITION → wrote_table w table ≡ sink (put_all w.writing (with_states DEFAULT_TRANSITION fresh (runs table))) w.set
unfolding wrote_table wrote
wrote_table-writing w table default = ap (λ (t : List ℕ). sink (put_all w.writing (with_states t fresh (runs table))) w.set) default

wrote_tables-writing : (w : Sink) (tables : List (List ℕ)) → w.writing.table ≡ DEFAULT_TRANSITION → wrote_tables w tables ≡ sink (put_all w.writing (coded_tables tables)) w.set
unfolding coded_tables
wrote_tables-writing w [] default = refl
wrote_tables-writing w (table ∷ more) default =
    let bits : List (ℕ × Bool) = with_states DEFAULT_TRANSITION fresh (runs table) in
    let next : Sink = sink (put_all w.writing bits) w.set in
    ap (λ (s : Sink). wrote_tables s more) (wrote_table-writing w table default)
    ∙ wrote_tables-writing next more (put_all-table w.writing bits ∙ default)
    ∙ ap (λ (s : Writing). sink s w.set) (sym (put_all-append w.writing bits (coded_tables more)))

wrote_sets-writing : (w : Sink) (sets : List (List (List ℕ))) → w.writing.table ≡ DEFAULT_TRANSITION → wrote_sets w sets ≡ sink (put_all w.writing (coded_sets sets)) w.set
unfolding coded_sets
wrote_sets-writing w [] default = refl
wrote_sets-writing w (set ∷ more) default =
    let bits : List (ℕ × Bool) = coded_tables set in
    let next : Sink = sink (put_all w.writing bits) w.set in
    ap (λ (s : Sink). wrote_sets s more) (wrote_tables-writing w set default)
    ∙ wrote_sets-writing next more (put_all-table w.writing bits ∙ default)
    ∙ ap (λ (s : Writing). sink s w.set) (sym (put_all-append w.writing bits (coded_sets more)))

started-table : (started DEFAULT_TRANSITION).table ≡ DEFAULT_TRANSITION
unfolding started
started-table = refl

wrote-writing : (w : Sink) (bits : List (ℕ × Bool)) → w.writing.table ≡ DEFAULT_TRANSITION → wrote w bits ≡ sink (put_all w.writing (with_states DEFAULT_TRANSITION w.set bits)) (set_after DEFAULT_TRANSITION w.set bits)
unfolding wrote
wrote-writing w bits default = ap (λ (t : List ℕ). sink (put_all w.writing (with_states t w.set bits)) (set_after t w.set bits)) default

-- before, tables and after as one list of bits
in_one : (before after : List (ℕ × Bool)) (sets : List (List (List ℕ)))
    → (wrote (wrote_sets (wrote (sink (started DEFAULT_TRANSITION) fresh) before) sets) after).writing
    ≡ written DEFAULT_TRANSITION (with_states DEFAULT_TRANSITION fresh before ++ (coded_sets sets ++ with_states DEFAULT_TRANSITION (set_after DEFAULT_TRANSITION fresh before) after))
in_one before after sets =
    let a : List (ℕ × Bool) = with_states DEFAULT_TRANSITION fresh before in
    let set : List ℕ = set_after DEFAULT_TRANSITION fresh before in
    let c : List (ℕ × Bool) = with_states DEFAULT_TRANSITION set after in
    let first : Sink = sink (put_all (started DEFAULT_TRANSITION) a) set in
    let second : Sink = sink (put_all (put_all (started DEFAULT_TRANSITION) a) (coded_sets sets)) set in
    let first_default : first.writing.table ≡ DEFAULT_TRANSITION = put_all-table (started DEFAULT_TRANSITION) a ∙ started-table in
    let second_default : second.writing.table ≡ DEFAULT_TRANSITION = put_all-table (put_all (started DEFAULT_TRANSITION) a) (coded_sets sets) ∙ first_default in
    let one : wrote (sink (started DEFAULT_TRANSITION) fresh) before ≡ first = wrote-writing (sink (started DEFAULT_TRANSITION) fresh) before started-table in
    let two : wrote_sets (wrote (sink (started DEFAULT_TRANSITION) fresh) before) sets ≡ second = ap (λ (s : Sink). wrote_sets s sets) one ∙ wrote_sets-writing first sets first_default in
    let three : wrote (wrote_sets (wrote (sink (started DEFAULT_TRANSITION) fresh) before) sets) after ≡ sink (put_all second.writing c) (set_after DEFAULT_TRANSITION set after) = ap (λ (s : Sink). wrote s after) two ∙ wrote-writing second after second_default in
    ap (λ (s : Sink). s.writing) three
    ∙ sym (put_all-append (put_all (started DEFAULT_TRANSITION) a) (coded_sets sets) c)
    ∙ sym (put_all-append (started DEFAULT_TRANSITION) a (coded_sets sets ++ c))

pub runs_of-sets : (sets : List (List (List ℕ))) → map (λ set. set.runs) (map set_of sets) ≡ sets
runs_of-sets [] = refl
runs_of-sets (set ∷ more) = ap (λ (rest : List (List (List ℕ))). set ∷ rest) (runs_of-sets more)

-- what a writer gives after all fields
pub bytes_of_fields : (coder_type : ℕ) (transition : List ℕ) (chroma : Chroma) (columns rows : ℕ) (sets : List (List (List ℕ))) (ec : Bool) (intra count : ℕ) (w w₁ w₂ w₃ w₄ w₅ : Sink) (content bytes : List ℕ)
    → count ≡ length sets → w ≡ sink (started DEFAULT_TRANSITION) fresh → w₁ ≡ wrote w (coding coder_type transition) → w₂ ≡ wrote w₁ (planes 8 chroma) → w₃ ≡ wrote w₂ (grid columns rows count)
    → w₄ ≡ wrote_sets w₃ sets → w₅ ≡ wrote w₄ (ending count ec intra) → content ≡ part w₅.writing → bytes ≡ with_parity content
    → bytes ≡ record_bytes (parameters_of coder_type transition chroma columns rows sets ec intra)
unfolding record_bytes coded before_tables
bytes_of_fields coder_type transition chroma columns rows sets ec intra count w w₁ w₂ w₃ w₄ w₅ content bytes counted at_start first second third fourth fifth is_part is_bytes =
    let p : Parameters = parameters_of coder_type transition chroma columns rows sets ec intra in
    let many : count ≡ length p.sets = counted ∙ sym (length-map sets set_of) in
    let before : w₃ ≡ wrote w (coding coder_type transition ++ planes 8 chroma ++ grid columns rows (length p.sets)) = in_turn_3 w w₁ w₂ w₃ (coding coder_type transition) (planes 8 chroma) (grid columns rows (length p.sets)) first second (third ∙ ap (λ n. wrote w₂ (grid columns rows n)) many) in
    let whole : w₅ ≡ wrote (wrote_sets (wrote (sink (started DEFAULT_TRANSITION) fresh) (before_tables p)) sets) (after_tables p) =
    fifth ∙ ap (λ n. wrote w₄ (ending n ec intra)) many
    ∙ ap (λ (s : Sink). wrote s (after_tables p)) (fourth ∙ ap (λ (s : Sink). wrote_sets s sets) (before ∙ ap (λ (s : Sink). wrote s (before_tables p)) at_start)) in
    let one : w₅.writing ≡ written DEFAULT_TRANSITION (with_states DEFAULT_TRANSITION fresh (before_tables p) ++ (coded_sets (runs_of p) ++ with_states DEFAULT_TRANSITION (set_after DEFAULT_TRANSITION fresh (before_tables p)) (after_tables p))) =
    ap (λ (s : Sink). s.writing) whole
    ∙ in_one (before_tables p) (after_tables p) sets
    ∙ ap (λ (rs : List (List (List ℕ))). written DEFAULT_TRANSITION (with_states DEFAULT_TRANSITION fresh (before_tables p) ++ (coded_sets rs ++ with_states DEFAULT_TRANSITION (set_after DEFAULT_TRANSITION fresh (before_tables p)) (after_tables p)))) (sym (runs_of-sets sets)) in
    is_bytes ∙ ap with_parity (is_part ∙ ap part one)

-- a record by its fields has what a record can have
pub is_record : (coder_type : ℕ) (transition : List ℕ) (chroma : Chroma) (columns rows : ℕ) (sets : List (List (List ℕ))) (ec : Bool) (intra : ℕ)
    → IsTableFor coder_type transition → AreShifts chroma → IsGrid columns rows → AreSets sets → intra < 2 ^ 32 → IsRecord (parameters_of coder_type transition chroma columns rows sets ec intra)
is_record coder_type transition chroma columns rows sets ec intra table shifts grid sound small = record {
  table = table;
  bits = refl;
  chroma = shifts;
  grid = grid;
  sets = subst AreSets (sym (runs_of-sets sets)) sound;
  tables = ap (map set_of) (sym (runs_of-sets sets));
  intra = small;
}
