-- Steps of decoding a packet.
use Rattle.std.proofs.Common.{◌≡◌, ℕ, ◌<◌, List, [], ◌∷◌, ◌++◌, length, replicate, reverse, Bool, true, eqb, sym, ◌∙◌, ap, subst, arith, Result, Ok, Err, inl, inr}
use Rattle.std.specs.Prelude.{slice_index_or}
use Rattle.std.proofs.lemmas.List.{length-append, get_or_append_left, get_or_push}
use Rattle.std.proofs.lemmas.Bool.{cases_lt}
use Rattle.pic_planes.specs.Shape.{Layout}
use Rattle.ffv1_range.specs.Reading.{Reading, opened, bit_of}
use Rattle.ffv1_range.specs.Symbol.{source}
use Rattle.ffv1_range.specs.Transition.{AllKept, IsKept}
use Rattle.ffv1_range.specs.declared.transition.TheConstants.{DEFAULT_TRANSITION}
use Rattle.ffv1_record.specs.Parameters.{IsRecord, Parameters}
use Rattle.ffv1_slice.specs.declared.header.Grid.{Grid}
use Rattle.ffv1_slice.specs.declared.header.Header.{Header}
use Rattle.ffv1_slice.specs.declared.fault.HeaderFault.{HeaderFault}
use Rattle.ffv1_slice.specs.declared.fault.HeaderFault.TheVariants as header_faults
use Rattle.ffv1_slice.specs.Header as headers
use Rattle.ffv1_frame.specs.declared.fault.DecodeFault.TheVariants.{Frame}
use Rattle.ffv1_frame.specs.Packet.{Slice, EndsWith, no_slice}
use Rattle.ffv1_frame.specs.Frame.{Gives, HaveParities, IsKeyFrame, AreHeaders, HeaderGives, reader_at, grid_of, no_header, header_fault_of}

pub keeps_first : (table : List ℕ) → AllKept table (replicate 32 128) → IsKept table 128
keeps_first table kept = kept 0 (omega arith)

-- ---- what a header gives, as the code reads it
pub header_gives : (p : Parameters) (i : ℕ) (slice : Slice) (start reading : Reading) (table content : List ℕ) (grid : Grid) (result : Result Header HeaderFault)
    → grid ≡ grid_of p → table ≡ p.transition → content ≡ slice.content → start ≡ reader_at table (eqb i 0) content
    → headers.Gives grid (source start (replicate 32 128)) reading result → HeaderGives p i slice reading result
header_gives p i slice start reading table content grid result at_grid at_table at_content at_start gives =
    let at : start ≡ reader_at p.transition (eqb i 0) slice.content = at_start ∙ ap (λ (t : List ℕ). reader_at t (eqb i 0) content) at_table ∙ ap (reader_at p.transition (eqb i 0)) at_content in
    subst (λ (g : Grid). headers.Gives g (source (reader_at p.transition (eqb i 0) slice.content) (replicate 32 128)) reading result) at_grid
    (subst (λ (s : Reading). headers.Gives grid (source s (replicate 32 128)) reading result) at gives)

-- ---- headers in turn
pub no_headers : (p : Parameters) (slices : List Slice) → AreHeaders p slices []
no_headers p slices = record { few = omega arith; each = λ i lt. absurd (omega arith) }

pub one_header : (p : Parameters) (slices : List Slice) (found : List Header) (h : Header) (reading : Reading) → AreHeaders p slices found → length found < length slices
    → HeaderGives p (length found) (slice_index_or slices (length found) no_slice) reading (Ok h) → AreHeaders p slices (found ++ h ∷ [])
one_header p slices found h reading old lt gives = record {
  few = omega (arith, length-append found (h ∷ []));
  each = λ i in_all. each_of p slices found h reading old gives i in_all;
}
  where
    each_of : (p : Parameters) (slices : List Slice) (found : List Header) (h : Header) (reading : Reading) → AreHeaders p slices found
        → HeaderGives p (length found) (slice_index_or slices (length found) no_slice) reading (Ok h) → (i : ℕ) → i < length (found ++ h ∷ [])
        → (reading : Reading) × HeaderGives p i (slice_index_or slices i no_slice) reading (Ok (slice_index_or (found ++ h ∷ []) i no_header))
    each_of p slices found h reading old gives i in_all =
        elim (cases_lt i (length found)) [
          | inl lt ↦
              let before = old.each i lt in
              (before.0, subst (λ (x : Header). HeaderGives p i (slice_index_or slices i no_slice) before.0 (Ok x)) (sym (get_or_append_left found (h ∷ []) no_header i lt)) before.1)
          | inr le ↦
              let at : length found ≡ i = omega (arith, length-append found (h ∷ [])) in
              let here : slice_index_or (found ++ h ∷ []) i no_header ≡ h = get_or_push found h no_header i at in (
                reading,
                subst (λ (x : Header). HeaderGives p i (slice_index_or slices i no_slice) reading (Ok x)) (sym here)
                    (subst (λ (k : ℕ). HeaderGives p k (slice_index_or slices k no_slice) reading (Ok h)) at gives),
              )
        ]

pub bad_header : (p : Parameters) (shape : Layout) (packet : List ℕ) (slices : List Slice) (found : List Header) (i : ℕ) (fault : HeaderFault) (reading : Reading)
    → IsKeyFrame p packet slices → AreHeaders p slices found → i ≡ length found → i < length slices → HeaderGives p i (slice_index_or slices i no_slice) reading (Err fault)
    → Gives p shape packet (Err (Frame (header_fault_of fault i)))
bad_header p shape packet slices found i header_faults.Header reading frame old at lt gives =
    record { slices = slices; found = found; reading = reading; frame = frame; headers = old; at = at; within = lt; fault_is = gives }
bad_header p shape packet slices found i header_faults.TableIndex reading frame old at lt gives =
    record { slices = slices; found = found; reading = reading; frame = frame; headers = old; at = at; within = lt; fault_is = gives }

-- ---- a key frame
pub key_frame : (p : Parameters) (packet : List ℕ) (slices : List Slice) (ec key : Bool) (table content : List ℕ) → ec ≡ p.ec → (packet ≡ [] → ⊥) → EndsWith p.ec packet (reverse slices) → HaveParities ec slices
    → table ≡ p.transition → content ≡ (slice_index_or slices 0 no_slice).content → key ≡ bit_of (opened table content) 128 → key ≡ true → IsKeyFrame p packet slices
key_frame p packet slices ec key table content at_ec some chain parities at_table at_content is is_true = record {
  sliced = record { some = some; chain = chain; parities = subst (λ (b : Bool). HaveParities b slices) at_ec parities };
  key = sym (ap (λ (t : List ℕ). bit_of (opened t content) 128) at_table ∙ ap (λ (b : List ℕ). bit_of (opened p.transition b) 128) at_content) ∙ sym is ∙ is_true;
}

-- ---- the sentinel
-- In Golomb-Rice mode the table is the default one, which keeps the sentinel's state.
pub keeps-sentinel : (p : Parameters) → IsRecord p → p.coder_type ≡ 0 → IsKept p.transition 129
keeps-sentinel p is rice =
    let default : IsKept DEFAULT_TRANSITION 129 = (omega arith, omega arith) in
    subst (λ (t : List ℕ). IsKept t 129) (sym (is.table.default (omega (arith, rice)))) default
