-- Each packet gives a picture or a fault.
use Rattle.std.proofs.Common.{◌≡◌, ◌≢◌, ℕ, zero, suc, ◌+◌, ◌-◌, ◌*◌, ◌<◌, ◌≤◌, Bool, true, false, List, [], ◌∷◌, ◌++◌, length, take, reverse, replicate, eqb, refl, sym, ap, subst, arith, inl, inr, Result, Ok, Err}
use Rattle.std.specs.Prelude.{◌⊎◌, ⊤, slice_index_or, slice_range, All}
use Rattle.std.proofs.lemmas.Bool.{cases_lt, cases_eq}
use Rattle.std.proofs.lemmas.List.{length-append, length-take-le, reverse-reverse, take_all, take_more}
use Rattle.std.proofs.lemmas.List.Elements.{All-push}
use Rattle.byteorder.specs.Endian.{big_number}
use Rattle.tl_base.specs.Parity.{parity}
use Rattle.pic_planes.specs.Shape.{Layout}
use Rattle.pic_planes.specs.Picture.{Image, filled}
use Rattle.ffv1_range.specs.Reading.{Reading}
use Rattle.ffv1_range.specs.Symbol.{source}
use Rattle.ffv1_record.specs.Parameters.{Parameters}
use Rattle.ffv1_slice.specs.declared.header.Header.{Header}
use Rattle.ffv1_slice.specs.declared.fault.HeaderFault.{HeaderFault}
use Rattle.ffv1_slice.specs.declared.fault.SliceFault.{SliceFault}
use Rattle.ffv1_slice.specs.Cells.{areas_of}
use Rattle.ffv1_slice.specs.Slice as slices
use Rattle.ffv1_slice.proofs.ExistsHeader.{header_exists}
use Rattle.ffv1_slice.proofs.ExistsSlice.{slice_exists}
use Rattle.ffv1_golomb.specs.Slice.{sample_bytes}
use Rattle.ffv1_golomb.proofs.ExistsSlice as rice
use Rattle.tl_model.specs.declared.fault.FrameFault.{FrameFault}
use Rattle.tl_model.specs.declared.fault.FrameFault.TheVariants.{Empty, Chain, Parity, NotKey, Cover}
use Rattle.ffv1_frame.specs.Packet.{Slice, EndsWith, IsSlice, HasParity, no_slice, bytes_of, footer_length}
use Rattle.ffv1_frame.specs.Cover.{AreCovered, IsUncovered, cover_count}
use Rattle.ffv1_frame.specs.Frame.{Gives, HaveParities, keyframe, reader_at, AreSlices, IsKeyFrame, HeaderGives, no_header, AreHeaders, HaveHeaders, grid_of, header_fault_of, slice_fault_of, slice_by, SamplesGive, SliceGives, DecodesTo, IsWhole}
use Rattle.ffv1_frame.specs.Law.{told}
use Rattle.ffv1_frame.proofs.Chains.{take-split, span-IsSlice, no_room, AreFound, none_found, one_found, all_found, not_found}
use Rattle.ffv1_frame.proofs.Frames.{no_headers, one_header, bad_header}
use Rattle.ffv1_frame.proofs.SliceSteps.{bad_slice, decodes-next}
use Rattle.ffv1_frame.proofs.Stages.{IsWrong, IsFaulty, IsStuck}

-- ---- the slices
-- A slice ends the first bytes.
abbrev HasLast : Bool → List ℕ → ℕ → Type 0
HasLast ec bytes end = (from : ℕ) × (slice : Slice) × (from < end) × (take end bytes ≡ take from bytes ++ bytes_of slice) × IsSlice ec slice

abbrev HasNoLast : Bool → List ℕ → ℕ → Type 0
HasNoLast ec bytes end = (before : List ℕ) (slice : Slice) → take end bytes ≡ before ++ bytes_of slice → IsSlice ec slice → ⊥

some_footer : (ec : Bool) → 0 < footer_length ec
some_footer true = omega arith
some_footer false = omega arith

too_short : (ec : Bool) (bytes : List ℕ) (end : ℕ) → end ≤ length bytes → end < footer_length ec → HasNoLast ec bytes end
too_short ec bytes end within short before slice is sound =
    omega (arith, ap length is, length-take-le end bytes within, length-append before (bytes_of slice), length-append slice.content slice.footer, sound.footer)

last_slice : (ec : Bool) (bytes : List ℕ) (end : ℕ) → end ≤ length bytes → HasLast ec bytes end ⊎ HasNoLast ec bytes end
last_slice ec bytes end within =
    let at : ℕ = end - footer_length ec in
    let size : ℕ = big_number 3 (slice_range bytes at end) in
    elim (cases_lt end (footer_length ec)) [
      | inl short ↦ inr (too_short ec bytes end within short)
      | inr long ↦
          elim (cases_lt at size) [
            | inl over ↦ inr (λ before slice is sound. no_room ec bytes before slice end at within (omega arith) over is sound)
            | inr room ↦
                let from : ℕ = at - size in
                inl (
                  from,
                  record { content = slice_range bytes from at; footer = slice_range bytes at end },
                  omega (arith, some_footer ec),
                  take-split bytes from at end (omega arith) (omega arith),
                  span-IsSlice ec bytes from at end (omega arith) within (omega arith) (omega arith),
                )
          ]
    ]

-- The bytes are slices, or none end them.
abbrev Chained : Bool → List ℕ → Type 0
Chained ec bytes = ((all : List Slice) × EndsWith ec bytes all) ⊎ ((all : List Slice) → EndsWith ec bytes all → ⊥)

at_start : (ec : Bool) (bytes : List ℕ) (end : ℕ) (found : List Slice) → end ≤ 0 → AreFound ec bytes (take end bytes) found → Chained ec bytes
at_start ec bytes end found over are = inl (found, all_found ec bytes (take end bytes) found are (ap (λ n. take n bytes) {x = end} {y = 0} (omega arith)))

chain_from : (ec : Bool) (bytes : List ℕ) (fuel end : ℕ) (found : List Slice) → end ≤ fuel → end ≤ length bytes → AreFound ec bytes (take end bytes) found → Chained ec bytes
chain_from ec bytes zero end found small within are = at_start ec bytes end found small are
chain_from ec bytes (suc fuel) end found small within are =
    elim (cases_lt 0 end) [
      | inr over ↦ at_start ec bytes end found over are
      | inl some ↦
          let long : 0 < length (take end bytes) = omega (arith, length-take-le end bytes within) in
          elim (last_slice ec bytes end within) [
            | inl last ↦
                chain_from ec bytes fuel last.0 (found ++ last.1 ∷ []) (omega (arith, last.2)) (omega (arith, last.2))
                (one_found ec bytes (take end bytes) (take last.0 bytes) found last.1 are last.3 last.4 long)
            | inr none_last ↦ inr (λ all ends. not_found ec bytes (take end bytes) found all are long none_last ends)
          ]
    ]

chain_of : (ec : Bool) (bytes : List ℕ) → Chained ec bytes
chain_of ec bytes =
    chain_from ec bytes (length bytes) (length bytes) [] (omega arith) (omega arith)
    (subst (λ (l : List ℕ). AreFound ec bytes l []) (sym (take_all (length bytes) bytes (omega arith))) (none_found ec bytes))

-- ---- the parities
parities_from : (all : List Slice) (left i : ℕ) → i + left ≡ length all → All HasParity (take i all) → All HasParity all ⊎ ((k : ℕ) × IsWrong true all k)
parities_from all zero i ends before = inl (subst (λ (l : List Slice). All HasParity l) (take_all i all (omega arith)) before)
parities_from all (suc left) i ends before =
    let slice : Slice = slice_index_or all i no_slice in
    elim (cases_eq (parity (bytes_of slice)) 0) [
      | inl right ↦
          parities_from all left (i + 1) (omega arith)
          (subst (λ (l : List Slice). All HasParity l) (sym (take_more all i no_slice (omega arith))) (All-push HasParity (take i all) slice before right))
      | inr wrong ↦ inr (i, record { ec_is = refl; within = omega arith; before = before; wrong = wrong })
    ]

parities_of : (ec : Bool) (all : List Slice) → HaveParities ec all ⊎ ((k : ℕ) × IsWrong ec all k)
parities_of false all = inl tt
parities_of true all = parities_from all (length all) 0 (omega arith) (λ i d lt. absurd (omega arith))

-- ---- the headers
header_of : (p : Parameters) (i : ℕ) (slice : Slice) → (reading : Reading) × (result : Result Header HeaderFault) × HeaderGives p i slice reading result
header_of p i slice = header_exists (grid_of p) (source (reader_at p.transition (eqb i 0) slice.content) (replicate 32 128))

-- a header or a fault
header_given : (p : Parameters) (i : ℕ) (slice : Slice) (reading : Reading) (result : Result Header HeaderFault) → HeaderGives p i slice reading result
    → ((h : Header) × (behind : Reading) × HeaderGives p i slice behind (Ok h)) ⊎ ((fault : HeaderFault) × (behind : Reading) × HeaderGives p i slice behind (Err fault))
header_given p i slice reading (Ok h) gives = inl (h, reading, gives)
header_given p i slice reading (Err fault) gives = inr (fault, reading, gives)

-- All headers are found, or one has a fault.
abbrev Opened : Parameters → List Slice → Type 0
Opened p all =
    ((found : List Header) × AreHeaders p all found × (length found ≡ length all)) ⊎ ((i : ℕ) × (fault : HeaderFault) × IsFaulty p all i fault)

headers_from : (p : Parameters) (all : List Slice) (left : ℕ) (found : List Header) → length found + left ≡ length all → AreHeaders p all found → Opened p all
headers_from p all zero found ends are = inl (found, are, omega arith)
headers_from p all (suc left) found ends are =
    let i : ℕ = length found in
    let slice : Slice = slice_index_or all i no_slice in
    let here = header_of p i slice in
    elim (header_given p i slice here.0 here.1 here.2) [
      | inl header ↦
          headers_from p all left (found ++ header.0 ∷ []) (omega (arith, ends, length-append found (header.0 ∷ [])))
          (one_header p all found header.0 header.1 are (omega arith) header.2)
      | inr bad ↦
          inr (i, bad.0, record { found = found; reading = bad.1; headers = are; at = refl; within = omega arith; fault_is = bad.2 })
    ]

-- ---- the cover
cover_from : (columns rows : ℕ) (headers : List Header) (left cell : ℕ) → cell + left ≡ columns * rows → AreCovered columns headers cell
    → AreCovered columns headers (columns * rows) ⊎ ((k : ℕ) × IsUncovered columns rows headers k)
cover_from columns rows headers zero cell ends before = inl (subst (λ (n : ℕ). AreCovered columns headers n) {x = cell} {y = columns * rows} (omega arith) before)
cover_from columns rows headers (suc left) cell ends before =
    elim (cases_eq (cover_count columns headers cell) 1) [
      | inl one ↦ cover_from columns rows headers left (cell + 1) (omega arith) (cell_more columns headers cell before one)
      | inr other ↦ inr (cell, record { within = omega arith; before = before; wrong = other })
    ]
  where
    cell_more : (columns : ℕ) (headers : List Header) (cell : ℕ) → AreCovered columns headers cell → cover_count columns headers cell ≡ 1 → AreCovered columns headers (cell + 1)
    cell_more columns headers cell before one k lt =
        elim (cases_lt k cell) [
          | inl below ↦ before k below
          | inr above ↦ let same : k ≡ cell = omega arith in subst (λ (n : ℕ). cover_count columns headers n ≡ 1) (sym same) one
        ]

-- ---- the samples
-- The samples of a slice give a picture or a fault.
abbrev SampledOne : Parameters → Layout → ℕ → Slice → Image → Type 0
SampledOne p shape i slice before =
    ((image : Image) × SliceGives p shape i slice before image (Ok tt)) ⊎ ((image : Image) × (fault : SliceFault) × SliceGives p shape i slice before image (Err fault))

samples_given : (p : Parameters) (shape : Layout) (i : ℕ) (slice : Slice) (before image : Image) (result : Result (⊤) SliceFault)
    → SliceGives p shape i slice before image result → SampledOne p shape i slice before
samples_given p shape i slice before image (Ok u) gives = inl (image, gives)
samples_given p shape i slice before image (Err fault) gives = inr (image, fault, gives)

samples_exist : (coder : ℕ) (s : slices.Slice) (content : List ℕ) (at : slices.Standing) → (image : Image) × (result : Result (⊤) SliceFault) × SamplesGive coder s content at image result
samples_exist zero s content at = rice.slice_exists s (sample_bytes content at.reading) at.image
samples_exist (suc coder) s content at = slice_exists s (length content) at

samples_of : (p : Parameters) (shape : Layout) (i : ℕ) (slice : Slice) (before : Image) (h : Header) (reading : Reading) → HeaderGives p i slice reading (Ok h) → SampledOne p shape i slice before
samples_of p shape i slice before h reading header =
    let here = samples_exist p.coder_type (slice_by p h (areas_of (grid_of p) shape h)) slice.content (slices.standing reading before) in
    samples_given p shape i slice before here.0 here.1 (h, reading, header, here.2)

-- All slices are decoded, or the samples of one have a fault.
abbrev Sampled : Parameters → Layout → List Slice → Type 0
Sampled p shape all =
    ((image : Image) × DecodesTo p shape all (length all) image) ⊎ ((i : ℕ) × (fault : SliceFault) × IsStuck p shape all i fault)

samples_from : (p : Parameters) (shape : Layout) (all : List Slice) (found : List Header) (left i : ℕ) (before : Image) → AreHeaders p all found → length found ≡ length all
    → i + left ≡ length all → DecodesTo p shape all i before → Sampled p shape all
samples_from p shape all found zero i before are len ends decodes = inl (before, subst (λ (n : ℕ). DecodesTo p shape all n before) {x = i} {y = length all} (omega arith) decodes)
samples_from p shape all found (suc left) i before are len ends decodes =
    let slice : Slice = slice_index_or all i no_slice in
    let header = are.each i (omega arith) in
    elim (samples_of p shape i slice before (slice_index_or found i no_header) header.0 header.1) [
      | inl next ↦ samples_from p shape all found left (i + 1) next.0 are len (omega arith) (decodes-next p shape all i before next.0 decodes next.1)
      | inr bad ↦ inr (i, bad.1, record { before = before; image = bad.0; within = omega arith; decodes = decodes; fault_is = bad.2 })
    ]

-- ---- the packet
abbrev Answer : Parameters → Layout → List ℕ → Type 0
Answer p shape packet = (result : Result Image FrameFault) × Gives p shape packet (told result)

of_samples : (p : Parameters) (shape : Layout) (packet : List ℕ) (all : List Slice) → IsWhole p packet all → Sampled p shape all → Answer p shape packet
of_samples p shape packet all whole (inl (image, decodes)) = (Ok image, (all, whole, decodes))
of_samples p shape packet all whole (inr (i, fault, is)) =
    (Err (slice_fault_of fault i), bad_slice p shape packet all is.before is.image i fault whole is.within is.decodes is.fault_is)

of_cells : (p : Parameters) (shape : Layout) (packet : List ℕ) (all : List Slice) (found : List Header) → HaveHeaders p packet all found
    → AreCovered p.columns found (p.columns * p.rows) ⊎ ((cell : ℕ) × IsUncovered p.columns p.rows found cell) → Answer p shape packet
of_cells p shape packet all found have (inl covered) =
    of_samples p shape packet all (record { found = found; headers = have; cover = covered })
    (samples_from p shape all found (length all) 0 (filled shape 0 0) have.headers have.all (omega arith) refl)
of_cells p shape packet all found have (inr (cell, is)) = (Err (Cover cell), (all, found, have, is))

of_key_frame : (p : Parameters) (shape : Layout) (packet : List ℕ) (all : List Slice) → IsKeyFrame p packet all → Opened p all → Answer p shape packet
of_key_frame p shape packet all frame (inl (found, are, len)) =
    of_cells p shape packet all found (record { frame = frame; headers = are; all = len })
    (cover_from p.columns p.rows found (p.columns * p.rows) 0 (omega arith) (λ cell lt. absurd (omega arith)))
of_key_frame p shape packet all frame (inr (i, fault, is)) =
    (Err (header_fault_of fault i), bad_header p shape packet all is.found i fault is.reading frame is.headers is.at is.within is.fault_is)

of_key : (p : Parameters) (shape : Layout) (packet : List ℕ) (all : List Slice) (key : Bool) → AreSlices p packet all → keyframe p.transition all ≡ key → Answer p shape packet
of_key p shape packet all true sliced is = of_key_frame p shape packet all (record { sliced = sliced; key = is }) (headers_from p all (length all) [] (omega arith) (no_headers p all))
of_key p shape packet all false sliced is = (Err NotKey, (all, sliced, is))

of_slices : (p : Parameters) (shape : Layout) (packet : List ℕ) (all : List Slice) → packet ≢ [] → EndsWith p.ec packet (reverse all)
    → HaveParities p.ec all ⊎ ((i : ℕ) × IsWrong p.ec all i) → Answer p shape packet
of_slices p shape packet all some chain (inl parities) =
    of_key p shape packet all (keyframe p.transition all) (record { some = some; chain = chain; parities = parities }) refl
of_slices p shape packet all some chain (inr (i, is)) = (Err (Parity i), (all, some, chain, is.ec_is, is.within, is.before, is.wrong))

of_chain : (p : Parameters) (shape : Layout) (packet : List ℕ) → packet ≢ [] → Chained p.ec packet → Answer p shape packet
of_chain p shape packet some (inl (backwards, ends)) =
    let all : List Slice = reverse backwards in
    of_slices p shape packet all some (subst (λ (l : List Slice). EndsWith p.ec packet l) (sym (reverse-reverse backwards)) ends) (parities_of p.ec all)
of_chain p shape packet some (inr broken) = (Err Chain, (some, broken))

-- Each packet gives an answer.
pub decoding_exists : (p : Parameters) (shape : Layout) (packet : List ℕ) → (result : Result Image FrameFault) × Gives p shape packet (told result)
decoding_exists p shape [] = (Err Empty, refl)
decoding_exists p shape (byte ∷ more) = of_chain p shape (byte ∷ more) (λ empty. cc) (chain_of p.ec (byte ∷ more))
