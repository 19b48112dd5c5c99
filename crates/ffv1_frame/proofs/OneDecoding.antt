-- A packet gives one picture or one fault.
use Rattle.std.proofs.Common.{◌≡◌, ℕ, zero, suc, ◌<◌, Bool, true, false, List, [], ◌∷◌, ◌++◌, length, take, reverse, replicate, eqb, refl, sym, ◌∙◌, ap, subst, arith, inl, inr, Result, Ok, Err}
use Rattle.std.specs.Prelude.{⊤, slice_index_or, All}
use Rattle.std.proofs.lemmas.Bool.{cases_lt}
use Rattle.std.proofs.lemmas.List.{length-append, reverse-reverse, ext_get_or, get_or-take, length-take-le}
use Rattle.std.proofs.lemmas.List.Elements.{All-get_or}
use Rattle.pic_planes.specs.Shape.{Layout}
use Rattle.pic_planes.specs.Picture.{Image}
use Rattle.ffv1_range.specs.Reading.{Reading}
use Rattle.ffv1_range.specs.Symbol.{source}
use Rattle.ffv1_record.specs.Parameters.{Parameters}
use Rattle.ffv1_slice.specs.declared.header.Header.{Header}
use Rattle.ffv1_slice.specs.declared.fault.HeaderFault.{HeaderFault}
use Rattle.ffv1_slice.specs.declared.fault.SliceFault.{SliceFault}
use Rattle.ffv1_slice.specs.Cells.{areas_of}
use Rattle.ffv1_slice.specs.Slice as slices
use Rattle.ffv1_slice.proofs.OneHeader.{one_header, one_place}
use Rattle.ffv1_slice.proofs.OneSlice.{one_slice, one_image}
use Rattle.ffv1_golomb.specs.Slice.{sample_bytes}
use Rattle.ffv1_golomb.proofs.OneSlice as rice
use Rattle.tl_model.specs.declared.fault.FrameFault.{FrameFault}
use Rattle.tl_model.specs.declared.fault.FrameFault.TheVariants.{Parity, Cover}
use Rattle.ffv1_frame.specs.Packet.{Slice, EndsWith, IsSlice, HasParity, no_slice, bytes_of}
use Rattle.ffv1_frame.specs.Cover.{IsUncovered}
use Rattle.ffv1_frame.specs.Frame.{Gives, HaveParities, reader_at, HeaderGives, no_header, AreHeaders, grid_of, header_fault_of, slice_fault_of, slice_by, SamplesGive, SliceGives, DecodesTo}
use Rattle.ffv1_frame.specs.Law.{told}
use Rattle.ffv1_frame.proofs.Chains.{same_last}
use Rattle.ffv1_frame.proofs.Stages.{IsWrong, IsFaulty, IsStuck, OfSamples, OfCells, OfKeyFrame, OfParities, OfSlices, OfBytes, OfPacket, stages}

-- ---- the slices
no_bytes : (ec : Bool) (last : Slice) (before : List ℕ) → [] ≡ before ++ bytes_of last → IsSlice ec last → ⊥
no_bytes true last before is sound = omega (arith, ap length is, length-append before (bytes_of last), length-append last.content last.footer, sound.footer)
no_bytes false last before is sound = omega (arith, ap length is, length-append before (bytes_of last), length-append last.content last.footer, sound.footer)

pub one_chain : (ec : Bool) (bytes : List ℕ) (a b : List Slice) → EndsWith ec bytes a → EndsWith ec bytes b → a ≡ b
one_chain ec bytes [] [] first second = refl
one_chain ec bytes [] (t ∷ rest) first (before, is, sound, others) = absurd (no_bytes ec t before (sym first ∙ is) sound)
one_chain ec bytes (s ∷ more) [] (before, is, sound, others) second = absurd (no_bytes ec s before (sym second ∙ is) sound)
one_chain ec bytes (s ∷ more) (t ∷ rest) (before, is, sound, others) (front, at, whole, left) =
    let same = same_last ec before front s t (sym is ∙ at) sound whole in
    let all : more ≡ rest = one_chain ec before more rest others (subst (λ (l : List ℕ). EndsWith ec l rest) (sym same.0) left) in
    cc

one_slicing : (ec : Bool) (packet : List ℕ) (a b : List Slice) → EndsWith ec packet (reverse a) → EndsWith ec packet (reverse b) → a ≡ b
one_slicing ec packet a b first second =
    sym (reverse-reverse a) ∙ ap (λ (l : List Slice). reverse l) (one_chain ec packet (reverse a) (reverse b) first second) ∙ reverse-reverse b

-- ---- the parities
parity_before : (slices : List Slice) (i j : ℕ) → All HasParity (take j slices) → i < j → j < length slices → HasParity (slice_index_or slices i no_slice)
parity_before slices i j all lt within =
    subst HasParity (get_or-take j slices i no_slice lt)
    (All-get_or HasParity (take j slices) i no_slice (omega (arith, length-take-le j slices, lt, within)) all)

one_wrong : (ec : Bool) (slices : List Slice) (i j : ℕ) → IsWrong ec slices i → IsWrong ec slices j → i ≡ j
one_wrong ec slices i j first second =
    elim (cases_lt i j) [
      | inl lt ↦ absurd (first.wrong (parity_before slices i j second.before lt second.within))
      | inr le ↦
          elim (cases_lt j i) [
            | inl lt ↦ absurd (second.wrong (parity_before slices j i first.before lt first.within))
            | inr ge ↦ omega arith
          ]
    ]

wrong_or_all : (ec : Bool) (slices : List Slice) (i : ℕ) → IsWrong ec slices i → HaveParities ec slices → ⊥
wrong_or_all true slices i is all = is.wrong (All-get_or HasParity slices i no_slice is.within all)
wrong_or_all false slices i is all = let e : false ≡ true = is.ec_is in cc

-- ---- the headers
one_result : (p : Parameters) (i : ℕ) (slice : Slice) (x y : Reading) (a b : Result Header HeaderFault) → HeaderGives p i slice x a → HeaderGives p i slice y b → a ≡ b
one_result p i slice x y a b first second =
    one_header (grid_of p) (source (reader_at p.transition (eqb i 0) slice.content) (replicate 32 128)) x y a b first second

same_header : (p : Parameters) (i : ℕ) (slice : Slice) (x y : Reading) (h g : Header) → HeaderGives p i slice x (Ok h) → HeaderGives p i slice y (Ok g) → h ≡ g
same_header p i slice x y h g first second = let same : Ok h ≡ Ok g = one_result p i slice x y (Ok h) (Ok g) first second in cc

same_place : (p : Parameters) (i : ℕ) (slice : Slice) (x y : Reading) (h g : Header) → HeaderGives p i slice x (Ok h) → HeaderGives p i slice y (Ok g) → x ≡ y
same_place p i slice x y h g first second = one_place (grid_of p) (source (reader_at p.transition (eqb i 0) slice.content) (replicate 32 128)) x y h g first second

header_or_fault : (p : Parameters) (i : ℕ) (slice : Slice) (x y : Reading) (h : Header) (fault : HeaderFault) → HeaderGives p i slice x (Ok h) → HeaderGives p i slice y (Err fault) → ⊥
header_or_fault p i slice x y h fault first second = let same : Ok h ≡ Err fault = one_result p i slice x y (Ok h) (Err fault) first second in cc

one_found : (p : Parameters) (all : List Slice) (a b : List Header) → AreHeaders p all a → AreHeaders p all b → length a ≡ length b → a ≡ b
one_found p all a b first second len =
    ext_get_or no_header a b len (λ i lt.
    let here = first.each i lt in
    let there = second.each i (omega arith) in
    same_header p i (slice_index_or all i no_slice) here.0 there.0 (slice_index_or a i no_header) (slice_index_or b i no_header) here.1 there.1)

faulty_or_header : (p : Parameters) (all : List Slice) (i : ℕ) (fault : HeaderFault) (found : List Header) → IsFaulty p all i fault → AreHeaders p all found → i < length found → ⊥
faulty_or_header p all i fault found is headers lt =
    let here = headers.each i lt in
    header_or_fault p i (slice_index_or all i no_slice) here.0 is.reading (slice_index_or found i no_header) fault here.1 is.fault_is

one_faulty : (p : Parameters) (all : List Slice) (i j : ℕ) (a b : HeaderFault) → IsFaulty p all i a → IsFaulty p all j b → header_fault_of a i ≡ header_fault_of b j
one_faulty p all i j a b first second =
    elim (cases_lt i j) [
      | inl lt ↦ absurd (faulty_or_header p all i a second.found first second.headers (omega (arith, second.at, lt)))
      | inr le ↦
          elim (cases_lt j i) [
            | inl lt ↦ absurd (faulty_or_header p all j b first.found second first.headers (omega (arith, first.at, lt)))
            | inr ge ↦
                let same : i ≡ j = omega arith in
                let at_i : HeaderGives p i (slice_index_or all i no_slice) second.reading (Err b) =
                subst (λ (k : ℕ). HeaderGives p k (slice_index_or all k no_slice) second.reading (Err b)) (sym same) second.fault_is in
                let faults : Err a ≡ Err b = one_result p i (slice_index_or all i no_slice) first.reading second.reading (Err a) (Err b) first.fault_is at_i in
                let fault : a ≡ b = cc in
                cc
          ]
    ]

-- ---- the cover
one_uncovered : (columns rows : ℕ) (headers : List Header) (a b : ℕ) → IsUncovered columns rows headers a → IsUncovered columns rows headers b → a ≡ b
one_uncovered columns rows headers a b first second =
    elim (cases_lt a b) [
      | inl lt ↦ absurd (first.wrong (second.before a lt))
      | inr le ↦
          elim (cases_lt b a) [
            | inl lt ↦ absurd (second.wrong (first.before b lt))
            | inr ge ↦ omega arith
          ]
    ]

-- ---- the samples
one_answer : (coder : ℕ) (s : slices.Slice) (content : List ℕ) (at : slices.Standing) (x y : Image) (a b : Result (⊤) SliceFault)
    → SamplesGive coder s content at x a → SamplesGive coder s content at y b → a ≡ b
one_answer zero s content at x y a b first second = rice.one_slice s (sample_bytes content at.reading) at.image x y a b first second
one_answer (suc coder) s content at x y a b first second = one_slice s (length content) at x y a b first second

same_image : (coder : ℕ) (s : slices.Slice) (content : List ℕ) (at : slices.Standing) (x y : Image)
    → SamplesGive coder s content at x (Ok tt) → SamplesGive coder s content at y (Ok tt) → x ≡ y
same_image zero s content at x y first second = rice.one_image s (sample_bytes content at.reading) at.image x y first second
same_image (suc coder) s content at x y first second = one_image s (length content) at x y first second

-- What a header and a reader behind it give, at those that stand for them.
same_start : (p : Parameters) (shape : Layout) (h g : Header) (content : List ℕ) (reading other : Reading) (before image : Image) (result : Result (⊤) SliceFault) → h ≡ g → reading ≡ other
    → SamplesGive p.coder_type (slice_by p g (areas_of (grid_of p) shape g)) content (slices.standing other before) image result
    → SamplesGive p.coder_type (slice_by p h (areas_of (grid_of p) shape h)) content (slices.standing reading before) image result
same_start p shape h g content reading other before image result same at gives =
    subst (λ (k : Header). SamplesGive p.coder_type (slice_by p k (areas_of (grid_of p) shape k)) content (slices.standing reading before) image result) (sym same)
    (subst (λ (r : Reading). SamplesGive p.coder_type (slice_by p g (areas_of (grid_of p) shape g)) content (slices.standing r before) image result) (sym at) gives)

one_samples : (p : Parameters) (shape : Layout) (i : ℕ) (slice : Slice) (before x y : Image) (a b : Result (⊤) SliceFault)
    → SliceGives p shape i slice before x a → SliceGives p shape i slice before y b → a ≡ b
one_samples p shape i slice before x y a b (h, reading, header, gives) (g, other, its, given) =
    one_answer p.coder_type (slice_by p h (areas_of (grid_of p) shape h)) slice.content (slices.standing reading before) x y a b gives
    (same_start p shape h g slice.content reading other before y b (same_header p i slice reading other h g header its) (same_place p i slice reading other h g header its) given)

one_picture : (p : Parameters) (shape : Layout) (i : ℕ) (slice : Slice) (before x y : Image)
    → SliceGives p shape i slice before x (Ok tt) → SliceGives p shape i slice before y (Ok tt) → x ≡ y
one_picture p shape i slice before x y (h, reading, header, gives) (g, other, its, given) =
    same_image p.coder_type (slice_by p h (areas_of (grid_of p) shape h)) slice.content (slices.standing reading before) x y gives
    (same_start p shape h g slice.content reading other before y (Ok tt) (same_header p i slice reading other h g header its) (same_place p i slice reading other h g header its) given)

one_decoded : (p : Parameters) (shape : Layout) (all : List Slice) (n : ℕ) (x y : Image) → DecodesTo p shape all n x → DecodesTo p shape all n y → x ≡ y
one_decoded p shape all zero x y first second = first ∙ sym second
one_decoded p shape all (suc n) x y (before, old, gives) (front, others, given) =
    let same : before ≡ front = one_decoded p shape all n before front old others in
    one_picture p shape n (slice_index_or all n no_slice) before x y gives
    (subst (λ (b : Image). SliceGives p shape n (slice_index_or all n no_slice) b y (Ok tt)) (sym same) given)

-- what the slices before one decode to, and what it gives, of more slices that are decoded
decoded_at : (p : Parameters) (shape : Layout) (all : List Slice) (i n : ℕ) (image : Image) → i < n → DecodesTo p shape all n image
    → (before after : Image) × DecodesTo p shape all i before × SliceGives p shape i (slice_index_or all i no_slice) before after (Ok tt)
decoded_at p shape all i zero image lt decodes = absurd (omega arith)
decoded_at p shape all i (suc n) image lt (last, old, gives) =
    elim (cases_lt i n) [
      | inl below ↦ decoded_at p shape all i n last below old
      | inr above ↦
          let at : n ≡ i = omega arith in
          subst (λ (k : ℕ). (before after : Image) × DecodesTo p shape all k before × SliceGives p shape k (slice_index_or all k no_slice) before after (Ok tt)) at (last, image, old, gives)
    ]

stuck_or_decoded : (p : Parameters) (shape : Layout) (all : List Slice) (i n : ℕ) (fault : SliceFault) (image : Image) → i < n → IsStuck p shape all i fault → DecodesTo p shape all n image → ⊥
stuck_or_decoded p shape all i n fault image lt is decodes =
    let here = decoded_at p shape all i n image lt decodes in
    let same : here.0 ≡ is.before = one_decoded p shape all i here.0 is.before here.2 is.decodes in
    let passes : SliceGives p shape i (slice_index_or all i no_slice) is.before here.1 (Ok tt) =
    subst (λ (b : Image). SliceGives p shape i (slice_index_or all i no_slice) b here.1 (Ok tt)) same here.3 in
    let results : Ok tt ≡ Err fault = one_samples p shape i (slice_index_or all i no_slice) is.before here.1 is.image (Ok tt) (Err fault) passes is.fault_is in
    cc

one_stuck : (p : Parameters) (shape : Layout) (all : List Slice) (i j : ℕ) (a b : SliceFault) → IsStuck p shape all i a → IsStuck p shape all j b → slice_fault_of a i ≡ slice_fault_of b j
one_stuck p shape all i j a b first second =
    elim (cases_lt i j) [
      | inl lt ↦ absurd (stuck_or_decoded p shape all i j a second.before lt first second.decodes)
      | inr le ↦
          elim (cases_lt j i) [
            | inl lt ↦ absurd (stuck_or_decoded p shape all j i b first.before lt second first.decodes)
            | inr ge ↦ same_stuck p shape all i j a b (omega arith) first second
          ]
    ]
  where
    same_stuck : (p : Parameters) (shape : Layout) (all : List Slice) (i j : ℕ) (a b : SliceFault) → i ≡ j → IsStuck p shape all i a → IsStuck p shape all j b → slice_fault_of a i ≡ slice_fault_of b j
    same_stuck p shape all i j a b same first second =
        let there : IsStuck p shape all i b = subst (λ (k : ℕ). IsStuck p shape all k b) (sym same) second in
        let before : there.before ≡ first.before = one_decoded p shape all i there.before first.before there.decodes first.decodes in
        let gives : SliceGives p shape i (slice_index_or all i no_slice) first.before there.image (Err b) =
        subst (λ (m : Image). SliceGives p shape i (slice_index_or all i no_slice) m there.image (Err b)) before there.fault_is in
        let results : Err a ≡ Err b = one_samples p shape i (slice_index_or all i no_slice) first.before first.image there.image (Err a) (Err b) first.fault_is gives in
        let faults : a ≡ b = cc in
        cc

-- ---- the stages, the last one first
one_of_samples : (p : Parameters) (shape : Layout) (all : List Slice) (a b : Result Image FrameFault) → OfSamples p shape all a → OfSamples p shape all b → a ≡ b
one_of_samples p shape all a b (inl (i, fault, is, at)) (inl (j, other, its, also)) =
    at ∙ ap (λ (f : FrameFault). Err f) (one_stuck p shape all i j fault other is its) ∙ sym also
one_of_samples p shape all a b (inl (i, fault, is, at)) (inr (image, decodes, also)) = absurd (stuck_or_decoded p shape all i (length all) fault image is.within is decodes)
one_of_samples p shape all a b (inr (image, decodes, at)) (inl (j, other, its, also)) = absurd (stuck_or_decoded p shape all j (length all) other image its.within its decodes)
one_of_samples p shape all a b (inr (image, decodes, at)) (inr (picture, others, also)) =
    at ∙ ap (λ (m : Image). Ok m) (one_decoded p shape all (length all) image picture decodes others) ∙ sym also

one_of_cells : (p : Parameters) (shape : Layout) (all : List Slice) (found : List Header) (a b : Result Image FrameFault) → OfCells p shape all found a → OfCells p shape all found b → a ≡ b
one_of_cells p shape all found a b (inl (cell, is, at)) (inl (other, its, also)) =
    at ∙ ap (λ (c : ℕ). Err (Cover c)) (one_uncovered p.columns p.rows found cell other is its) ∙ sym also
one_of_cells p shape all found a b (inl (cell, is, at)) (inr (covered, rest)) = absurd (is.wrong (covered cell is.within))
one_of_cells p shape all found a b (inr (covered, rest)) (inl (cell, is, at)) = absurd (is.wrong (covered cell is.within))
one_of_cells p shape all found a b (inr (covered, rest)) (inr (cover, others)) = one_of_samples p shape all a b rest others

one_of_key_frame : (p : Parameters) (shape : Layout) (all : List Slice) (a b : Result Image FrameFault) → OfKeyFrame p shape all a → OfKeyFrame p shape all b → a ≡ b
one_of_key_frame p shape all a b (inl (i, fault, is, at)) (inl (j, other, its, also)) =
    at ∙ ap (λ (f : FrameFault). Err f) (one_faulty p all i j fault other is its) ∙ sym also
one_of_key_frame p shape all a b (inl (i, fault, is, at)) (inr (found, headers, len, rest)) = absurd (faulty_or_header p all i fault found is headers (omega (arith, is.within, len)))
one_of_key_frame p shape all a b (inr (found, headers, len, rest)) (inl (i, fault, is, at)) = absurd (faulty_or_header p all i fault found is headers (omega (arith, is.within, len)))
one_of_key_frame p shape all a b (inr (found, headers, len, rest)) (inr (given, its, many, others)) =
    let same : found ≡ given = one_found p all found given headers its (len ∙ sym many) in
    one_of_cells p shape all given a b (subst (λ (l : List Header). OfCells p shape all l a) same rest) others

one_of_parities : (p : Parameters) (shape : Layout) (all : List Slice) (a b : Result Image FrameFault) → OfParities p shape all a → OfParities p shape all b → a ≡ b
one_of_parities p shape all a b (inl (inter, at)) (inl (between, also)) = at ∙ sym also
one_of_parities p shape all a b (inl (inter, at)) (inr (key, rest)) = cc
one_of_parities p shape all a b (inr (key, rest)) (inl (inter, at)) = cc
one_of_parities p shape all a b (inr (key, rest)) (inr (too, others)) = one_of_key_frame p shape all a b rest others

one_of_slices : (p : Parameters) (shape : Layout) (all : List Slice) (a b : Result Image FrameFault) → OfSlices p shape all a → OfSlices p shape all b → a ≡ b
one_of_slices p shape all a b (inl (i, is, at)) (inl (j, its, also)) = at ∙ ap (λ (k : ℕ). Err (Parity k)) (one_wrong p.ec all i j is its) ∙ sym also
one_of_slices p shape all a b (inl (i, is, at)) (inr (parities, rest)) = absurd (wrong_or_all p.ec all i is parities)
one_of_slices p shape all a b (inr (parities, rest)) (inl (i, is, at)) = absurd (wrong_or_all p.ec all i is parities)
one_of_slices p shape all a b (inr (parities, rest)) (inr (too, others)) = one_of_parities p shape all a b rest others

one_of_bytes : (p : Parameters) (shape : Layout) (packet : List ℕ) (a b : Result Image FrameFault) → OfBytes p shape packet a → OfBytes p shape packet b → a ≡ b
one_of_bytes p shape packet a b (inl (none_end, at)) (inl (none_ends, also)) = at ∙ sym also
one_of_bytes p shape packet a b (inl (none_end, at)) (inr (all, chain, rest)) = absurd (none_end (reverse all) chain)
one_of_bytes p shape packet a b (inr (all, chain, rest)) (inl (none_end, at)) = absurd (none_end (reverse all) chain)
one_of_bytes p shape packet a b (inr (all, chain, rest)) (inr (given, ends, others)) =
    let same : all ≡ given = one_slicing p.ec packet all given chain ends in
    one_of_slices p shape given a b (subst (λ (l : List Slice). OfSlices p shape l a) same rest) others

one_of_packet : (p : Parameters) (shape : Layout) (packet : List ℕ) (a b : Result Image FrameFault) → OfPacket p shape packet a → OfPacket p shape packet b → a ≡ b
one_of_packet p shape packet a b (inl (empty, at)) (inl (also_empty, also)) = at ∙ sym also
one_of_packet p shape packet a b (inl (empty, at)) (inr (some, rest)) = absurd (some empty)
one_of_packet p shape packet a b (inr (some, rest)) (inl (empty, at)) = absurd (some empty)
one_of_packet p shape packet a b (inr (some, rest)) (inr (more, others)) = one_of_bytes p shape packet a b rest others

-- Two answers to one packet are one.
pub one_decoding : (p : Parameters) (shape : Layout) (packet : List ℕ) (a b : Result Image FrameFault)
    → Gives p shape packet (told a) → Gives p shape packet (told b) → a ≡ b
one_decoding p shape packet a b first second = one_of_packet p shape packet a b (stages p shape packet a first) (stages p shape packet b second)
