-- Steps of decoding the samples of slices.
use Rattle.std.proofs.Common.{◌≡◌, ℕ, zero, suc, ◌+◌, ◌-◌, ◌%◌, ◌<◌, ◌≤◌, List, [], ◌∷◌, length, map, take, get_or, refl, sym, ◌∙◌, ap, subst, arith, add-one, Result, Ok, Err, inl, inr}
use Rattle.std.specs.Prelude.{⊤, ℤ, slice_index, slice_index_or}
use Rattle.std.proofs.lemmas.List.{length-map, length-take-le, get_or-map, get_or-take}
use Rattle.std.proofs.lemmas.Bool.{cases_lt}
use Rattle.pic_planes.specs.Shape.{Layout}
use Rattle.pic_planes.specs.Picture.{Image, filled}
use Rattle.ffv1_range.specs.Reading.{Reading}
use Rattle.ffv1_record.specs.Parameters.{Parameters, tables_of, context_count_of}
use Rattle.ffv1_record.specs.Suits.{Suits}
use Rattle.ffv1_record.specs.Tables.{TableSet, set_of, AreContexts}
use Rattle.ffv1_slice.specs.declared.area.Areas.{Areas}
use Rattle.ffv1_slice.specs.declared.header.Header.{Header}
use Rattle.ffv1_slice.specs.declared.range_slice.Quantization.{Quantization}
use Rattle.ffv1_slice.specs.declared.fault.SliceFault.{SliceFault}
use Rattle.ffv1_slice.specs.declared.fault.SliceFault.TheVariants as slice_faults
use Rattle.ffv1_slice.specs.Area.{chroma_areas}
use Rattle.ffv1_slice.specs.Cells.{IsInGrid, areas_of}
use Rattle.ffv1_slice.specs.Reading.{ContextsFit}
use Rattle.ffv1_slice.specs.Room.{Room, room as room_of}
use Rattle.ffv1_slice.specs.Slice as slices
use Rattle.ffv1_golomb.specs.Slice as rice
use Rattle.ffv1_frame.specs.declared.fault.DecodeFault.{DecodeFault}
use Rattle.ffv1_frame.specs.declared.fault.DecodeFault.TheVariants.{Frame}
use Rattle.ffv1_frame.specs.Packet.{Slice, no_slice}
use Rattle.ffv1_frame.specs.Frame.{Gives, IsWhole, IsKeyFrame, AreHeaders, HeaderGives, SamplesGive, SliceGives, DecodesTo, HasRoom, grid_of, no_header, slice_by, slice_fault_of}

-- ---- the contexts of table sets
-- how many contexts a set gives, by its place
abbrev pub count_in : List TableSet → ℕ → ℕ
count_in sets set = slice_index (map (λ s. s.context_count) sets) set

pub count-at : (sets : List (List (List ℕ))) (set : ℕ) (runs : List (List ℕ)) → set < length sets → runs ≡ get_or sets set runs → (set_of runs).context_count ≡ count_in (map set_of sets) set
count-at sets set runs lt at =
    let here : get_or (map set_of sets) set (set_of runs) ≡ set_of runs = get_or-map set_of sets set runs (set_of runs) lt ∙ ap set_of (sym at) in
    sym (get_or-map (λ (s : TableSet). s.context_count) (map set_of sets) set (set_of runs) 0 (omega (arith, lt, length-map sets set_of)) ∙ ap (λ (s : TableSet). s.context_count) here)

pub most-next : (sets : List (List (List ℕ))) (set : ℕ) (runs : List (List ℕ)) (most next : ℕ) → set < length sets → runs ≡ get_or sets set runs
    → ((k : ℕ) → k < set → count_in (map set_of sets) k ≤ most) → most ≤ next → (set_of runs).context_count ≤ next → (k : ℕ) → k < set + 1 → count_in (map set_of sets) k ≤ next
most-next sets set runs most next lt at old le here k within =
    elim (cases_lt k set) [
      | inl before ↦ omega (arith, old k before, le)
      | inr after ↦
          let same : k ≡ set = omega arith in
          subst (λ (n : ℕ). count_in (map set_of sets) n ≤ next) (sym same) (subst (λ (n : ℕ). n ≤ next) (count-at sets set runs lt at) here)
    ]

pub most-of-sets : (p : Parameters) (sets : List (List (List ℕ))) (most : ℕ) → map set_of sets ≡ p.sets → ((set : ℕ) → set < length sets → count_in (map set_of sets) set ≤ most)
    → (set : ℕ) → set < length p.sets → context_count_of p set ≤ most
most-of-sets p sets most is each set lt =
    subst (λ (l : List TableSet). count_in l set ≤ most) is (each set (omega (arith, lt, ap length is, length-map sets set_of)))

pub contexts-fit : (tables sound : List (List ℤ)) (count n : ℕ) → tables ≡ sound → count ≡ n → AreContexts sound n → ContextsFit tables count
contexts-fit tables sound count n same is all =
    subst (λ (t : List (List ℤ)). ContextsFit t count) (sym same)
    (subst (λ (k : ℕ). ContextsFit sound k) (sym is)
    (λ near. all ((256 + near.l - near.tl) % 256) ((256 + near.tl - near.t) % 256) ((256 + near.t - near.tr) % 256) ((256 + near.ll - near.l) % 256) ((256 + near.tt - near.t) % 256)))

-- ---- room
pub is_ready : (p : Parameters) (shape : Layout) (room : Room) (set : ℕ) (q : Quantization) → HasRoom p shape room → set < length p.sets → q.context_count ≡ context_count_of p set
    → ContextsFit q.tables.now q.context_count → slices.IsReady q room
is_ready p shape room set q has lt count fits = record { few = omega (arith, count, has.contexts set lt); fits = fits }

pub has_room : (p : Parameters) (shape : Layout) (contexts width : ℕ) (room : Room) → room ≡ room_of contexts width → width ≡ shape.width
    → ((set : ℕ) → set < length p.sets → context_count_of p set ≤ contexts) → HasRoom p shape room
has_room p shape contexts width room is wide most =
    subst (HasRoom p shape) (sym is) (record { width = omega (arith, wide); contexts = most })

-- ---- a slice by its header
pub in_grid : (p : Parameters) (shape : Layout) (i : ℕ) (slice : Slice) (reading : Reading) (h : Header) → Suits p shape → HeaderGives p i slice reading (Ok h) → IsInGrid (grid_of p) shape h
in_grid p shape i slice reading h suits (numbers, len, reads, is) = record {
  some_columns = omega (arith, is.columns);
  some_rows = omega (arith, is.rows);
  right = is.right;
  bottom = is.bottom;
  wide = suits.columns;
  high = suits.rows;
}

pub has_sets : (p : Parameters) (i : ℕ) (slice : Slice) (reading : Reading) (h : Header) → HeaderGives p i slice reading (Ok h) → (h.luma_set < length p.sets) × (h.chroma_set < length p.sets)
has_sets p i slice reading h (numbers, len, reads, is) = (is.has_luma, is.has_chroma)

slice_built : List (List ℤ) → ℕ → List (List ℤ) → ℕ → Areas → slices.Slice
slice_built tables count others many areas =
    record { luma = slices.part tables count (areas.luma ∷ []); chroma = slices.part others many (chroma_areas areas.chroma) }

pub slice-is : (p : Parameters) (h : Header) (luma chroma : Quantization) (areas wanted : Areas) → luma.tables.now ≡ tables_of p h.luma_set → luma.context_count ≡ context_count_of p h.luma_set
    → chroma.tables.now ≡ tables_of p h.chroma_set → chroma.context_count ≡ context_count_of p h.chroma_set → areas ≡ wanted → slices.slice_of luma chroma areas ≡ slice_by p h wanted
unfolding slice_built
slice-is p h luma chroma areas wanted tables count others many is =
    ap (λ (t : List (List ℤ)). slice_built t luma.context_count chroma.tables.now chroma.context_count areas) tables
    ∙ ap (λ (n : ℕ). slice_built (tables_of p h.luma_set) n chroma.tables.now chroma.context_count areas) count
    ∙ ap (λ (t : List (List ℤ)). slice_built (tables_of p h.luma_set) (context_count_of p h.luma_set) t chroma.context_count areas) others
    ∙ ap (λ (n : ℕ). slice_built (tables_of p h.luma_set) (context_count_of p h.luma_set) (tables_of p h.chroma_set) n areas) many
    ∙ ap (λ (a : Areas). slice_built (tables_of p h.luma_set) (context_count_of p h.luma_set) (tables_of p h.chroma_set) (context_count_of p h.chroma_set) a) is

pub range-samples : (coder : ℕ) (s : slices.Slice) (content : List ℕ) (at : slices.Standing) (image : Image) (result : Result (⊤) SliceFault)
    → (coder ≡ 0 → ⊥) → slices.Gives s (length content) at image result → SamplesGive coder s content at image result
range-samples zero s content at image result some gives = absurd (some refl)
range-samples (suc coder) s content at image result some gives = gives

pub rice-samples : (coder : ℕ) (s : slices.Slice) (content : List ℕ) (at : slices.Standing) (image : Image) (result : Result (⊤) SliceFault)
    → coder ≡ 0 → rice.Gives s (rice.sample_bytes content at.reading) at.image image result → SamplesGive coder s content at image result
rice-samples zero s content at image result none gives = gives
rice-samples (suc coder) s content at image result none gives = absurd (omega arith)

pub slice-gives : (p : Parameters) (shape : Layout) (i : ℕ) (slice : Slice) (h : Header) (reading : Reading) (content : List ℕ) (before image : Image) (result : Result (⊤) SliceFault)
    → HeaderGives p i slice reading (Ok h) → content ≡ slice.content
    → SamplesGive p.coder_type (slice_by p h (areas_of (grid_of p) shape h)) content (slices.standing reading before) image result
    → SliceGives p shape i slice before image result
slice-gives p shape i slice h reading content before image result header is gives =
    (h, reading, header, subst (λ (l : List ℕ). SamplesGive p.coder_type (slice_by p h (areas_of (grid_of p) shape h)) l (slices.standing reading before) image result) is gives)

-- ---- slices in turn
pub filled-shape : (shape : Layout) (image : Image) → image ≡ filled shape 0 0 → image.shape ≡ shape
unfolding filled
filled-shape shape image is = ap (λ (x : Image). x.shape) is

pub decodes-next : (p : Parameters) (shape : Layout) (all : List Slice) (i : ℕ) (before image : Image) → DecodesTo p shape all i before
    → SliceGives p shape i (slice_index_or all i no_slice) before image (Ok tt) → DecodesTo p shape all (i + 1) image
decodes-next p shape all i before image old gives = subst (λ (n : ℕ). DecodesTo p shape all n image) (sym (add-one i)) (before, old, gives)

pub first-headers : (p : Parameters) (all : List Slice) (found : List Header) (i : ℕ) → AreHeaders p all found → i ≤ length found → AreHeaders p all (take i found)
first-headers p all found i old le = record {
  few = omega (arith, length-take-le i found le, old.few);
  each = λ k lt. each_of p all found i old le k lt;
}
  where
    each_of : (p : Parameters) (all : List Slice) (found : List Header) (i : ℕ) → AreHeaders p all found → i ≤ length found → (k : ℕ) → k < length (take i found)
        → (reading : Reading) × HeaderGives p k (slice_index_or all k no_slice) reading (Ok (slice_index_or (take i found) k no_header))
    each_of p all found i old le k lt =
        let here : k < i = omega (arith, lt, length-take-le i found le) in
        let before = old.each k (omega (arith, here, le)) in
        (before.0, subst (λ (h : Header). HeaderGives p k (slice_index_or all k no_slice) before.0 (Ok h)) (sym (get_or-take i found k no_header here)) before.1)

-- the fault of a slice's header, where the slices before it have headers since all have
pub bad_front : (p : Parameters) (shape : Layout) (packet : List ℕ) (all : List Slice) (i : ℕ) (fault : DecodeFault) → IsWhole p packet all → i < length all
    → ((shape : Layout) (headers : List Header) → IsKeyFrame p packet all → AreHeaders p all headers → i ≡ length headers → Gives p shape packet (Err fault))
    → Gives p shape packet (Err fault)
bad_front p shape packet all i fault whole lt gives =
    let le : i ≤ length whole.found = omega (arith, lt, whole.headers.all) in
    gives shape (take i whole.found) whole.headers.frame (first-headers p all whole.found i whole.headers.headers le) (sym (length-take-le i whole.found le))

pub bad_slice : (p : Parameters) (shape : Layout) (packet : List ℕ) (all : List Slice) (before image : Image) (i : ℕ) (fault : SliceFault)
    → IsWhole p packet all → i < length all → DecodesTo p shape all i before → SliceGives p shape i (slice_index_or all i no_slice) before image (Err fault)
    → Gives p shape packet (Err (Frame (slice_fault_of fault i)))
bad_slice p shape packet all before image i slice_faults.Symbol whole lt decodes gives =
    record { slices = all; before = before; image = image; whole = whole; within = lt; decodes = decodes; fault_is = gives }
bad_slice p shape packet all before image i slice_faults.Overrun whole lt decodes gives =
    record { slices = all; before = before; image = image; whole = whole; within = lt; decodes = decodes; fault_is = gives }
