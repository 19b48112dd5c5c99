-- The packet that a picture is written as decodes to the picture.
use Rattle.std.proofs.Common.{◌≡◌, ◌≢◌, ℕ, zero, suc, ◌*◌, ◌<◌, ◌≤◌, Bool, List, [], length, replicate, get_or, reverse, ◌⊎◌, Ok, refl, sym, ◌∙◌, ap, subst, arith, inl, inr}
use Rattle.std.specs.Prelude.{slice_index_or}
use Rattle.std.proofs.Math.Nat.{mul-le-mul_right}
use Rattle.std.proofs.lemmas.Bool.{cases_lt}
use Rattle.std.proofs.lemmas.List.{length-map, length-replicate, get_or-replicate, get_or_past, get_or-map, ext_get_or}
use Rattle.tl_limits.specs.Limits.{max_slice_bytes, max_packet_bytes}
use Rattle.std.proofs.lemmas.List.Elements.{All-get_or}
use Rattle.pic_planes.specs.declared.shape.Chroma.{Chroma}
use Rattle.pic_planes.specs.declared.shape.Chroma.TheVariants.{Grey, Shifts}
use Rattle.pic_planes.specs.Shape.{Layout, layout, plane_count, plane_width, plane_height}
use Rattle.pic_planes.specs.Picture.{Image, IsPicture, filled, plane_of, row_of}
use Rattle.ffv1_range.specs.Reading.{opened, bit_of}
use Rattle.ffv1_record.specs.Parameters.{Parameters, IsRecord}
use Rattle.ffv1_record.specs.Suits.{Suits}
use Rattle.ffv1_slice.specs.declared.header.Header.{Header}
use Rattle.ffv1_slice.specs.Slice as slices
use Rattle.ffv1_frame.specs.Packet.{Slice, no_slice, EndsWith}
use Rattle.ffv1_frame.specs.Cover.{AreCovered}
use Rattle.ffv1_frame.specs.Frame.{SamplesGive, DecodesTo, HeaderGives, AreHeaders, IsKeyFrame, IsWhole}
use Rattle.ffv1_frame.specs.Written.{cell_header, cell_slice, slice_of, packet_of, AreContents, IsPacket, IsReadBack}
use Rattle.ffv1_frame.proofs.SliceSteps.{filled-shape}
use Rattle.ffv1_frame.proofs.SlicesBack.{after_slice}
use Rattle.ffv1_frame.proofs.ContentsBack.{CellRead, cell_read}
use Rattle.ffv1_frame.proofs.Pasting.{HasSizes, Copies, InSlice, nothing_copied, both_copied, copied_at, slice_copied}
use Rattle.ffv1_frame.proofs.PacketsBack.{AreNumbers, slices_of, chain, parities, some_bytes, few_bytes, headers_of, length-headers, header_at, covered}
use Rattle.ffv1_frame.proofs.Cells.{is_cell, fit_all, reached}

-- ---- the picture of zeros has the sizes of each other picture of its shape
filled_count : (width height : ℕ) (c : Chroma) → length (filled (layout width height c) 0 0).planes ≡ plane_count (layout width height c)
unfolding filled
filled_count width height Grey = refl
filled_count width height (Shifts h v) = refl

filled_plane_is : (width height : ℕ) (c : Chroma) (plane : ℕ) → plane < plane_count (layout width height c)
    → plane_of (filled (layout width height c) 0 0) plane ≡ replicate (plane_height (layout width height c) plane) (replicate (plane_width (layout width height c) plane) 0)
unfolding filled
filled_plane_is width height Grey zero lt = refl
filled_plane_is width height Grey (suc plane) lt = absurd (omega arith)
filled_plane_is width height (Shifts h v) zero lt = refl
filled_plane_is width height (Shifts h v) (suc zero) lt = refl
filled_plane_is width height (Shifts h v) (suc (suc zero)) lt = refl
filled_plane_is width height (Shifts h v) (suc (suc (suc plane))) lt = absurd (omega arith)

zeros_sized : (image : Image) → IsPicture image → HasSizes image (filled image.shape 0 0)
zeros_sized image picture =
    let s : Layout = image.shape in
    let zeros : Image = filled s 0 0 in
    let count : length zeros.planes ≡ plane_count s = filled_count s.width s.height s.chroma in
    let none : (plane : ℕ) → plane_count s ≤ plane → (plane_of zeros plane ≡ []) × (plane_of image plane ≡ []) = λ plane over.
    (get_or_past zeros.planes plane [] (omega (arith, count)), get_or_past image.planes plane [] (omega (arith, picture.count))) in
    let heights : (plane : ℕ) → length (plane_of zeros plane) ≡ length (plane_of image plane) = λ plane.
    elim (cases_lt plane (plane_count s)) [
      | inl has ↦ ap length (filled_plane_is s.width s.height s.chroma plane has) ∙ length-replicate {A = List ℕ} (plane_height s plane) (replicate (plane_width s plane) 0) ∙ sym (picture.planes plane has).len
      | inr over ↦ let both = none plane over in ap length both.0 ∙ sym (ap length both.1)
    ] in
    record {
      count = count ∙ sym picture.count;
      heights = heights;
      widths = λ plane y. elim (cases_lt plane (plane_count s)) [
        | inr over ↦ let both = none plane over in ap (λ (p : List (List ℕ)). length (get_or p y [])) both.0 ∙ sym (ap (λ (p : List (List ℕ)). length (get_or p y [])) both.1)
        | inl has ↦
            let tall : length (plane_of image plane) ≡ plane_height s plane = (picture.planes plane has).len in
            elim (cases_lt y (plane_height s plane)) [
              | inl below ↦
                  ap (λ (p : List (List ℕ)). length (get_or p y [])) (filled_plane_is s.width s.height s.chroma plane has)
                  ∙ ap length (get_or-replicate {A = List ℕ} (plane_height s plane) y (replicate (plane_width s plane) 0) [] below)
                  ∙ length-replicate {A = ℕ} (plane_width s plane) 0 ∙ sym ((picture.planes plane has).rows y below).len
              | inr under ↦
                  ap length (get_or_past (plane_of zeros plane) y [] (omega (arith, heights plane, tall))) ∙ sym (ap length (get_or_past (plane_of image plane) y [] (omega (arith, tall))))
            ]
      ];
    }

-- ---- the picture after the first slices
abbrev pub picture_after : Parameters → Image → ℕ → Image
picture_after p image zero = filled image.shape 0 0
picture_after p image (suc n) = after_slice (cell_slice p image.shape n) image (picture_after p image n)

abbrev InFirst : Parameters → Image → ℕ → ℕ → ℕ → ℕ → Type 0
InFirst p image n plane y x = (cell : ℕ) × (cell < n) × InSlice (cell_slice p image.shape cell) plane y x

first_copied : (p : Parameters) (image : Image) (n : ℕ) → IsRecord p → IsPicture image → Suits p image.shape → n ≤ p.columns * p.rows → Copies image (filled image.shape 0 0) (picture_after p image n) (InFirst p image n)
first_copied p image zero sound picture suits within =
    let zeros : Image = filled image.shape 0 0 in
    copied_at image zeros zeros (λ plane y x. ⊥) (InFirst p image 0) (λ plane y x (cell, lt, here). omega arith) (nothing_copied image zeros (zeros_sized image picture))
first_copied p image (suc n) sound picture suits within =
    let zeros : Image = filled image.shape 0 0 in
    let before : Image = picture_after p image n in
    let slice : slices.Slice = cell_slice p image.shape n in
    let first = first_copied p image n sound picture suits (omega arith) in
    let cell = is_cell p image n sound picture suits (omega arith) in
    let last = slice_copied image before slice first.sizes (fit_all image slice.luma.areas picture cell.luma.within) (fit_all image slice.chroma.areas picture cell.chroma.within) in
    copied_at image zeros (after_slice slice image before) (λ plane y x. InFirst p image n plane y x ⊎ InSlice slice plane y x) (InFirst p image (suc n))
    (λ plane y x (k, lt, here). elim (cases_lt k n) [
      | inl less ↦ inl (k, less, here)
      | inr more ↦ let at : k ≡ n = omega arith in inr (subst (λ (i : ℕ). InSlice (cell_slice p image.shape i) plane y x) at here)
    ])
    (both_copied image zeros before (after_slice slice image before) (InFirst p image n) (InSlice slice) first last)

-- after all slices it is the picture
all_right : (p : Parameters) (image : Image) → IsRecord p → IsPicture image → Suits p image.shape → picture_after p image (p.columns * p.rows) ≡ image
all_right p image sound picture suits =
    let n : ℕ = p.columns * p.rows in
    let after : Image = picture_after p image n in
    let s : Layout = image.shape in
    let copies = first_copied p image n sound picture suits (omega arith) in
    let shape : after.shape ≡ image.shape = copies.shape ∙ filled-shape image.shape (filled image.shape 0 0) refl in
    let row : (plane y : ℕ) → plane < plane_count s → y < plane_height s plane → row_of after plane y ≡ row_of image plane y = λ plane y has below.
    let wide : length (row_of image plane y) ≡ plane_width s plane = ((picture.planes plane has).rows y below).len in
    ext_get_or 0 (row_of after plane y) (row_of image plane y) (copies.sizes.widths plane y)
    (λ x lt. copies.there plane y x (reached p image plane y x sound picture suits has below (omega (arith, lt, copies.sizes.widths plane y, wide)))) in
    let plane : (k : ℕ) → k < plane_count s → plane_of after k ≡ plane_of image k = λ k has.
    ext_get_or [] (plane_of after k) (plane_of image k) (copies.sizes.heights k)
    (λ y lt. row k y has (omega (arith, lt, copies.sizes.heights k, (picture.planes k has).len))) in
    let planes : after.planes ≡ image.planes = ext_get_or [] after.planes image.planes copies.sizes.count
    (λ k lt. plane k (omega (arith, lt, copies.sizes.count, picture.count))) in
    ap (λ (l : Layout). record { shape = l; planes = after.planes }) shape ∙ ap (λ (ps : List (List (List ℕ))). record { shape = image.shape; planes = ps }) planes

-- ---- decoding
-- What is known of a packet that was written.
record Known (p : Parameters) (image : Image) (contents : List (List ℕ)) : Type 0 where
  sound : IsRecord p
  picture : IsPicture image
  suits : Suits p image.shape
  are : AreContents p image contents
  all : length contents ≡ p.columns * p.rows

slice-is : (ec : Bool) (contents : List (List ℕ)) (i : ℕ) → i < length contents → slice_index_or (slices_of ec contents) i no_slice ≡ slice_of ec (get_or contents i [])
slice-is ec contents i lt = get_or-map (slice_of ec) contents i [] no_slice lt

read_at : (p : Parameters) (image : Image) (contents : List (List ℕ)) (i : ℕ) → Known p image contents → i < length contents → CellRead p.coder_type p image i (get_or contents i [])
read_at p image contents i known lt =
    cell_read p image i (get_or contents i []) (is_cell p image i known.sound known.picture known.suits (omega (arith, lt, known.all))) (All-get_or (λ (c : List ℕ). length c ≤ max_slice_bytes) contents i [] lt known.are.short) (known.are.each i lt)

header_gives : (p : Parameters) (image : Image) (contents : List (List ℕ)) (i : ℕ) (known : Known p image contents) (lt : i < length contents)
    → HeaderGives p i (slice_index_or (slices_of p.ec contents) i no_slice) (read_at p image contents i known lt).reading (Ok (cell_header p.columns i))
header_gives p image contents i known lt =
    subst (λ (s : Slice). HeaderGives p i s (read_at p image contents i known lt).reading (Ok (cell_header p.columns i))) (sym (slice-is p.ec contents i lt)) ((read_at p image contents i known lt).header p.ec)

decodes : (p : Parameters) (image : Image) (contents : List (List ℕ)) (n : ℕ) → Known p image contents → n ≤ length contents → DecodesTo p image.shape (slices_of p.ec contents) n (picture_after p image n)
decodes p image contents zero known within = refl
decodes p image contents (suc n) known within =
    let lt : n < length contents = omega arith in
    let before : Image = picture_after p image n in
    let read = read_at p image contents n known lt in
    let slice : slices.Slice = cell_slice p image.shape n in
    let content : get_or contents n [] ≡ (slice_index_or (slices_of p.ec contents) n no_slice).content = ap (λ (s : Slice). s.content) (sym (slice-is p.ec contents n lt)) in
    let given : SamplesGive p.coder_type slice (get_or contents n []) (slices.standing read.reading before) (after_slice slice image before) (Ok tt) = read.samples before in (
      before,
      decodes p image contents n known (omega arith),
      (
        cell_header p.columns n,
        read.reading,
        header_gives p image contents n known lt,
        subst (λ (l : List ℕ). SamplesGive p.coder_type slice l (slices.standing read.reading before) (after_slice slice image before) (Ok tt)) content given,
      ),
    )

headers : (p : Parameters) (image : Image) (contents : List (List ℕ)) → Known p image contents → AreHeaders p (slices_of p.ec contents) (headers_of p.columns (length contents))
headers p image contents known = record {
  few = omega (arith, length-headers p.columns (length contents), length-map contents (slice_of p.ec));
  each = λ i within.
      let lt : i < length contents = omega (arith, within, length-headers p.columns (length contents)) in (
        (read_at p image contents i known lt).reading,
        subst (λ (h : Header). HeaderGives p i (slice_index_or (slices_of p.ec contents) i no_slice) (read_at p image contents i known lt).reading (Ok h)) (sym (header_at p.columns (length contents) i lt)) (header_gives p image contents i known lt),
      );
}

whole : (numbers : AreNumbers) (p : Parameters) (image : Image) (packet : List ℕ) (contents : List (List ℕ)) → Known p image contents → packet ≡ packet_of p.ec contents → IsWhole p packet (slices_of p.ec contents)
whole numbers p image packet contents known is =
    let slices : List Slice = slices_of p.ec contents in
    let lines : 1 * p.rows ≤ p.columns * p.rows = mul-le-mul_right p.rows known.sound.grid.some_columns in
    let some : 0 < length contents = omega (arith, known.all, lines, known.sound.grid.some_rows) in
    let first = read_at p image contents 0 known some in
    let key_frame : IsKeyFrame p packet slices = record {
      sliced = record {
        some = λ none. some_bytes p.ec contents some (sym is ∙ none);
        chain = subst (λ (b : List ℕ). EndsWith p.ec b (reverse slices)) (sym is) (chain numbers p.ec contents known.are.short);
        parities = parities p.ec contents;
      };
      key = ap (λ (s : Slice). bit_of (opened p.transition s.content) 128) (slice-is p.ec contents 0 some) ∙ first.key refl;
    } in
    record {
      found = headers_of p.columns (length contents);
      headers = record {
        frame = key_frame;
        headers = headers p image contents known;
        all = length-headers p.columns (length contents) ∙ sym (length-map contents (slice_of p.ec));
      };
      cover = subst (λ (n : ℕ). AreCovered p.columns (headers_of p.columns (length contents)) n) known.all (covered p.columns (length contents));
    }

pub read_back : (numbers : AreNumbers) → IsReadBack
read_back numbers p image packet sound picture suits written =
    let contents : List (List ℕ) = written.contents in
    let slices : List Slice = slices_of p.ec contents in
    let known : Known p image contents = record { sound = sound; picture = picture; suits = suits; are = written.are; all = written.all } in
    let last : DecodesTo p image.shape slices (length contents) (picture_after p image (length contents)) = decodes p image contents (length contents) known (omega arith) in
    let all : DecodesTo p image.shape slices (length slices) (picture_after p image (length contents)) = subst (λ (n : ℕ). DecodesTo p image.shape slices n (picture_after p image (length contents))) (sym (length-map contents (slice_of p.ec))) last in
    let is : picture_after p image (length contents) ≡ image = ap (picture_after p image) written.all ∙ all_right p image sound picture suits in
    (slices, whole numbers p image packet contents known written.bytes, subst (λ (i : Image). DecodesTo p image.shape slices (length slices) i) is all)

-- ---- its length
pub packet_few : (p : Parameters) (image : Image) (packet : List ℕ) → IsRecord p → IsPacket p image packet → length packet ≤ max_packet_bytes
packet_few p image packet sound is = omega (arith, ap length is.bytes, few_bytes p.ec is.contents is.are.short, is.all, sound.grid.few)
