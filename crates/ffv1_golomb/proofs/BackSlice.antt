-- Areas, parts and slices that were written are read back.
use Rattle.std.proofs.Common.{◌≡◌, ℕ, zero, suc, ◌+◌, ◌*◌, ◌<◌, ◌≤◌, ◌^◌, List, [], ◌∷◌, ◌++◌, length, take, drop, replicate, refl, sym, ap, ◌∙◌, subst, arith, length-append, ℤ}
use Rattle.std.specs.Prelude.{slice_index, slice_index_or, Ok}
use Rattle.std.specs.List.{AllByRecursion}
use Rattle.std.proofs.lemmas.List.{length-take-le, length-drop, get_or-drop}
use Rattle.std.proofs.lemmas.List.Elements.{recursion_from_All}
use Rattle.pic_planes.specs.Shape.{plane_count, plane_width, plane_height}
use Rattle.pic_planes.specs.Picture.{Image, IsPicture, IsRow, row_of}
use Rattle.ffv1_rice.specs.Bits.{opened, bits_of_bytes}
use Rattle.ffv1_rice.specs.State.{State, fresh}
use Rattle.ffv1_rice.specs.Runs.{Coding, source, coding, first_run}
use Rattle.ffv1_rice.specs.Lines.{Written}
use Rattle.ffv1_rice.proofs.BitLemmas.{length-bits_of_bytes}
use Rattle.ffv1_predict.specs.Border.{rows_below, rows_of_plane}
use Rattle.ffv1_slice.specs.declared.area.Area.{Area}
use Rattle.ffv1_slice.specs.Area.{IsWithin, with_rows, below}
use Rattle.ffv1_slice.specs.Slice.{Part, Slice}
use Rattle.ffv1_slice.specs.Writing.{first_samples, samples_from, samples}
use Rattle.ffv1_golomb.specs.Turn.{InTurn}
use Rattle.ffv1_golomb.specs.Reading.{ReadsRow}
use Rattle.ffv1_golomb.specs.Slice.{Decoding, decoding, Standing, standing, ReadsArea, ReadsPart, Gives, parts}
use Rattle.ffv1_golomb.specs.Writing.{Encoding, encoding, between_lines, WritesRow, WritesArea, WritesPart, WritesSlice}
use Rattle.ffv1_golomb.specs.Law.{copied, ReadsSlices}
use Rattle.ffv1_golomb.proofs.Back.{IsBack, turn_back, turn_map, AreSamples, IsAtLine, row_back}

-- ---- the samples of an area
small-take : (n : ℕ) (l : List ℕ) → ((k : ℕ) → slice_index l k < 256) → (k : ℕ) → slice_index (take n l) k < 256
small-take zero l small k = omega arith
small-take (suc n) [] small k = omega arith
small-take (suc n) (x ∷ l) small zero = small 0
small-take (suc n) (x ∷ l) small (suc k) = small-take n l (λ j. small (suc j)) k

small-zeros : (n k : ℕ) → slice_index (replicate n 0) k < 256
small-zeros zero k = omega arith
small-zeros (suc n) zero = omega arith
small-zeros (suc n) (suc k) = small-zeros n k

first-row : (image : Image) (area : Area) → IsPicture image → area.plane < plane_count image.shape → area.y < plane_height image.shape area.plane
    → area.x + area.width ≤ plane_width image.shape area.plane → IsRow area.width (first_samples image area)
first-row image area sound plane y x =
    let row : IsRow (plane_width image.shape area.plane) (row_of image area.plane area.y) = (sound.planes area.plane plane).rows area.y y in
    let rest : List ℕ = drop area.x (row_of image area.plane area.y) in
    let wide : area.width ≤ length rest = omega (arith, length-drop area.x (row_of image area.plane area.y), row.len) in
    record {
      len = length-take-le area.width rest wide;
      samples = small-take area.width rest (λ k. subst (λ v. v < 256) (sym (get_or-drop area.x (row_of image area.plane area.y) k 0)) (row.samples (area.x + k)));
    }

abbrev HasRows : Image → Area → ℕ → Type 0
HasRows image area n = (area.plane < plane_count image.shape) × (area.y + n ≤ plane_height image.shape area.plane) × (area.x + area.width ≤ plane_width image.shape area.plane)

samples-count : (image : Image) (area : Area) (n : ℕ) → length (samples_from image area n) ≡ n
samples-count image area zero = refl
samples-count image area (suc n) = ap suc (samples-count image (below area) n)

samples-rows : (image : Image) (area : Area) (n : ℕ) → IsPicture image → HasRows image area n → (y : ℕ) → y < n → IsRow area.width (slice_index_or (samples_from image area n) y [])
samples-rows image area zero sound has y lt = absurd (omega arith)
samples-rows image area (suc n) sound has zero lt = first-row image area sound has.0 (omega (arith, has.1)) has.2
samples-rows image area (suc n) sound has (suc y) lt = samples-rows image (below area) n sound (has.0, omega (arith, has.1), has.2) y (omega arith)

rows-sound : (image : Image) (area : Area) (n : ℕ) (above2 above : List ℕ) → IsPicture image → HasRows image area n
    → ((k : ℕ) → slice_index above2 k < 256) → ((k : ℕ) → slice_index above k < 256) → AllByRecursion AreSamples (rows_below above2 above (samples_from image area n))
rows-sound image area zero above2 above sound has a b = tt
rows-sound image area (suc n) above2 above sound has a b =
    let row = first-row image area sound has.0 (omega (arith, has.1)) has.2 in
    (record { above2 = a; above = b; row = row.samples }, rows-sound image (below area) n above (first_samples image area) sound (has.0, omega (arith, has.1), has.2) b row.samples)

-- ---- an area
pub record IsAtArea (e : Encoding) (rest : List ℕ) (d : Decoding) : Type 0 where
  pub states : d.states ≡ e.states
  pub bits : d.reading.bits ≡ rest
  pub few : d.reading.taken ≤ 2 ^ 63
  pub taken : d.reading.taken ≤ length e.bits

-- An area is read as the samples of an image.
abbrev pub ReadsTo : List (List ℤ) → Image → Area → Decoding → Decoding → Type 0
ReadsTo tables image area old new = ReadsArea tables area old new × (new.image ≡ with_rows old.image area (samples image area))

abbrev pub IsInside : Image → Area → Type 0
IsInside image area = IsPicture image × IsWithin image.shape area

first_at : (e : Encoding) (rest : List ℕ) (d : Decoding) → IsAtArea e rest d → IsAtLine (between_lines 0 e) rest (coding (source first_run d.reading) d.states)
unfolding first_run
first_at e rest d at = record { index = refl; states = at.states; bits = at.bits; few = at.few; taken = at.taken }

area_back : (tables : List (List ℤ)) (image : Image) (area : Area) (old new : Encoding) → IsInside image area → WritesArea tables image area old new
    → IsBack (λ (e : Encoding). e.bits) IsAtArea (ReadsTo tables image) area old new
area_back tables image area old new inside writes =
    let has : HasRows image area area.height = (inside.1.plane, inside.1.height, inside.1.width) in
    let sound = rows-sound image area area.height (replicate area.width 0) (replicate area.width 0) inside.0 has (small-zeros area.width) (small-zeros area.width) in
    let rows = turn_back (λ (w : Written). w.bits) IsAtLine (WritesRow tables) (ReadsRow tables) AreSamples (λ r w v is here. row_back tables r w v is here)
    (rows_of_plane area.width (samples image area)) (between_lines 0 old) (between_lines writes.index new) sound writes.written in
    record {
      bits = rows.bits;
      written = rows.written;
      back = λ rest s at.
          (let read = rows.back rest (coding (source first_run s.reading) s.states) (first_at old (rows.bits ++ rest) s at) in
          let end : Coding = read.0 in
          let image_then : Image = with_rows s.image area (samples image area) in (
            decoding end.states end.reading image_then,
            (
              record {
                plane = samples image area;
                sizes = record { len = samples-count image area area.height; rows = samples-rows image area area.height inside.0 has };
                run = end.run;
                read = read.1;
                put = refl;
              },
              refl,
            ),
            record { states = read.2.states; bits = read.2.bits; few = read.2.few; taken = read.2.taken },
          ));
    }

copied_is : (tables : List (List ℤ)) (image : Image) (areas : List Area) (s end : Decoding) → InTurn (ReadsTo tables image) areas s end → end.image ≡ copied image areas s.image
copied_is tables image [] s end done = sym (ap (λ (d : Decoding). d.image) done)
copied_is tables image (area ∷ more) s end (mid, here, later) = copied_is tables image more mid end later ∙ ap (copied image more) here.1

-- ---- a part
pub record IsAtPart (written rest : List ℕ) (s : Standing) : Type 0 where
  pub bits : s.reading.bits ≡ rest
  pub few : s.reading.taken ≤ 2 ^ 63
  pub taken : s.reading.taken ≤ length written

abbrev pub ReadsPartTo : Image → Part → Standing → Standing → Type 0
ReadsPartTo image p old new = ReadsPart p old new × (new.image ≡ copied image p.areas old.image)

part_back : (image : Image) (p : Part) (old new : List ℕ) → AllByRecursion (IsInside image) p.areas → WritesPart image p old new
    → IsBack (λ (b : List ℕ). b) IsAtPart (ReadsPartTo image) p old new
part_back image p old new inside writes =
    let start : List State = replicate p.context_count fresh in
    let areas = turn_back (λ (e : Encoding). e.bits) IsAtArea (WritesArea p.tables image) (ReadsTo p.tables image) (IsInside image) (λ area e f is here. area_back p.tables image area e f is here)
    p.areas (encoding start old) (encoding writes.0 new) inside writes.1 in
    record {
      bits = areas.bits;
      written = areas.written;
      back = λ rest s at.
          (let read = areas.back rest (decoding start s.reading s.image) (record { states = refl; bits = at.bits; few = at.few; taken = at.taken }) in
          let end : Decoding = read.0 in (
            standing end.reading end.image,
            (
              (end.states, turn_map (ReadsTo p.tables image) (ReadsArea p.tables) (λ area a b both. both.0) p.areas (decoding start s.reading s.image) end read.1),
              copied_is p.tables image p.areas (decoding start s.reading s.image) end read.1,
            ),
            record { bits = read.2.bits; few = read.2.few; taken = read.2.taken },
          ));
    }

-- ---- a slice
insides : (image : Image) (areas : List Area) → IsPicture image → AllByRecursion (IsWithin image.shape) areas → AllByRecursion (IsInside image) areas
insides image [] sound all = tt
insides image (area ∷ more) sound all = ((sound, all.0), insides image more sound all.1)

read_whole : (s : Slice) (image before : Image) (bits bytes zeros : List ℕ) → WritesSlice s image [] bits → bits_of_bytes bytes ≡ bits ++ zeros
    → IsBack (λ (b : List ℕ). b) IsAtPart (InTurn (ReadsPartTo image)) (parts s) [] bits
    → Gives s bytes before (copied image s.chroma.areas (copied image s.luma.areas before)) (Ok tt)
read_whole s image before bits bytes zeros writes spelled back =
    let same : bits ≡ back.bits = back.written in
    let start : Standing = standing (opened bytes) before in
    let at : IsAtPart [] (back.bits ++ zeros) start = record { bits = spelled ∙ ap (λ b. b ++ zeros) same; few = omega arith; taken = omega arith } in
    let read = back.back zeros start at in
    let end : Standing = read.0 in
    let mid : Standing = read.1.0 in
    let first = read.1.1 in
    let after : Standing = read.1.2.0 in
    let second = read.1.2.1 in
    let last : after ≡ end = read.1.2.2 in
    let long : length bits ≤ 8 * length bytes = omega (arith, length-bits_of_bytes bytes, ap length spelled, length-append bits zeros) in
    let picture : end.image ≡ copied image s.chroma.areas (copied image s.luma.areas before) =
    sym (ap (λ (v : Standing). v.image) last) ∙ second.1 ∙ ap (copied image s.chroma.areas) first.1 in
    (end, turn_map (ReadsPartTo image) ReadsPart (λ p a b both. both.0) (parts s) start end read.1, picture, omega (arith, read.2.taken, long))

pub reads_slices : ReadsSlices
reads_slices s image before bits bytes inside writes spelled =
    let luma = insides image s.luma.areas inside.sound (recursion_from_All (IsWithin image.shape) s.luma.areas inside.luma) in
    let chroma = insides image s.chroma.areas inside.sound (recursion_from_All (IsWithin image.shape) s.chroma.areas inside.chroma) in
    let back = turn_back (λ (b : List ℕ). b) IsAtPart (WritesPart image) (ReadsPartTo image) (λ (p : Part). AllByRecursion (IsInside image) p.areas) (λ p a b is here. part_back image p a b is here)
    (parts s) [] bits (luma, (chroma, tt)) writes in
    read_whole s image before bits bytes _ writes spelled back
