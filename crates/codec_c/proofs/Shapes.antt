-- A packet decodes to a picture of the shape that it is decoded for.
use Rattle.std.proofs.Common.{◌≡◌, ℕ, zero, suc, List, [], ◌∷◌, Ok, refl, sym, ◌∙◌, ap}
use Rattle.std.specs.Prelude.{ℤ}
use Rattle.pic_planes.specs.Shape.{Layout}
use Rattle.pic_planes.specs.Picture.{Image, filled}
use Rattle.ffv1_record.specs.Parameters.{Parameters}
use Rattle.ffv1_slice.specs.declared.area.Area.{Area}
use Rattle.ffv1_slice.specs.Area.{below, with_first, with_rows}
use Rattle.ffv1_slice.specs.Slice as slices
use Rattle.ffv1_golomb.specs.Turn.{InTurn}
use Rattle.ffv1_golomb.specs.Slice as rice
use Rattle.ffv1_frame.specs.Packet.{Slice}
use Rattle.ffv1_frame.specs.Frame.{SamplesGive, DecodesTo, Gives}

abbrev shape_of : Image → Layout
shape_of image = image.shape

rows_put : (image : Image) (area : Area) (rows : List (List ℕ)) → (with_rows image area rows).shape ≡ image.shape
rows_put image area [] = refl
rows_put image area (row ∷ rows) = rows_put (with_first image area row) (below area) rows

-- ---- the range coder
range_areas : (tables : List (List ℤ)) (areas : List Area) (old new : slices.Decoding) → slices.ReadsAreas tables areas old new → new.image.shape ≡ old.image.shape
range_areas tables [] old new same = ap (λ (d : slices.Decoding). d.image.shape) (sym same)
range_areas tables (area ∷ more) old new (mid, read, rest) =
    range_areas tables more mid new rest ∙ ap shape_of read.put ∙ rows_put old.image area read.plane

range_part : (part : slices.Part) (old new : slices.Standing) → slices.ReadsPart part old new → new.image.shape ≡ old.image.shape
range_part part old new (contexts, read) =
    range_areas part.tables part.areas (slices.begun part old) (slices.decoding (record { reading = new.reading; contexts = contexts }) new.image) read

-- ---- Golomb-Rice mode
rice_areas : (tables : List (List ℤ)) (areas : List Area) (old new : rice.Decoding) → InTurn (rice.ReadsArea tables) areas old new → new.image.shape ≡ old.image.shape
rice_areas tables [] old new same = ap (λ (d : rice.Decoding). d.image.shape) (sym same)
rice_areas tables (area ∷ more) old new (mid, read, rest) =
    rice_areas tables more mid new rest ∙ ap shape_of read.put ∙ rows_put old.image area read.plane

rice_part : (part : slices.Part) (old new : rice.Standing) → rice.ReadsPart part old new → new.image.shape ≡ old.image.shape
rice_part part old new (states, read) = rice_areas part.tables part.areas (rice.begun part old) (rice.decoding states new.reading new.image) read

rice_parts : (parts : List slices.Part) (old new : rice.Standing) → InTurn rice.ReadsPart parts old new → new.image.shape ≡ old.image.shape
rice_parts [] old new same = ap (λ (s : rice.Standing). s.image.shape) (sym same)
rice_parts (part ∷ more) old new (mid, read, rest) = rice_parts more mid new rest ∙ rice_part part old mid read

-- ---- slices
samples_put : (coder : ℕ) (s : slices.Slice) (content : List ℕ) (at : slices.Standing) (image : Image) → SamplesGive coder s content at image (Ok tt) → image.shape ≡ at.image.shape
samples_put zero s content at image (new, read, is, few) =
    ap shape_of (sym is) ∙ rice_parts (rice.parts s) (rice.standing _ at.image) new read
samples_put (suc coder) s content at image (new, (mid, luma, chroma), is, few) =
    ap shape_of (sym is) ∙ range_part s.chroma mid new chroma ∙ range_part s.luma at mid luma

decoded_shape : (p : Parameters) (shape : Layout) (packet : List Slice) (n : ℕ) (image : Image) → DecodesTo p shape packet n image → image.shape ≡ shape
unfolding filled
decoded_shape p shape packet zero image is = ap shape_of is
decoded_shape p shape packet (suc n) image (before, earlier, (h, reading, header, samples)) =
    samples_put p.coder_type _ _ (slices.standing reading before) image samples ∙ decoded_shape p shape packet n before earlier

pub given_shape : (p : Parameters) (shape : Layout) (packet : List ℕ) (image : Image) → Gives p shape packet (Ok image) → image.shape ≡ shape
given_shape p shape packet image (found, whole, decodes) = decoded_shape p shape found _ image decodes
