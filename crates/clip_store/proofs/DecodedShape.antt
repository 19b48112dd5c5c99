-- A packet decodes to a picture of the shape that was asked for.
use Rattle.std.proofs.Common.{◌≡◌, ℕ, zero, suc, List, [], ◌∷◌, length, refl, sym, ◌∙◌, ap, Ok}
use Rattle.std.specs.Prelude.{ℤ}
use Rattle.pic_planes.specs.Shape.{Layout}
use Rattle.pic_planes.specs.Picture.{Image}
use Rattle.ffv1_rice.specs.Bits.{opened}
use Rattle.ffv1_record.specs.Parameters.{Parameters}
use Rattle.ffv1_slice.specs.declared.area.Area.{Area}
use Rattle.ffv1_slice.specs.Area.{below, with_first, with_rows}
use Rattle.ffv1_slice.specs.Reading.{coding}
use Rattle.ffv1_slice.specs.Slice as slices
use Rattle.ffv1_golomb.specs.Turn.{InTurn}
use Rattle.ffv1_golomb.specs.Slice as rice
use Rattle.ffv1_frame.specs.Packet.{Slice}
use Rattle.ffv1_frame.specs.Frame.{Gives, SamplesGive, DecodesTo}
use Rattle.ffv1_frame.proofs.SliceSteps.{filled-shape}

rows-shape : (image : Image) (area : Area) (rows : List (List ℕ)) → (with_rows image area rows).shape ≡ image.shape
rows-shape image area [] = refl
rows-shape image area (row ∷ rows) = rows-shape (with_first image area row) (below area) rows

-- ---- by the range coder
areas-shape : (tables : List (List ℤ)) (areas : List Area) (old new : slices.Decoding) → slices.ReadsAreas tables areas old new → new.image.shape ≡ old.image.shape
areas-shape tables [] old new same = sym (ap (λ (d : slices.Decoding). d.image.shape) same)
areas-shape tables (area ∷ more) old new (mid, read, rest) =
    areas-shape tables more mid new rest ∙ ap (λ (i : Image). i.shape) read.put ∙ rows-shape old.image area read.plane

part-shape : (p : slices.Part) (old new : slices.Standing) → slices.ReadsPart p old new → new.image.shape ≡ old.image.shape
part-shape p old new (contexts, reads) =
    areas-shape p.tables p.areas (slices.begun p old) (slices.decoding (coding new.reading contexts) new.image) reads

slice-shape : (s : slices.Slice) (old new : slices.Standing) → slices.ReadsSlice s old new → new.image.shape ≡ old.image.shape
slice-shape s old new (mid, luma, chroma) = part-shape s.chroma mid new chroma ∙ part-shape s.luma old mid luma

-- ---- in Golomb-Rice mode
rice_areas-shape : (tables : List (List ℤ)) (areas : List Area) (old new : rice.Decoding) → InTurn (rice.ReadsArea tables) areas old new → new.image.shape ≡ old.image.shape
rice_areas-shape tables [] old new same = sym (ap (λ (d : rice.Decoding). d.image.shape) same)
rice_areas-shape tables (area ∷ more) old new (mid, read, rest) =
    rice_areas-shape tables more mid new rest ∙ ap (λ (i : Image). i.shape) read.put ∙ rows-shape old.image area read.plane

rice_parts-shape : (parts : List slices.Part) (old new : rice.Standing) → InTurn rice.ReadsPart parts old new → new.image.shape ≡ old.image.shape
rice_parts-shape [] old new same = sym (ap (λ (s : rice.Standing). s.image.shape) same)
rice_parts-shape (p ∷ more) old new (mid, (states, reads), rest) =
    rice_parts-shape more mid new rest ∙ rice_areas-shape p.tables p.areas (rice.begun p old) (rice.decoding states mid.reading mid.image) reads

-- ---- slices in turn
samples-shape : (coder_type : ℕ) (s : slices.Slice) (content : List ℕ) (at : slices.Standing) (image : Image) → SamplesGive coder_type s content at image (Ok tt) → image.shape ≡ at.image.shape
samples-shape zero s content at image (new, reads, is, few) =
    sym (ap (λ (i : Image). i.shape) is) ∙ rice_parts-shape (rice.parts s) (rice.standing (opened (rice.sample_bytes content at.reading)) at.image) new reads
samples-shape (suc coder) s content at image (new, reads, is, few) = sym (ap (λ (i : Image). i.shape) is) ∙ slice-shape s at new reads

first-shape : (p : Parameters) (shape : Layout) (all : List Slice) (n : ℕ) (image : Image) → DecodesTo p shape all n image → image.shape ≡ shape
first-shape p shape all zero image is = filled-shape shape image is
first-shape p shape all (suc n) image (before, decodes, (h, reading, header, samples)) =
    samples-shape p.coder_type _ _ _ image samples ∙ first-shape p shape all n before decodes

pub decoded-shape : (p : Parameters) (shape : Layout) (packet : List ℕ) (image : Image) → Gives p shape packet (Ok image) → image.shape ≡ shape
decoded-shape p shape packet image (all, whole, decodes) = first-shape p shape all (length all) image decodes
