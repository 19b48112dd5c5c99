use Rattle.std.proofs.Common.{sym, subst}
use Rattle.pic_planes.specs.Shape.{Layout}
use Rattle.ffv1_slice.specs.Cells.{areas_of}
use Rattle.ffv1_slice.specs.Slice as slices
use Rattle.ffv1_golomb.specs.Slice as rice
use Rattle.ffv1_frame.specs.Frame.{grid_of, slice_by}
use Rattle.ffv1_frame.proofs.SliceSteps.{rice-samples}
use Rattle.ffv1_frame.proofs.samples.decode_rice_samples.Goals as goal

pub decode_rice_slice-requires-clause-luma : goal.decode_rice_slice-requires-clause-luma
decode_rice_slice-requires-clause-luma c = c.parts.ensures.luma c.args.scratch.now c.requires.room

pub decode_rice_slice-requires-clause-chroma : goal.decode_rice_slice-requires-clause-chroma
decode_rice_slice-requires-clause-chroma c = c.parts.ensures.chroma c.args.scratch.now c.requires.room

pub decode_rice_slice-requires-clause-areas : goal.decode_rice_slice-requires-clause-areas
decode_rice_slice-requires-clause-areas c =
    subst (λ (s : Layout). slices.CanHold s c.args.scratch.now c.parts.result.2) (sym c.requires.shape) (c.parts.ensures.areas c.args.scratch.now c.requires.room)

pub returns-clause-gives : goal.returns-clause-gives
returns-clause-gives c =
    let s : slices.Slice = slice_by c.args.record.now c.args.header (areas_of (grid_of c.args.record.now) c.args.shape c.args.header) in
    rice-samples c.args.record.now.coder_type s c.args.content.now (slices.standing c.args.reader c.args.picture.now) c.decode_rice_slice.new.picture c.decode_rice_slice.result c.requires.rice_coded
    (subst (λ (v : slices.Slice). rice.Gives v (rice.sample_bytes c.args.content.now c.args.reader) c.args.picture.now c.decode_rice_slice.new.picture c.decode_rice_slice.result) c.parts.ensures.slice c.decode_rice_slice.ensures.gives)
