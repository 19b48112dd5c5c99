use Rattle.std.proofs.Common.{length, sym, subst}
use Rattle.pic_planes.specs.Shape.{Layout}
use Rattle.ffv1_slice.specs.Cells.{areas_of}
use Rattle.ffv1_slice.specs.Slice as slices
use Rattle.ffv1_frame.specs.Frame.{grid_of, slice_by}
use Rattle.ffv1_frame.proofs.SliceSteps.{range-samples}
use Rattle.ffv1_frame.proofs.samples.decode_range_samples.Goals as goal

pub decode_slice-requires-clause-luma : goal.decode_slice-requires-clause-luma
decode_slice-requires-clause-luma c = c.parts.ensures.luma c.args.scratch.now c.requires.room

pub decode_slice-requires-clause-chroma : goal.decode_slice-requires-clause-chroma
decode_slice-requires-clause-chroma c = c.parts.ensures.chroma c.args.scratch.now c.requires.room

pub decode_slice-requires-clause-areas : goal.decode_slice-requires-clause-areas
decode_slice-requires-clause-areas c =
    subst (λ (s : Layout). slices.CanHold s c.args.scratch.now c.parts.result.2) (sym c.requires.shape) (c.parts.ensures.areas c.args.scratch.now c.requires.room)

pub returns-clause-gives : goal.returns-clause-gives
returns-clause-gives c =
    let s : slices.Slice = slice_by c.args.record.now c.args.header (areas_of (grid_of c.args.record.now) c.args.shape c.args.header) in
    range-samples c.args.record.now.coder_type s c.args.content.now (slices.standing c.args.reader c.args.picture.now) c.decode_slice.new.picture c.decode_slice.result c.requires.range_coded
    (subst (λ (v : slices.Slice). slices.Gives v (length c.args.content.now) (slices.standing c.args.reader c.args.picture.now) c.decode_slice.new.picture c.decode_slice.result) c.parts.ensures.slice c.decode_slice.ensures.gives)
