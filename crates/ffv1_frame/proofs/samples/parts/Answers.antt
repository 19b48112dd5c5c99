use Rattle.std.proofs.Common.{◌∙◌, ap}
use Rattle.ffv1_slice.specs.declared.header.Grid.{Grid}
use Rattle.ffv1_slice.specs.Cells.{areas_of}
use Rattle.ffv1_frame.specs.Frame.{grid_of}
use Rattle.ffv1_frame.proofs.SliceSteps.{slice-is, is_ready}
use Rattle.ffv1_frame.proofs.samples.parts.Goals as goal

pub returns-clause-slice : goal.returns-clause-slice
returns-clause-slice c =
    slice-is c.args.record.now c.args.header c.quantization-luma.result c.quantization-chroma.result c.areas-areas.result (areas_of (grid_of c.args.record.now) c.args.shape c.args.header)
    c.quantization-luma.ensures.tables c.quantization-luma.ensures.count c.quantization-chroma.ensures.tables c.quantization-chroma.ensures.count
    (c.areas-areas.ensures.areas ∙ ap (λ (g : Grid). areas_of g c.args.shape c.args.header) c.grid_of.ensures)

pub returns-clause-luma : goal.returns-clause-luma
returns-clause-luma c = λ room has.
    is_ready c.args.record.now c.args.shape room c.args.header.luma_set c.quantization-luma.result has c.requires.luma c.quantization-luma.ensures.count c.quantization-luma.ensures.fits

pub returns-clause-chroma : goal.returns-clause-chroma
returns-clause-chroma c = λ room has.
    is_ready c.args.record.now c.args.shape room c.args.header.chroma_set c.quantization-chroma.result has c.requires.chroma c.quantization-chroma.ensures.count c.quantization-chroma.ensures.fits

pub returns-clause-areas : goal.returns-clause-areas
returns-clause-areas c = λ room has. c.areas-areas.ensures.within room has.width
