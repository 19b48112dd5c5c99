use Rattle.std.proofs.Common.{◌≡◌, ◌≤◌, ℕ, List, eqb, sym, subst, ap, ◌∙◌, arith, rules}
use Rattle.std.specs.Prelude.{slice_index, ◌<◌}
use Rattle.pic_planes.specs.Shape.{Layout}
use Rattle.ffv1_range.specs.Writing.{Writing}
use Rattle.ffv1_slice.specs.declared.header.Grid.{Grid}
use Rattle.ffv1_slice.specs.declared.header.Header.{Header}
use Rattle.ffv1_slice.specs.Header.{with_header}
use Rattle.ffv1_slice.specs.Cells.{areas_of}
use Rattle.ffv1_slice.specs.Slice.{CanHold}
use Rattle.ffv1_slice.specs.Slice as slices
use Rattle.ffv1_frame.specs.Frame.{grid_of}
use Rattle.ffv1_frame.specs.Written.{cell_header, cell_slice, content_start, header_written}
use Rattle.ffv1_frame.proofs.SliceSteps.{slice-is}
use Rattle.ffv1_frame.proofs.Packets.{rice_is}
use Rattle.ffv1_frame.proofs.encode_rice.rice_content.Goals as goal

pub encode_rice_slice-requires-clause-areas : goal.encode_rice_slice-requires-clause-areas
encode_rice_slice-requires-clause-areas c =
    let wide : c.shape.result.width ≤ c.args.scratch.now.width = omega (arith, c.requires.width, ap (λ (s : Layout). s.width) c.shape.ensures.shape) in
    subst (λ (s : Layout). CanHold s c.args.scratch.now c.areas-areas.result) c.shape.ensures.shape (c.areas-areas.ensures.within c.args.scratch.now wide)

pub returns-clause-content : goal.returns-clause-content
returns-clause-content c =
    let p = c.args.record.now in
    let image = c.args.picture.now in
    let cell : ℕ = c.args.cell in
    let h : Header = cell_header p.columns cell in
    let found : Header = c.cell_header-header.result in
    let all = c.quantization-all.result in
    let areas = c.areas-areas.ensures.areas ∙ ap (λ (g : Grid). areas_of g c.shape.result found) c.grid_of.ensures ∙ ap (λ (s : Layout). areas_of (grid_of p) s found) c.shape.ensures.shape
    ∙ ap (λ (x : Header). areas_of (grid_of p) image.shape x) c.cell_header-header.ensures.header in
    let slice = slice-is p h all all c.areas-areas.result (areas_of (grid_of p) image.shape h) c.quantization-all.ensures.tables c.quantization-all.ensures.count c.quantization-all.ensures.tables c.quantization-all.ensures.count areas in
    let header = c.in_ok-writer.ensures.writing ∙ ap (λ (t : List ℕ). with_header (content_start t (eqb cell 0)) found.x found.y) c.transition.ensures
    ∙ ap (λ (x : Header). with_header (content_start p.transition (eqb cell 0)) x.x x.y) c.cell_header-header.ensures.header in
    rice_is (slices.slice_of all all c.areas-areas.result) (cell_slice p image.shape cell) image c.in_ok-writer.writer (header_written p cell) c.start-bits.result c.encode_rice_slice.new.bits
    c.in_ok-content.content.items c.packed.result.items c.as_slice.result.now c.extend_from_slice.new.self.items slice header c.start-bits.ensures c.in_ok-encode_rice_slice.ensures.ok c.in_ok-content.ensures.bytes
    c.packed.ensures c.as_slice.ensures.value c.in_ok-extend_from_slice.ensures.items
