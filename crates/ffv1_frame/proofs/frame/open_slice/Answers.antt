use Rattle.std.proofs.Common.{map}
use Rattle.std.specs.Prelude.{slice_index_or}
use Rattle.ffv1_frame.specs.Packet.{slice_at, no_slice}
use Rattle.ffv1_frame.proofs.Frames.{header_gives}
use Rattle.ffv1_frame.proofs.frame.open_slice.Goals as goal

pub returns-clause-gives : goal.returns-clause-gives
returns-clause-gives c =
    header_gives c.args.record.now c.args.i (slice_index_or (map (slice_at c.args.packet.now) c.args.spans.now) c.args.i no_slice) c.reader_at_header-reader.result c.read_header-header.new.reader c.transition.result.now c.content-content.result.now c.grid_of-grid.result c.read_header-header.result
    c.grid_of-grid.ensures c.transition.ensures c.content-content.ensures.content c.reader_at_header-reader.ensures.reading c.read_header-header.ensures.gives
