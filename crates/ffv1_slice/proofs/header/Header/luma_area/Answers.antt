-- The cells end within the picture.
use Rattle.std.proofs.Common.{arith}
use Rattle.ffv1_slice.proofs.CellLemmas.{span_end}
use Rattle.ffv1_slice.proofs.header.Header.luma_area.Goals as goal

pub returns-clause-right : goal.returns-clause-right
returns-clause-right c =
    rw (← c.width-width.ensures.width) (span_end c.args.grid.columns c.width-width.result c.args.self.x c.args.self.columns c.cell_start-x.result c.cell_start.result (omega arith) (omega arith) (omega arith) (omega arith) c.cell_start-x.ensures c.cell_start.ensures)

pub returns-clause-bottom : goal.returns-clause-bottom
returns-clause-bottom c =
    rw (← c.height-height.ensures.height) (span_end c.args.grid.rows c.height-height.result c.args.self.y c.args.self.rows c.cell_start-y.result c.cell_start-2.result (omega arith) (omega arith) (omega arith) (omega arith) c.cell_start-y.ensures c.cell_start-2.ensures)
