-- The areas lie within the planes.
use Rattle.std.proofs.Common.{rules, ap}
use Rattle.ffv1_slice.proofs.CellLemmas.{hold_both}
use Rattle.ffv1_slice.proofs.header.Header.areas.Goals as goal

pub returns-in-Shifts-clause-within : goal.returns-in-Shifts-clause-within
returns-in-Shifts-clause-within c = λ room wide.
    hold_both c.args.shape c.in-Shifts.h c.in-Shifts.v room c.luma_area-luma.result c.chroma_area.result c.in-Shifts.ensures.chroma (search rules) (search rules) (ap (λ a. a.plane) c.luma_area-luma.ensures.area) c.luma_area-luma.ensures.some c.luma_area-luma.ensures.right c.luma_area-luma.ensures.bottom c.chroma_area.ensures.area wide
