use Rattle.std.proofs.Common.{◌≡◌, ℤ, rules, sym, subst, to_z, of_z, w32}
use Rattle.tl_model.specs.Cells.{cells}
use Rattle.tl_model.specs.declared.edit.Edit.{Edit}
use Rattle.time_list.specs.Changes.{Changes}
use Rattle.time_list.specs.Edits.{slipped, in_segment, proposal}
use Rattle.time_list.proofs.list_lane.change_of.Goals as goal

pub returns-in-Slip : goal.returns-in-Slip
returns-in-Slip g c =
    let e : to_z w32 (of_z w32 c.in-Slip.by) ≡ c.in-Slip.by = search rules in
    let line = cells c.args.items.now in
    subst (λ (edit : Edit). Changes (g.M.Media.library c.args.media.now) c.args.items.now (proposal edit line) c.change_segment-in-Slip.result) (sym c.in-Slip.is)
    (subst (λ (by : ℤ). Changes (g.M.Media.library c.args.media.now) c.args.items.now (in_segment (slipped by) c.in-Slip.at line) c.change_segment-in-Slip.result) e c.change_segment-in-Slip.ensures)
