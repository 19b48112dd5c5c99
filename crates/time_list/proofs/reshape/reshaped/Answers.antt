use Rattle.std.proofs.Common.{◌≡◌, ℤ, rules, sym, subst, to_z, of_z, w32}
use Rattle.tl_model.specs.Cells.{cells_of}
use Rattle.time_list.specs.Changes.{Reshapes, reshaped}
use Rattle.time_list.specs.Edits.{slipped}
use Rattle.time_list.specs.declared.reshape.Reshape.{Reshape}
use Rattle.time_list.proofs.reshape.reshaped.Goals as goal

pub returns-in-Slip : goal.returns-in-Slip
returns-in-Slip g c =
    let e : to_z w32 (of_z w32 c.in-Slip.by) ≡ c.in-Slip.by = search rules in
    let own = cells_of c.args.segment.now in
    subst (λ (how : Reshape). Reshapes (g.M.Media.library c.args.media.now) (reshaped how own) c.slip.result) (sym c.in-Slip.is)
    (subst (λ (by : ℤ). Reshapes (g.M.Media.library c.args.media.now) (slipped by own) c.slip.result) e c.slip.ensures)
