use Rattle.std.proofs.Common.{List, sym, ap, ◌∙◌, subst, Err}
use Rattle.tl_model.specs.Cells.{cells}
use Rattle.tl_model.specs.declared.segment.Segment.{Segment}
use Rattle.time_list.specs.Changes.{spliced, Makes}
use Rattle.time_list.proofs.Applying.{change-applies, make-applies}
use Rattle.time_list.proofs.list_lane.ListLaneLane.apply.Goals as goal

pub returns-in-Err : goal.returns-in-Err
returns-in-Err g c = change-applies (g.M.Media.library c.args.media.now) c.deref.result.now c.args.edit.now c.args.self.now c.in-Err.why (ap cells c.deref.ensures.value ∙ c.self.view_is) c.in-Err.ensures

pub returns : goal.returns
returns g c =
    let same = c.deref-2.ensures.value ∙ sym c.deref.ensures.value in
    make-applies (g.M.Media.library c.args.media.now) c.deref.result.now c.args.edit.now c.args.self.now c.in-Ok.change c.in-Err-make.why (ap cells c.deref.ensures.value ∙ c.self.view_is) c.in-Ok.ensures
    (subst (λ (ss : List Segment). Makes ss (spliced c.in-Ok.change.span c.in-Ok.change.put.items ss) (Err c.in-Err-make.why)) same c.in-Err-make.ensures)
