use Rattle.std.proofs.Common.{List, ◌<◌, length, set, ap, sym, subst, ◌∙◌}
use Rattle.render_core.specs.Export.{ExportOf, with_ending}
use Rattle.render_core.specs.State.{update}
use Rattle.render_core.proofs.JobLists.{update_is, read_is}
use Rattle.render_core.proofs.export.Exports.end.Goals as goal

pub returns : goal.returns
returns c =
    let items = c.self.inside.items.items in
    let x = c.index_mut-export.result.now in
    let within = subst (λ (xs : List ExportOf). c.args.place < length xs) (sym c.self.view_is) c.requires in
    let at = read_is items c.args.place x within c.index_mut-export.ensures.value in
    ap (λ (y : ExportOf). set items c.args.place y) c.end.ensures ∙ update_is (with_ending c.args.ending) items c.args.place x at ∙ ap (update c.args.place (with_ending c.args.ending)) c.self.view_is
