use Rattle.std.proofs.Common.{List, set, ap, sym, subst, ◌∙◌}
use Rattle.std.specs.Prelude.{slice_get}
use Rattle.std.specs.List.{position}
use Rattle.std.proofs.lemmas.List.Quantifiers.{position-Some}
use Rattle.tl_model.specs.Cells.{cells}
use Rattle.render_core.specs.Export.{ExportOf, is_untaken, with_taker}
use Rattle.render_core.specs.State.{update}
use Rattle.render_core.specs.Waiting.{Took}
use Rattle.render_core.proofs.JobLists.{update_is, read_is}
use Rattle.render_core.proofs.export.Exports.take.Goals as goal

pub take-name-requires : goal.take-name-requires
take-name-requires c =
    let x = c.index_mut-export.result.now in
    let found = position-Some is_untaken c.self.inside.items.items c.args.place x (ap (position is_untaken) c.self.view_is ∙ c.requires) in
    ap is_untaken c.index_mut-export.ensures.value ∙ found.1

pub returns-clause-exports : goal.returns-clause-exports
returns-clause-exports c =
    let items = c.self.inside.items.items in
    let x = c.index_mut-export.result.now in
    let found = position-Some is_untaken items c.args.place x (ap (position is_untaken) c.self.view_is ∙ c.requires) in
    let at = read_is items c.args.place x found.0 c.index_mut-export.ensures.value in
    ap (λ (y : ExportOf). set items c.args.place y) c.take-name.ensures.taken ∙ update_is (with_taker c.args.by) items c.args.place x at ∙ ap (update c.args.place (with_taker c.args.by)) c.self.view_is

pub returns-clause-parts : goal.returns-clause-parts
returns-clause-parts c =
    let items = c.self.inside.items.items in
    let x = c.index_mut-export.result.now in
    let found = position-Some is_untaken items c.args.place x (ap (position is_untaken) c.self.view_is ∙ c.requires) in
    let at = read_is items c.args.place x found.0 c.index_mut-export.ensures.value in
    let here = ap (λ (xs : List ExportOf). slice_get xs c.args.place) (sym c.self.view_is) ∙ at in
    subst (Took c.take-name.result.name (cells c.take-name.result.segments)) (sym here) (c.take-name.ensures.name, c.take-name.ensures.line)
