use Rattle.std.proofs.Common.{◌+◌, refl}
use Rattle.std.proofs.lemmas.List.{append-nil}
use Rattle.tl_model.specs.Cells.{cells}
use Rattle.tl_model.specs.declared.recipe.Side.TheVariants as side
use Rattle.time_list.specs.Edits.{fresh}
use Rattle.time_list.proofs.Proposed.{Rearranges-as, between_as}
use Rattle.time_list.proofs.range.lift.Goals as goal

pub returns : goal.returns
returns c = Rearranges-as c.args.items.now _ _ _ c.give_way.result (between_as (cells c.args.items.now) _ (fresh side.Black c.args.len) c.args.at (c.args.at + c.args.len) c.args.at (c.args.at + c.args.len) refl refl (append-nil (fresh side.Black c.args.len))) c.give_way.ensures
