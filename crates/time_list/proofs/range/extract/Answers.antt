use Rattle.std.proofs.Common.{◌+◌, refl}
use Rattle.tl_model.specs.Cells.{cells}
use Rattle.time_list.proofs.Proposed.{Rearranges-as, without_as}
use Rattle.time_list.proofs.range.extract.Goals as goal

pub returns : goal.returns
returns c = Rearranges-as c.args.items.now _ _ _ c.give_way.result (without_as (cells c.args.items.now) c.args.at (c.args.at + c.args.len) c.args.at (c.args.at + c.args.len) refl refl) c.give_way.ensures
