use Rattle.std.proofs.Common.{◌≡◌, ◌+◌, sym}
use Rattle.std.proofs.lemmas.List.{append-nil}
use Rattle.tl_model.specs.Cells.{cells}
use Rattle.time_list.specs.Edits.{fresh}
use Rattle.time_list.proofs.Proposed.{IsChangeTo-as, between_as}
use Rattle.time_list.proofs.range.insert.Goals as goal

pub returns-in-Ok-between : goal.returns-in-Ok-between
returns-in-Ok-between g c =
    let place : c.in-Ok.cut.start + c.in-Ok.cut.offset ≡ c.args.at = sym c.in-Ok.ensures.1.place in (
      c.in-Ok.ensures.0,
      IsChangeTo-as c.args.items.now _ _ c.in-Ok-between.change (between_as (cells c.args.items.now) _ (fresh c.args.side c.args.len) _ _ _ _ place place (append-nil (fresh c.args.side c.args.len))) c.in-Ok-between.ensures,
    )
