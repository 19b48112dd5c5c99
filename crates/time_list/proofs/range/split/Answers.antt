use Rattle.std.proofs.Common.{◌≡◌, ◌+◌, length, sym}
use Rattle.tl_model.specs.Cells.{cells}
use Rattle.time_list.proofs.Proposed.{IsChangeTo-as, without_as, frame-within, not_past_le}
use Rattle.time_list.proofs.range.split.Goals as goal

pub returns-in-Ok : goal.returns-in-Ok
returns-in-Ok c =
    let found = c.in-Some.ensures in
    let place : c.in-Some.cut.start + c.in-Some.cut.offset ≡ c.args.at = sym found.0.place in (
      not_past_le (length (cells c.args.items.now)) c.args.at (frame-within c.args.items.now c.args.at c.in-Some.cut found.0 found.1),
      IsChangeTo-as c.args.items.now _ _ c.in-Ok.change (without_as (cells c.args.items.now) _ _ c.args.at c.args.at place place) c.in-Ok.ensures,
    )
