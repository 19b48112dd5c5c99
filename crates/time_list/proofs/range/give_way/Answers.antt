use Rattle.std.proofs.Common.{◌≡◌, ◌+◌, length, refl, sym, arith}
use Rattle.tl_model.specs.Cells.{cells}
use Rattle.time_list.proofs.Proposed.{IsChangeTo-as, between_as, place-within, not_past_lt}
use Rattle.time_list.proofs.range.give_way.Goals as goal

pub returns-in-Ok : goal.returns-in-Ok
returns-in-Ok c =
    let place : c.in-Some.cut.start + c.in-Some.cut.offset ≡ c.args.at = sym c.in-Some.ensures.place in
    let after = c.in-Some-cut_after.ensures.0 in
    let end : c.in-Some-cut_after.last.start + c.in-Some-cut_after.last.offset ≡ c.args.at + c.args.len = omega (arith, after.place) in
    let within = place-within c.args.items.now (c.in-Some.cut.start + c.in-Some.cut.offset + c.args.len) c.in-Some-cut_after.last after in (
      not_past_lt (length (cells c.args.items.now)) (c.args.at + c.args.len) (omega arith),
      IsChangeTo-as c.args.items.now _ _ c.in-Ok.change (between_as (cells c.args.items.now) (cells c.args.new.now) (cells c.args.new.now) _ _ _ _ place end refl) c.in-Ok.ensures,
    )
