use Rattle.std.proofs.Common.{◌≡◌, ℕ, ◌+◌, length, [], subst, ◌∙◌, arith}
use Rattle.tl_model.specs.Cells.{cells}
use Rattle.tl_model.specs.Segment.{Reaches}
use Rattle.time_list.specs.Edits.{sides_from}
use Rattle.time_list.proofs.Proposed.{taking_is, place-within, not_past_lt}
use Rattle.time_list.proofs.range.place_for.Goals as goal

pub returns-in-Ok : goal.returns-in-Ok
returns-in-Ok g c =
    let same : 0 + c.args.len ≡ c.args.len = omega arith in (
      taking_is (g.M.Media.library c.args.media.now) (sides_from c.args.side 0 c.args.len) _ [] (not_past_lt (length (cells c.args.items.now)) c.args.at (place-within c.args.items.now c.args.at c.in-Some.cut c.in-Some.ensures)) ∙ c.in-Ok.ensures.reason,
      c.in-Some.ensures,
      subst (λ (count : ℕ). Reaches c.args.side count) same c.in-Ok.ensures.reach,
    )

pub returns-in-Err : goal.returns-in-Err
returns-in-Err g c = taking_is (g.M.Media.library c.args.media.now) (sides_from c.args.side 0 c.args.len) _ [] (not_past_lt (length (cells c.args.items.now)) c.args.at (place-within c.args.items.now c.args.at c.in-Some.cut c.in-Some.ensures)) ∙ c.in-Err.ensures.reason
