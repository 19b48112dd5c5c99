use Rattle.std.proofs.Common.{◌≡◌, ◌+◌, List, ◌++◌, min, length, take, ap, arith, sym, ◌∙◌}
use Rattle.std.proofs.lemmas.List.{append-nil}
use Rattle.tl_model.specs.Cells.{Cell, cells}
use Rattle.time_list.specs.Edits.{headed, fresh}
use Rattle.time_list.proofs.Proposed.{IsChangeTo-as, between_as, drop_min}
use Rattle.time_list.proofs.range.overwrite.Goals as goal

pub returns-in-Ok-between : goal.returns-in-Ok-between
returns-in-Ok-between g c =
    let place : c.in-Ok.cut.start + c.in-Ok.cut.offset ≡ c.args.at = sym c.in-Ok.ensures.1.place in
    let end : c.end_after-last.result.start + c.end_after-last.result.offset ≡ min (c.args.at + c.args.len) (length (cells c.args.items.now)) = omega (arith, c.end_after-last.ensures.place) in (
      c.in-Ok.ensures.0,
      IsChangeTo-as c.args.items.now _ _ c.in-Ok-between.change
          (between_as (cells c.args.items.now) _ (fresh c.args.side c.args.len) _ _ _ _ place end (append-nil (fresh c.args.side c.args.len))
          ∙ ap (λ (line : List Cell). take c.args.at (cells c.args.items.now) ++ fresh c.args.side c.args.len ++ headed line) (drop_min (cells c.args.items.now) (c.args.at + c.args.len)))
          c.in-Ok-between.ensures,
    )
