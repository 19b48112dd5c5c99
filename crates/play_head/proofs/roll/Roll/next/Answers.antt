use Rattle.std.proofs.Common.{refl, sym, ◌∙◌}
use Rattle.play_head.proofs.Rolls.{none_left, play_wants, play_ends}
use Rattle.play_head.proofs.roll.Roll.next.Goals as goal
use Rattle.play_head.proofs.roll.Roll.next.Goals.{then-self-gt-AHEAD, else-self-gt-AHEAD}

pub returns-then-self-clause-calls : goal.returns-then-self-clause-calls
returns-then-self-clause-calls c = let e = sym c.self.view_is ∙ none_left c.self.inside c.in_default.is c.if-self.true in (e, e)

pub returns-clause-calls : goal.returns-clause-calls
returns-clause-calls c =
    sym c.self.view_is ∙ (elim c.if-self-gt-AHEAD.branch [
      | then-self-gt-AHEAD w ↦ play_wants c.self.inside c.if-self-gt-AHEAD.self-inside _ w.self-inside-is refl w.if-self-gt-AHEAD.true c.in_default.is
      | else-self-gt-AHEAD w ↦ play_ends c.self.inside c.if-self-gt-AHEAD.self-inside w.self-inside-is w.if-self-gt-AHEAD.false c.if-self.false c.self.invariant.2 c.in_default.is
    ])
