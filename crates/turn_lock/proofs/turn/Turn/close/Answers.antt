use Rattle.std.proofs.Common.{refl, sym, ap, ◌∙◌, subst, IsSome, Option}
use Rattle.turn_lock.specs.Passes.{TurnOf}
use Rattle.turn_lock.proofs.Ends.{ends_ok, ends_at}
use Rattle.turn_lock.proofs.turn.Turn.close.Goals as goal

pub unwrap-value-requires : goal.unwrap-value-requires
unwrap-value-requires g c =
    let end = ends_ok _ _ _ _ _ _ _ _ _ c.pass.invariant.named c.pass.view_is c.requires.free c.requires.main c.requires.joined c.close_with-closed.ensures.values.2 c.take.ensures.value in
    subst (λ (o : Option g.row.B.Denot). IsSome o) (sym end.1) refl

pub returns : goal.returns
returns g c =
    let end = ends_at _ _ _ _ _ _ _ _ _ _ c.pass.invariant.named c.pass.view_is c.requires.free c.requires.main c.requires.joined c.close_with-closed.ensures.values.2 c.take.ensures.value c.unwrap-value.ensures in
    record {
      extends = end.extends;
      main = end.main;
      joined = end.joined;
      others = end.others;
      fixed = end.fixed ∙ ap (λ (t : TurnOf g.row.B.Denot). g.B.Journaled.fixed t.start) c.self.view_is;
      meets = subst (λ (t : TurnOf g.row.B.Denot). g.B.Journaled.meets (g.B.Journaled.fixed t.start) (g.B.Journaled.entries c.unwrap-value.result)) c.self.view_is end.meets;
    }
