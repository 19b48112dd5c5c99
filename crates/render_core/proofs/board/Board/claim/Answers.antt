use Rattle.std.proofs.Common.{◌+◌, ◌++◌, ◌∷◌, [], List, Option, ℕ, ap, refl, subst, sym, ◌∙◌, arith, length}
use Rattle.std.specs.Prelude.{vec_capacity}
use Rattle.tl_model.specs.declared.journal.Act.TheVariants as act
use Rattle.tl_model.specs.declared.journal.Entry.{Entry}
use Rattle.render_core.specs.Step.{after_claim}
use Rattle.render_core.specs.Parts.{MachineOf, in_state}
use Rattle.render_core.specs.State.{State, Holds}
use Rattle.render_core.specs.Board.{IsBoard}
use Rattle.render_core.proofs.Claims.{claim_holds}
use Rattle.render_core.proofs.Grows.{grown, some_of}
use Rattle.render_core.proofs.board.Board.claim.Goals as goal

pub invariant_of-self-2 : goal.invariant_of-self-2
invariant_of-self-2 g c =
    let m = c.self.inside.machine in
    let place = c.in-Some.place in
    let found = sym c.in-Some.ensures in
    let turn = c.claim-claim.ensures.state ∙ ap (λ (o : Option ℕ). in_state (after_claim c.args.by o m.state) m) (sym found) in
    let items = c.push_reserved.ensures.items ∙ ap (λ (es : List Entry). es ++ record { pass = c.args.by; act = act.Claim } ∷ []) c.room_for.ensures.items in
    let room = c.in_ok-room_for.ensures.room in
    grown g.M.Media.library m c.claim-claim.new.self (length c.self.inside.journal.items + 1) c.args.by act.Claim c.self.inside.journal.items c.push_reserved.new.self.items c.self.inside.limit c.self.inside.owed (vec_capacity c.self.inside.journal) (c.self.inside.owed + 1) (vec_capacity c.push_reserved.new.self)
    c.self.invariant (sym c.is_stopped.ensures ∙ c.if-is_stopped.false, some_of _ place found) refl turn items (omega arith) (omega (arith, room.0)) (omega (arith, room.1, c.push_reserved.ensures.capacity))

pub returns-clause-held : goal.returns-clause-held
returns-clause-held g c =
    let place = c.in-Some.place in
    let nm = c.claim-claim.new.self in
    let turned = claim_holds c.args.by place c.claim-claim.result.recipe c.self.inside.machine.state nm.state (ap (λ (m : MachineOf _). m.state) c.claim-claim.ensures.state) c.claim-claim.ensures.recipe in
    let held = subst (λ (n : ℕ). Holds nm.state c.args.by n c.claim-claim.result.recipe) (sym c.claim-claim.ensures.job) turned in
    subst (λ (s : State). Holds s c.args.by c.claim-claim.result.job c.claim-claim.result.recipe) (let b : IsBoard _ _ = invariant_of-self-2 g c in b.stands) held
