use Rattle.std.proofs.Common.{◌≡◌, ◌+◌, ◌≤◌, ℕ, ap, subst, ◌∙◌}
use Rattle.std.specs.Prelude.{OnOk}
use Rattle.tl_model.specs.declared.journal.Act.TheVariants as act
use Rattle.render_core.specs.Step.{need}
use Rattle.render_core.specs.Board.{state_of, of_ask}
use Rattle.render_core.proofs.Grows.{does_for}
use Rattle.render_core.proofs.board.Board.ask_export.Goals as goal

pub ask_with-requires-clause-need : goal.ask_with-requires-clause-need
ask_with-requires-clause-need g c =
    let state = c.self.invariant.stands ∙ ap (state_of g.M.Media.library) c.self.view_is in
    c.ask_need-count.ensures.need c.args.name.now ∙ ap (need (act.Ask c.args.name.now)) state

pub returns-clause-done : goal.returns-clause-done
returns-clause-done g c =
    does_for g.M.Media.library c.args.self.now c.ask_with.new.self (record { pass = c.args.by; act = act.Ask c.args.name.now; view = of_ask }) c.ask_need-count.result c.ask_with.result (c.ask_need-count.ensures.need c.args.name.now ∙ ap (need (act.Ask c.args.name.now)) (c.self.invariant.stands ∙ ap (state_of g.M.Media.library) c.self.view_is)) c.ask_with.ensures.done

pub returns-clause-uses : goal.returns-clause-uses
returns-clause-uses g c =
    subst (λ (n : ℕ). n ≤ c.args.self.now.spare → OnOk c.ask_with.result (c.ask_with.new.self.spare + n ≡ c.args.self.now.spare)) (c.ask_need-count.ensures.need c.args.name.now ∙ ap (need (act.Ask c.args.name.now)) (c.self.invariant.stands ∙ ap (state_of g.M.Media.library) c.self.view_is)) c.ask_with.ensures.uses
