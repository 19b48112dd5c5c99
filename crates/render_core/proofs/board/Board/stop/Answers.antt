use Rattle.std.proofs.Common.{◌≡◌, ◌+◌, ap, refl, ◌∙◌, length}
use Rattle.std.specs.Prelude.{vec_capacity}
use Rattle.tl_model.specs.declared.journal.Act.TheVariants as act
use Rattle.render_core.specs.State.{State}
use Rattle.render_core.specs.Board.{state_of}
use Rattle.render_core.proofs.Grows.{grown_owed}
use Rattle.render_core.proofs.board.Board.stop.Goals as goal

pub invariant_of-self : goal.invariant_of-self
invariant_of-self g c =
    let m = c.self.inside.machine in
    let state : m.state ≡ state_of g.M.Media.library c.args.self.now = c.self.invariant.stands ∙ ap (state_of g.M.Media.library) c.self.view_is in
    let going = ap (λ (s : State). s.is_stopped) state ∙ c.requires.once in
    grown_owed g.M.Media.library m c.stop.new.self (length c.self.inside.journal.items + 1) c.args.by act.Stop c.self.inside.journal.items c.push_reserved.new.self.items c.self.inside.limit c.self.inside.owed (vec_capacity c.self.inside.journal) (vec_capacity c.push_reserved.new.self)
    c.self.invariant (c.requires.main, going) refl refl c.stop.ensures c.push_reserved.ensures.items c.push_reserved.ensures.capacity
