use Rattle.std.proofs.Common.{List, ℕ, ◌+◌, ◌-◌, ◌++◌, ◌∷◌, [], refl, ap, sym, ◌∙◌, arith}
use Rattle.std.specs.Prelude.{vec_len, vec_capacity}
use Rattle.tl_model.specs.declared.journal.Act.TheVariants as act
use Rattle.render_core.specs.Step.{need}
use Rattle.render_core.proofs.Grows.{grown_room, state_from}
use Rattle.render_core.proofs.board.Board.ask_with.Goals as goal

pub invariant_of-self-2 : goal.invariant_of-self-2
invariant_of-self-2 g c =
    let m = c.self.inside.machine in
    let room = c.in_ok-make_room.ensures in
    let state = state_from g.M.Media.library c.args.self.now c.make_room.new.self m c.self.inside.limit c.self.inside.journal.items _ c.self.view_is room.0 c.self.invariant.stands in
    let needs = ap (need (act.Ask c.args.name.now)) state ∙ sym c.requires.need in
    grown_room g.M.Media.library c.args.self.now c.make_room.new.self m c.ask.new.self (vec_len c.self.inside.journal + 1) c.args.by (act.Ask c.args.name.now) c.self.inside.journal.items c.push_reserved.new.self.items c.self.inside.limit c.self.inside.owed (c.self.inside.owed + (c.args.count - 1)) (vec_len c.self.inside.journal) (vec_capacity c.self.inside.journal) (vec_capacity c.push_reserved.new.self) c.args.count
    c.self.view_is c.self.invariant c.self.inside.journal.ok.0 room.0 room.1 room.2 needs tt refl c.in-Ok-ask.ensures.0 (c.push_reserved.ensures.items ∙ ap (λ (name : List ℕ). c.self.inside.journal.items ++ record { pass = c.args.by; act = act.Ask name } ∷ []) c.in-Ok.ensures) (omega (arith, c.requires.some)) c.push_reserved.ensures.capacity
