use Rattle.std.proofs.Common.{◌+◌, ◌++◌, ◌∷◌, [], ap, refl, ◌∙◌, arith}
use Rattle.std.specs.Prelude.{vec_len, vec_capacity}
use Rattle.tl_model.specs.declared.journal.Act.TheVariants as act
use Rattle.tl_model.specs.declared.edit.Edit.{Edit}
use Rattle.render_core.specs.Board.{of_edit}
use Rattle.render_core.proofs.Grows.{grown_room, adds, replies}
use Rattle.render_core.proofs.board.Board.edit.Goals as goal

pub invariant_of-self-2 : goal.invariant_of-self-2
invariant_of-self-2 g c =
    let m = c.self.inside.machine in
    let room = c.in_ok-make_room.ensures in
    grown_room g.M.Media.library c.args.self.now c.make_room.new.self m c.edit.new.self (c.len.result + 1) c.args.by (act.Edit c.args.edit.now) c.self.inside.journal.items c.push_reserved.new.self.items c.self.inside.limit c.self.inside.owed c.self.inside.owed (vec_len c.self.inside.journal) (vec_capacity c.self.inside.journal) (vec_capacity c.push_reserved.new.self) 1
    c.self.view_is c.self.invariant c.self.inside.journal.ok.0 room.0 room.1 room.2 refl c.requires.formed (omega (arith, c.len.ensures)) c.in-Ok-edit.ensures.0 (c.push_reserved.ensures.items ∙ ap (λ (e : Edit). c.self.inside.journal.items ++ record { pass = c.args.by; act = act.Edit e } ∷ []) c.in-Ok.ensures) refl c.push_reserved.ensures.capacity

pub returns-clause-done : goal.returns-clause-done
returns-clause-done g c =
    let m = c.self.inside.machine in
    let room = c.in_ok-make_room.ensures in
    let items = c.push_reserved.ensures.items ∙ ap (λ (e : Edit). c.self.inside.journal.items ++ record { pass = c.args.by; act = act.Edit e } ∷ []) c.in-Ok.ensures in (
      room.1,
      (
        adds g.M.Media.library c.args.self.now c.make_room.new.self m c.edit.new.self c.self.inside.limit c.self.inside.journal.items c.push_reserved.new.self.items _ _ c.args.by (act.Edit c.args.edit.now) _ c.self.view_is room.0 c.self.invariant.stands c.requires.formed c.in-Ok-edit.ensures.0 items,
        replies g.M.Media.library c.args.self.now c.make_room.new.self m c.self.inside.limit c.self.inside.journal.items _ (act.Edit c.args.edit.now) (of_edit c.in-Ok-edit.reply) c.self.view_is room.0 c.self.invariant.stands c.in-Ok-edit.ensures.1,
      ),
    )
