use Rattle.std.proofs.Common.{◌+◌, refl, arith}
use Rattle.std.specs.Prelude.{vec_len, vec_capacity}
use Rattle.tl_model.specs.declared.journal.Act.TheVariants as act
use Rattle.render_core.proofs.Grows.{grown_room}
use Rattle.render_core.proofs.board.Board.cancel.Goals as goal

pub invariant_of-self : goal.invariant_of-self
invariant_of-self g c =
    let m = c.self.inside.machine in
    let room = c.in_ok-make_room.ensures in
    grown_room g.M.Media.library c.args.self.now c.make_room.new.self m c.cancel-reply.new.self (c.len.result + 1) c.args.by (act.Cancel c.args.first c.args.len) c.self.inside.journal.items c.push_reserved.new.self.items c.self.inside.limit c.self.inside.owed c.self.inside.owed (vec_len c.self.inside.journal) (vec_capacity c.self.inside.journal) (vec_capacity c.push_reserved.new.self) 1
    c.self.view_is c.self.invariant c.self.inside.journal.ok.0 room.0 room.1 room.2 refl tt (omega (arith, c.len.ensures)) c.cancel-reply.ensures.0 (c.push_reserved.ensures.items) refl c.push_reserved.ensures.capacity
