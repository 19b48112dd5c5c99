use Rattle.std.proofs.Common.{◌+◌, refl}
use Rattle.std.specs.Prelude.{vec_len, vec_capacity}
use Rattle.tl_model.specs.declared.journal.Act.TheVariants as act
use Rattle.render_core.proofs.Grows.{grown_room}
use Rattle.render_core.proofs.board.Board.play.Goals as goal

pub invariant_of-self-2 : goal.invariant_of-self-2
invariant_of-self-2 g c =
    let m = c.self.inside.machine in
    let room = c.in_ok-make_room.ensures in
    grown_room g.M.Media.library c.args.self.now c.make_room.new.self m c.play.new.self (vec_len c.self.inside.journal + 1) c.args.by (act.Play c.args.n) c.self.inside.journal.items c.push_reserved.new.self.items c.self.inside.limit c.self.inside.owed c.self.inside.owed (vec_len c.self.inside.journal) (vec_capacity c.self.inside.journal) (vec_capacity c.push_reserved.new.self) 1
    c.self.view_is c.self.invariant c.self.inside.journal.ok.0 room.0 room.1 room.2 refl tt refl c.in-Ok.ensures.turn.0 (c.push_reserved.ensures.items) refl c.push_reserved.ensures.capacity
