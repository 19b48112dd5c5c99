use Rattle.std.proofs.Common.{subst}
use Rattle.turn_lock.specs.Passes.{TurnOf}
use Rattle.render_core.specs.Board.{BoardOf}
use Rattle.edit_desk.specs.Alone.{desk_of}
use Rattle.edit_desk.specs.Desk.{IsDesk}
use Rattle.studio.specs.Known.{desk_at}
use Rattle.studio.proofs.Entering.{is_known, learns_at}
use Rattle.studio.proofs.studio.Studio.enter.Goals as goal

pub call_in-requires-clause-asks : goal.call_in-requires-clause-asks
call_in-requires-clause-asks g c =
    let t = c.enter-held.ensures in
    let mid = c.enter-held.new.pass in
    g.met.C.Call.lasts c.args.call (desk_at c.args.self.now c.args.pass.now) (desk_at c.args.self.now mid)
    (learns_at g.M.Media.library c.args.self.now c.args.pass.now mid c.enter-held.result c.requires.knows t.taken.0 t.extends t.own)
    (is_known g.M.Media.library c.args.self.now mid (subst (λ (s : TurnOf (BoardOf g.row.M.Denot)). IsDesk g.M.Media.library (record { fixed = (desk_of s.start).fixed; seen = mid.seen })) c.self.view_is t.meets))
    c.requires.asks

pub returns-clause-told : goal.returns-clause-told
returns-clause-told g c =
    let t = c.enter-held.ensures in
    let mid = c.enter-held.new.pass in
    g.met.C.Call.later c.args.call (desk_at c.args.self.now c.args.pass.now) (desk_at c.args.self.now mid) (desk_at c.args.self.now c.call_in.new.pass) c.call_in.result
    (learns_at g.M.Media.library c.args.self.now c.args.pass.now mid c.enter-held.result c.requires.knows t.taken.0 t.extends t.own) c.call_in.ensures.told
