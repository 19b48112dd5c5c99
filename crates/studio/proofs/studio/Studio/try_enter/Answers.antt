use Rattle.std.proofs.Common.{◌≡◌, ◌*◌, length, ap, subst, ◌∙◌, arith}
use Rattle.turn_lock.specs.Passes.{TurnOf, PassOf}
use Rattle.render_core.specs.Board.{BoardOf}
use Rattle.edit_desk.specs.Alone.{desk_of}
use Rattle.edit_desk.specs.Desk.{IsDesk}
use Rattle.studio.specs.Known.{desk_at}
use Rattle.studio.proofs.Entering.{is_known, learns_at}
use Rattle.studio.proofs.studio.Studio.try_enter.Goals as goal

pub call_in-requires-clause-asks : goal.call_in-requires-clause-asks
call_in-requires-clause-asks g c =
    let t = c.in-In.ensures in
    let mid = c.try_enter.new.pass in
    g.met.C.Call.lasts c.args.call (desk_at c.args.self.now c.args.pass.now) (desk_at c.args.self.now mid)
    (learns_at g.M.Media.library c.args.self.now c.args.pass.now mid c.in-In.held c.requires.knows t.taken.0 t.extends t.own)
    (is_known g.M.Media.library c.args.self.now mid (subst (λ (s : TurnOf (BoardOf g.row.M.Denot)). IsDesk g.M.Media.library (record { fixed = (desk_of s.start).fixed; seen = mid.seen })) c.self.view_is t.meets))
    c.requires.asks

pub returns-in-In-clause-told : goal.returns-in-In-clause-told
returns-in-In-clause-told g c =
    let t = c.in-In.ensures in
    let mid = c.try_enter.new.pass in
    let word : c.call_in.new.pass.word ≡ 2 * length c.in-In.held.value.journal = c.call_in.ensures.word ∙ ap (λ (p : PassOf (BoardOf g.row.M.Denot)). p.word) t.taken.0 in (
      omega (arith, word),
      g.met.C.Call.later c.args.call (desk_at c.args.self.now c.args.pass.now) (desk_at c.args.self.now mid) (desk_at c.args.self.now c.call_in.new.pass) c.call_in.result
          (learns_at g.M.Media.library c.args.self.now c.args.pass.now mid c.in-In.held c.requires.knows t.taken.0 t.extends t.own) c.call_in.ensures.told,
    )
