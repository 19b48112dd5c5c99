use Rattle.std.proofs.Common.{◌+◌, length, ap, subst, ◌∙◌}
use Rattle.std.specs.Prelude.{All}
use Rattle.crew.specs.Joining.{IsIn}
use Rattle.tl_ports.specs.Seen.{Outside, Telling}
use Rattle.turn_lock.specs.Passes.{PassOf}
use Rattle.render_core.specs.Board.{BoardOf}
use Rattle.timeline_app.specs.Course.{Planned, program_for}
use Rattle.timeline_app.proofs.Gathering.{all_worked, refilled}
use Rattle.timeline_app.proofs.Gathered.{played_together}
use Rattle.timeline_app.proofs.together.play_together.Goals as goal

pub returns : goal.returns
returns g c =
    let work = c.work_together-exporter in
    let seats = c.seat_workers-seats.result.items in
    let tells : Telling = record { store = g.T.Store.tells; vault = g.V.Vault.tells; screen = g.S.Sink.tells; out = g.O.Sink.tells } in
    let plan : Planned = record { script = c.args.plan.now.script.now; clips = c.args.plan.now.clips.now; others = 1 + c.args.plan.now.workers } in
    played_together (program_for g.M.Media.library plan (g.T.Store.seen c.args.store.now).file tells) c.args.studio.now c.args.main c.seat_workers-seats.new.main c.join_in.new.main c.join_all.new.main _ _ work.result
    (c.seat_workers-seats.ensures.made ∙ ap (λ (x : PassOf (BoardOf g.row.M.Denot)). record x { made = 1 + c.args.plan.now.workers }) c.split-exporter.ensures.made)
    work.ensures.together c.join_in.ensures.stays c.join_in.ensures.has c.join_all.ensures.stays
    (all_worked g.M.Media.library c.args.studio.now c.join_all.new.main work.new.seats c.args.plan.now.workers (work.ensures.len ∙ ap length c.as_mut_slice.ensures.value ∙ c.seat_workers-seats.ensures.len) work.ensures.seats (subst (All (IsIn c.join_all.new.main)) (refilled (length seats) seats work.new.seats (work.ensures.len ∙ ap length c.as_mut_slice.ensures.value)) c.join_all.ensures.has))
