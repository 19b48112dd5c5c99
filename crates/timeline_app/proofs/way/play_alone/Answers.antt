use Rattle.std.proofs.Common.{inl, inr, refl}
use Rattle.timeline_app.specs.Made.{Around}
use Rattle.timeline_app.specs.Session.{fetched_by}
use Rattle.timeline_app.proofs.HeadListed.{head_listed}
use Rattle.timeline_app.proofs.Starting.{asked_ran, ran_alone}
use Rattle.timeline_app.proofs.way.play_alone.Goals as goal

pub end_early-requires : goal.end_early-requires
end_early-requires g c =
    head_listed (fetched_by g.T.Store.tells (g.T.Store.seen c.args.store.now) (g.T.Store.seen c.open_library.new.store)) c.args.asked.script.now c.in-Err.why c.in-Err.ensures.opens

pub returns-in-Ok-start : goal.returns-in-Ok-start
returns-in-Ok-start g c =
    let done = c.run_desk in
    let asked = c.args.asked in
    let opening = c.in-Ok.opening in
    let store = g.T.Store.seen c.open_library.new.store in
    let around : Around = record {
      old = record { store = g.T.Store.seen c.args.store.now; vault = g.V.Vault.seen c.args.vault.now; screen = g.S.Sink.seen c.args.screen.now; out = g.O.Sink.seen c.args.out.now };
      new = record { store = g.T.Store.seen done.new.store; vault = g.V.Vault.seen done.new.vault; screen = g.S.Sink.seen done.new.screen; out = g.O.Sink.seen done.new.out };
      tells = record { store = g.T.Store.tells; vault = g.V.Vault.tells; screen = g.S.Sink.tells; out = g.O.Sink.tells };
    } in
    let opened : Around = record around { old = record around.old { store = store } } in
    asked_ran 0 asked opening around store done.result c.in-Ok.ensures.same c.in-Ok.ensures.opens
    (inr (done.ensures.0, ran_alone 0 asked opening opened done.result.journal done.ensures.0 done.result.status c.in-Ok-start.desk c.in-Ok-start.ensures.fixed c.in-Ok-start.ensures.seen done.ensures.1))

pub returns-in-Ok : goal.returns-in-Ok
returns-in-Ok g c =
    let done = c.end_wanting in
    let store = g.T.Store.seen c.open_library.new.store in
    let around : Around = record {
      old = record { store = g.T.Store.seen c.args.store.now; vault = g.V.Vault.seen c.args.vault.now; screen = g.S.Sink.seen c.args.screen.now; out = g.O.Sink.seen c.args.out.now };
      new = record { store = store; vault = g.V.Vault.seen c.args.vault.now; screen = g.S.Sink.seen c.args.screen.now; out = g.O.Sink.seen done.new.out };
      tells = record { store = g.T.Store.tells; vault = g.V.Vault.tells; screen = g.S.Sink.tells; out = g.O.Sink.tells };
    } in
    asked_ran 0 c.args.asked c.in-Ok.opening around store done.result c.in-Ok.ensures.same c.in-Ok.ensures.opens
    (inl (record { says = done.ensures; store = refl; quiet = record { files = refl; vault = refl; screen = refl } }))
