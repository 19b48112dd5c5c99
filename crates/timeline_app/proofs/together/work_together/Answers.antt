use Rattle.std.proofs.Common.{◌≡◌, ◌+◌, refl, rules, sym, ap, subst}
use Rattle.studio.specs.Known.{Knows, desk_at}
use Rattle.studio.specs.Parts.{KnowsAs}
use Rattle.render_pool.specs.Working.{WorksUntilStopped}
use Rattle.tl_ports.specs.Seen.{Outside, Telling}
use Rattle.timeline_app.specs.Course.{Planned, program_for}
use Rattle.timeline_app.specs.Together.{MadeTurns}
use Rattle.timeline_app.proofs.Gathering.{all_ran, can_run_all, seated}
use Rattle.timeline_app.proofs.Lent.{work_by}
use Rattle.timeline_app.proofs.Turns.{made_exports, made_turns}
use Rattle.timeline_app.proofs.Unstopped.{script_goes}
use Rattle.timeline_app.proofs.together.work_together.Goals as goal

pub man-exporter-requires-clause-workers : goal.man-exporter-requires-clause-workers
man-exporter-requires-clause-workers g c κs within =
    can_run_all c.args.seats.now (seated g.M.Media.library c.args.studio.now) _ (λ number seat h. (subst (λ s. Knows g.M.Media.library s seat.pass) (sym h.0) h.1.knows, tt)) c.requires.seats

pub man-exporter-requires-clause-main : goal.man-exporter-requires-clause-main
man-exporter-requires-clause-main g c κs within = (
  c.requires.knows,
  (
    c.requires.script,
    c.requires.clips,
    c.requires.main,
    refl,
    λ new ended known plays. (script_goes _ _ new _ ended.0 ended.1 c.requires.main c.requires.fresh known plays).going,
  ),
)

pub returns-clause-together : goal.returns-clause-together
returns-clause-together g c =
    let done = c.man-exporter in
    let exports = done.ensures.exporter_told.1 in
    let shown = done.result.1.1 in
    let store_back : shown.store.now ≡ c.store-1.given.0 = search rules in
    let vault_back : done.result.0.1.now ≡ c.vault-1.given.0 = search rules in
    let screen_back : shown.screen.now ≡ c.screen-1.given.0 = search rules in
    let out_back : shown.out.now ≡ c.out-1.given.0 = search rules in
    let tells : Telling = record { store = g.T.Store.tells; vault = g.V.Vault.tells; screen = g.S.Sink.tells; out = g.O.Sink.tells } in
    let plan : Planned = record { script = c.args.plan.now.script.now; clips = c.args.plan.now.clips.now; others = 1 + c.args.plan.now.workers } in
    let seen : Outside = record {
      store = g.T.Store.seen c.args.store.now;
      vault = g.V.Vault.seen c.args.vault.now;
      screen = g.S.Sink.seen c.args.screen.now;
      out = g.O.Sink.seen c.args.out.now;
    } in
    work_by (program_for g.M.Media.library plan (g.T.Store.seen c.args.store.now).file tells) c.args.studio.now (record { pass = c.args.passes.1; seen = seen }) _
    (done.result.0.0, done.result.1.0, done.result.1.1.playback) _ _ _ _ (ap g.T.Store.seen (sym store_back)) (ap g.V.Vault.seen (sym vault_back)) (ap g.S.Sink.seen (sym screen_back)) (ap g.O.Sink.seen (sym out_back))
    (record {
      plays = done.ensures.main_told.5;
      main = done.ensures.main;
      early = exports.carried;
      exports = made_exports g.M.Media.library c.args.studio.now 1 c.args.passes.0 done.result.0.0 c.requires.exporter done.ensures.exporter exports.carried refl exports.hears;
      carries = exports.carries;
      idle = done.ensures.exporter_told.2;
    })

pub returns-clause-seats : goal.returns-clause-seats
returns-clause-seats g c =
    let library = g.M.Media.library in
    let studio = c.args.studio.now in
    all_ran c.args.seats.now c.man-exporter.new.workers (seated library studio) _ (λ number left. MadeTurns library studio number left.0) c.requires.seats c.man-exporter.ensures.workers
    (λ number seat left h k. made_turns library studio number seat.pass left.0 h.1 (subst (λ s. KnowsAs library s seat.pass left.0) h.0 k.0) left.1
    (subst (λ s. WorksUntilStopped library (desk_at s seat.pass) (desk_at s left.0) left.1) h.0 k.1))
