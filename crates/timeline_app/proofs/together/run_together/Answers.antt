use Rattle.std.proofs.Common.{◌≡◌, ◌+◌, List, Result, ap, subst, ◌∙◌}
use Rattle.std.specs.List.{flat_map}
use Rattle.pic_planes.specs.Picture.{Image}
use Rattle.tl_model.specs.declared.journal.Entry.{Entry}
use Rattle.tl_ports.specs.declared.fault.PutFault.{PutFault}
use Rattle.tl_ports.specs.Seen.{Outside, Telling, VaultSeen}
use Rattle.turn_lock.specs.Passes.{PassOf}
use Rattle.render_core.specs.Board.{BoardOf}
use Rattle.edit_desk.specs.Desk.{FixedOf}
use Rattle.studio.specs.Known.{KeptOf}
use Rattle.timeline_app.specs.Course.{Planned, Program, SaysRest, program_for}
use Rattle.timeline_app.specs.Ending.{entry_endings, entry_lines, final_status, stop_in}
use Rattle.timeline_app.specs.Together.{MainOf}
use Rattle.timeline_app.proofs.Beside.{EndsTogether, Finishes, finishes_over, knows_over, names_all, ran_together}
use Rattle.timeline_app.proofs.together.run_together.Goals as goal

pub close-journal-requires-clause-joined : goal.close-journal-requires-clause-joined
close-journal-requires-clause-joined g c number le most =
    let tells : Telling = record { store = g.T.Store.tells; vault = g.V.Vault.tells; screen = g.S.Sink.tells; out = g.O.Sink.tells } in
    let plan : Planned = record { script = c.args.script.now; clips = c.args.clips.now; others = 1 + c.args.workers } in
    let p : Program g.row.M.Denot Image = program_for g.M.Media.library plan (g.T.Store.seen c.args.store.now).file tells in
    let main = c.play_together-main.result.0 in
    let over = c.into_pass-main.result in
    let f : Finishes p c.args.studio main (g.V.Vault.seen c.play_together-main.new.vault) (g.V.Vault.seen c.finish_exports.new.vault) c.new-desk.result c.finish_exports.new.desk over = record {
      studio_is = c.new-desk.ensures.studio;
      pass_is = c.new-desk.ensures.pass;
      finishes = c.finish_exports.ensures.carried;
      over_is = c.into_pass-main.ensures.pass;
      knows = c.into_pass-main.ensures.knows;
    } in
    let fixed = (finishes_over p c.args.studio main _ _ c.new-desk.result c.finish_exports.new.desk over f).1.hears.fixed in
    names_all p c.args.studio _ _ _ over c.play_together-main.ensures
    (ap (λ (x : FixedOf g.row.M.Denot (KeptOf g.row.M.Denot)). x.kept.joined) fixed) (ap (λ (x : FixedOf g.row.M.Denot (KeptOf g.row.M.Denot)). x.kept.made) fixed) number le most

pub returns : goal.returns
returns g c =
    let tells : Telling = record { store = g.T.Store.tells; vault = g.V.Vault.tells; screen = g.S.Sink.tells; out = g.O.Sink.tells } in
    let clips = c.args.clips.now in
    let plan : Planned = record { script = c.args.script.now; clips = clips; others = 1 + c.args.workers } in
    let p : Program g.row.M.Denot Image = program_for g.M.Media.library plan (g.T.Store.seen c.args.store.now).file tells in
    let played = c.play_together-main in
    let main = played.result.0 in
    let over = c.into_pass-main.result in
    let left : VaultSeen = g.V.Vault.seen played.new.vault in
    let vault : VaultSeen = g.V.Vault.seen c.finish_exports.new.vault in
    let journal = c.close-journal.result in
    let before = g.O.Sink.seen played.new.out in
    let after = g.O.Sink.seen c.say_rest-said.new.out in
    let old : MainOf g.row.M.Denot = record {
      pass = c.args.main;
      seen = record { store = g.T.Store.seen c.args.store.now; vault = g.V.Vault.seen c.args.vault.now; screen = g.S.Sink.seen c.args.screen.now; out = g.O.Sink.seen c.args.out.now };
    } in
    let mid : MainOf g.row.M.Denot = record {
      pass = main;
      seen = record { store = g.T.Store.seen played.new.store; vault = left; screen = g.S.Sink.seen played.new.screen; out = before };
    } in
    let f : Finishes p c.args.studio main left vault c.new-desk.result c.finish_exports.new.desk over = record {
      studio_is = c.new-desk.ensures.studio;
      pass_is = c.new-desk.ensures.pass;
      finishes = c.finish_exports.ensures.carried;
      over_is = c.into_pass-main.ensures.pass;
      knows = c.into_pass-main.ensures.knows;
    } in
    let finishes = finishes_over p c.args.studio main left vault c.new-desk.result c.finish_exports.new.desk over f in
    let e : EndsTogether p c.args.studio main left vault journal = record {
      over = over;
      knows = knows_over p c.args.studio main left vault c.new-desk.result c.finish_exports.new.desk over f;
      finishes = finishes;
      closes = record {
        known = c.close-journal.ensures.known;
        extends = c.close-journal.ensures.extends;
        main_is = c.close-journal.ensures.main;
        joined = c.close-journal.ensures.joined;
        others = c.close-journal.ensures.others;
      };
      idle = c.finish_exports.ensures.idle;
    } in
    let first = ap (λ (x : PassOf (BoardOf g.row.M.Denot)). x.number) c.requires.first in
    let said : SaysRest g.O.Sink.tells before after (flat_map (entry_lines clips) journal) (c.said_by.result, c.say_rest-said.result) =
    subst (λ (es : List Entry). SaysRest g.O.Sink.tells before after (flat_map (entry_lines clips) es) (c.said_by.result, c.say_rest-said.result)) c.as_slice.ensures c.say_rest-said.ensures.says in
    ran_together p c.args.studio old mid played.result.1.result played.result.1.is_silenced played.ensures vault journal e
    first (ap (λ (x : PassOf (BoardOf g.row.M.Denot)). x.seen) c.requires.first)
    (ap (λ (x : FixedOf g.row.M.Denot (KeptOf g.row.M.Denot)). x.number) finishes.1.hears.fixed ∙ played.ensures.number ∙ first)
    after c.say_rest-said.result c.final_status.result c.requires.first c.requires.script.said.exports
    (subst (λ (one : Result (Unit {0}) PutFault). SaysRest g.O.Sink.tells before after (flat_map (entry_lines clips) journal) (one, c.say_rest-said.result)) c.said_by.ensures said)
    c.say_rest-said.ensures.later
    (c.final_status.ensures ∙ ap (λ (es : List Entry). final_status c.say_rest-said.result (stop_in played.result.1.result) (flat_map entry_endings es)) c.as_slice-2.ensures)
