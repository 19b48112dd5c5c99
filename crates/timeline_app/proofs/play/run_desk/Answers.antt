use Rattle.std.proofs.Common.{◌≡◌, List, Result, sym, ap, subst, ◌∙◌}
use Rattle.std.specs.List.{flat_map}
use Rattle.pic_planes.specs.Picture.{Image}
use Rattle.tl_model.specs.declared.journal.Entry.{Entry}
use Rattle.tl_ports.specs.declared.fault.PutFault.{PutFault}
use Rattle.play_head.specs.Playing.{player}
use Rattle.play_head.specs.PlayingScript.{setting_of}
use Rattle.timeline_app.specs.Course.{Program, Session, SaysRest}
use Rattle.timeline_app.specs.Ending.{entry_endings, entry_lines, final_status, stop_in}
use Rattle.timeline_app.proofs.Finished.{has_run}
use Rattle.timeline_app.proofs.play.run_desk.Goals as goal

pub returns : goal.returns
returns g c =
    let clips = c.args.clips.now in
    let played = c.play_all-playback.result in
    let before = g.O.Sink.seen c.play_all-playback.new.out in
    let after = g.O.Sink.seen c.say_rest-said.new.out in
    let p : Program g.row.M.Denot Image = record {
      setting = setting_of g.M.Media.library clips c.args.script.now.rate (g.T.Store.seen c.args.store.now).file (record { store = g.T.Store.tells; screen = g.S.Sink.tells; out = g.O.Sink.tells });
      vault_tells = g.V.Vault.tells;
      others = 0;
      body = c.args.script.now.body;
    } in
    let old : Session g.row.M.Denot (Unit {0}) = record {
      player = player c.args.desk (g.T.Store.seen c.args.store.now) (g.S.Sink.seen c.args.screen.now) (g.O.Sink.seen c.args.out.now);
      vault = g.V.Vault.seen c.args.vault.now;
    } in
    let mid : Session g.row.M.Denot (Unit {0}) = record {
      player = player c.play_all-playback.new.desk (g.T.Store.seen c.play_all-playback.new.store) (g.S.Sink.seen c.play_all-playback.new.screen) before;
      vault = g.V.Vault.seen c.play_all-playback.new.vault;
    } in
    let said : SaysRest g.O.Sink.tells before after (flat_map (entry_lines clips) c.finish-journal.result) (c.said_by.result, c.say_rest-said.result) =
    subst (λ (es : List Entry). SaysRest g.O.Sink.tells before after (flat_map (entry_lines clips) es) (c.said_by.result, c.say_rest-said.result)) c.as_slice.ensures c.say_rest-said.ensures.says in
    has_run p old mid played.result played.is_silenced
    (record {
      number = c.requires.main;
      fresh = c.requires.fresh;
      distinct = c.requires.script.said.exports;
      plays = c.play_all-playback.ensures;
      known = c.finish-journal.ensures.known;
      own = c.finish-journal.ensures.own;
    })
    c.finish-journal.result c.say_rest-said.result after c.final_status.result c.finish-journal.ensures.journal
    (subst (λ (one : Result (Unit {0}) PutFault). SaysRest g.O.Sink.tells before after (flat_map (entry_lines clips) c.finish-journal.result) (one, c.say_rest-said.result)) c.said_by.ensures said)
    c.say_rest-said.ensures.later
    (c.final_status.ensures ∙ ap (λ (es : List Entry). final_status c.say_rest-said.result (stop_in played.result) (flat_map entry_endings es)) c.as_slice-2.ensures)
