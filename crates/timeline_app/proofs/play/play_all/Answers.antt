use Rattle.play_head.specs.Playing.{player}
use Rattle.play_head.specs.PlayingScript.{setting_of}
use Rattle.timeline_app.proofs.Unstopped.{script_goes}
use Rattle.timeline_app.proofs.play.play_all.Goals as goal

pub stop-requires : goal.stop-requires
stop-requires g c =
    let goes = script_goes (setting_of g.D.Lib.Media.library c.args.clips.now c.args.script.now.rate (g.T.Store.seen c.args.store.now).file (record { store = g.T.Store.tells; screen = g.S.Sink.tells; out = g.O.Sink.tells }))
    (player (g.D.Desk.desk c.args.desk.now) (g.T.Store.seen c.args.store.now) (g.S.Sink.seen c.args.screen.now) (g.O.Sink.seen c.args.out.now))
    (player (g.D.Desk.desk c.play_script-playback.new.desk) (g.T.Store.seen c.play_script-playback.new.store) (g.S.Sink.seen c.play_script-playback.new.screen) (g.O.Sink.seen c.play_script-playback.new.out))
    c.args.script.now.body c.play_script-playback.result.result c.play_script-playback.result.is_silenced c.requires.main c.requires.fresh c.known.ensures c.play_script-playback.ensures in
    record { main = goes.number; once = goes.going }
