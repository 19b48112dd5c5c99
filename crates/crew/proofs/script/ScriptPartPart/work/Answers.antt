use Rattle.studio.specs.Known.{desk_at}
use Rattle.play_head.specs.Playing.{player}
use Rattle.crew.proofs.script.ScriptPartPart.work.Goals as goal

pub stop_by-requires-clause-once : goal.stop_by-requires-clause-once
stop_by-requires-clause-once g c =
    let left = c.play_script-playback.new in
    c.requires.4
    (player (desk_at left.desk.studio left.desk.pass) (g.T.Store.seen left.store) (g.S.Sink.seen left.screen) (g.O.Sink.seen left.out))
    (c.play_script-playback.result.result, c.play_script-playback.result.is_silenced) c.known.ensures c.play_script-playback.ensures
