use Rattle.std.proofs.Common.{List, Ok, false, sym, subst, arith}
use Rattle.script_lang.specs.declared.script.BodyLine.{BodyLine}
use Rattle.script_lang.specs.ScriptSound.{AreCalls}
use Rattle.play_head.specs.Playing.{player}
use Rattle.play_head.specs.PlayingScript.{PlaysScript, setting_of, tells_of}
use Rattle.play_head.proofs.Bodies.{body_next, body_stops, body_ends, call_here, part_stored}
use Rattle.play_head.proofs.Growing.{lines_none}
use Rattle.play_head.proofs.body.play_script.Goals as goal

pub loop-line-init : goal.loop-line-init
loop-line-init g c =
    lines_none (setting_of g.D.Lib.Media.library c.args.clips.now c.args.script.now.rate (g.T.Store.seen c.args.store.now).file (tells_of g.T.Store.tells g.S.Sink.tells g.O.Sink.tells))
    (player (g.D.Desk.desk c.args.desk.now) (g.T.Store.seen c.args.store.now) (g.S.Sink.seen c.args.screen.now) (g.O.Sink.seen c.args.out.now))

pub play_line-requires-clause-call : goal.play_line-requires-clause-call
play_line-requires-clause-call g c =
    call_here c.as_slice-line-items.result.now c.loop-line.line-index c.line-item.result (omega arith) c.line-item.is
    (subst AreCalls (sym c.as_slice-line-items.ensures) c.requires.script.said.calls)

pub loop-line-preserved : goal.loop-line-preserved
loop-line-preserved g c =
    body_next g.D.Lib.Media.library c.args.clips.now c.args.script.now.rate (tells_of g.T.Store.tells g.S.Sink.tells g.O.Sink.tells)
    (player (g.D.Desk.desk c.args.desk.now) (g.T.Store.seen c.args.store.now) (g.S.Sink.seen c.args.screen.now) (g.O.Sink.seen c.args.out.now))
    (player (g.D.Desk.desk c.loop-line.desk) (g.T.Store.seen c.loop-line.store) (g.S.Sink.seen c.loop-line.screen) (g.O.Sink.seen c.loop-line.out))
    (player (g.D.Desk.desk c.play_line.new.desk) (g.T.Store.seen c.play_line.new.store) (g.S.Sink.seen c.play_line.new.screen) (g.O.Sink.seen c.play_line.new.out))
    c.as_slice-line-items.result.now c.loop-line.line-index c.line-item.result (omega arith) c.line-item.is c.loop-line.invariant c.in-Ok.ensures

pub stop_script-requires : goal.stop_script-requires
stop_script-requires g c =
    part_stored g.D.Lib.Media.library c.args.clips.now c.args.script.now.rate (tells_of g.T.Store.tells g.S.Sink.tells g.O.Sink.tells)
    (g.T.Store.seen c.loop-line.store).file
    (player (g.D.Desk.desk c.loop-line.desk) (g.T.Store.seen c.loop-line.store) (g.S.Sink.seen c.loop-line.screen) (g.O.Sink.seen c.loop-line.out))
    (player (g.D.Desk.desk c.play_line.new.desk) (g.T.Store.seen c.play_line.new.store) (g.S.Sink.seen c.play_line.new.screen) (g.O.Sink.seen c.play_line.new.out))
    c.line-item.result c.in-Err.why c.in-Err.ensures

pub returns-in-Err : goal.returns-in-Err
returns-in-Err g c =
    subst (λ (body : List BodyLine). PlaysScript (setting_of g.D.Lib.Media.library c.args.clips.now c.args.script.now.rate (g.T.Store.seen c.args.store.now).file (tells_of g.T.Store.tells g.S.Sink.tells g.O.Sink.tells))
    (player (g.D.Desk.desk c.args.desk.now) (g.T.Store.seen c.args.store.now) (g.S.Sink.seen c.args.screen.now) (g.O.Sink.seen c.args.out.now))
    (player (g.D.Desk.desk c.play_line.new.desk) (g.T.Store.seen c.play_line.new.store) (g.S.Sink.seen c.play_line.new.screen) (g.O.Sink.seen c.stop_script.new.out))
    body (c.stop_script.result.result, c.stop_script.result.is_silenced)) c.as_slice-line-items.ensures
    (body_stops g.D.Lib.Media.library c.args.clips.now c.args.script.now.rate (tells_of g.T.Store.tells g.S.Sink.tells g.O.Sink.tells)
    (player (g.D.Desk.desk c.args.desk.now) (g.T.Store.seen c.args.store.now) (g.S.Sink.seen c.args.screen.now) (g.O.Sink.seen c.args.out.now))
    (player (g.D.Desk.desk c.loop-line.desk) (g.T.Store.seen c.loop-line.store) (g.S.Sink.seen c.loop-line.screen) (g.O.Sink.seen c.loop-line.out))
    (g.D.Desk.desk c.play_line.new.desk) (g.T.Store.seen c.play_line.new.store) (g.S.Sink.seen c.play_line.new.screen) (g.O.Sink.seen c.play_line.new.out) (g.O.Sink.seen c.stop_script.new.out)
    c.as_slice-line-items.result.now c.loop-line.line-index c.line-item.result c.in-Err.why c.stop_script.result.result c.stop_script.result.is_silenced
    (omega arith) c.line-item.is c.loop-line.invariant c.in-Err.ensures c.stop_script.ensures.stops c.stop_script.ensures.later)

pub returns : goal.returns
returns g c =
    subst (λ (body : List BodyLine). PlaysScript (setting_of g.D.Lib.Media.library c.args.clips.now c.args.script.now.rate (g.T.Store.seen c.args.store.now).file (tells_of g.T.Store.tells g.S.Sink.tells g.O.Sink.tells))
    (player (g.D.Desk.desk c.args.desk.now) (g.T.Store.seen c.args.store.now) (g.S.Sink.seen c.args.screen.now) (g.O.Sink.seen c.args.out.now))
    (player (g.D.Desk.desk c.loop-line.desk) (g.T.Store.seen c.loop-line.store) (g.S.Sink.seen c.loop-line.screen) (g.O.Sink.seen c.loop-line.out))
    body (Ok tt, false)) c.as_slice-line-items.ensures
    (body_ends g.D.Lib.Media.library c.args.clips.now c.args.script.now.rate (tells_of g.T.Store.tells g.S.Sink.tells g.O.Sink.tells)
    (player (g.D.Desk.desk c.args.desk.now) (g.T.Store.seen c.args.store.now) (g.S.Sink.seen c.args.screen.now) (g.O.Sink.seen c.args.out.now))
    (player (g.D.Desk.desk c.loop-line.desk) (g.T.Store.seen c.loop-line.store) (g.S.Sink.seen c.loop-line.screen) (g.O.Sink.seen c.loop-line.out))
    c.as_slice-line-items.result.now c.loop-line.line-index (omega arith) c.loop-line.invariant)
