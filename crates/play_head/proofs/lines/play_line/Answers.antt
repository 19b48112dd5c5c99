use Rattle.std.proofs.Common.{[], ◌∷◌, Err, refl}
use Rattle.edl_text.specs.declared.fault.EdlFault.TheVariants as faults
use Rattle.play_head.specs.Playing.{player}
use Rattle.play_head.specs.PlayingScript.{setting_of, tells_of}
use Rattle.play_head.specs.Roll.{roll_calls}
use Rattle.script_lang.specs.declared.script.Call.TheVariants as call
use Rattle.tl_model.specs.declared.journal.Act.TheVariants as act
use Rattle.play_head.proofs.Asking.{asked_line, edit_found}
use Rattle.play_head.proofs.Lining.{acts_line}
use Rattle.play_head.proofs.Marking.{work_plays}
use Rattle.play_head.proofs.lines.play_line.Goals as goal

pub returns-in-Some : goal.returns-in-Some
returns-in-Some g c =
    let s = setting_of g.D.Lib.Media.library c.args.clips.now c.args.rate (g.T.Store.seen c.args.store.now).file (tells_of g.T.Store.tells g.S.Sink.tells g.O.Sink.tells) in
    let l = edit_found s c.args.line.now.call c.in-Some.change c.edit_for.result c.edit_for.ensures.edit c.in-Some.is in
    asked_line s (g.D.Desk.desk c.args.desk.now) (g.D.Desk.desk c.edit.new.desk) (g.T.Store.seen c.args.store.now) (g.S.Sink.seen c.args.screen.now) (g.O.Sink.seen c.args.out.now) (g.O.Sink.seen c.edit.new.out)
    c.args.line.now c.args.line.now.call (act.Edit c.in-Some.change) c.edit.result refl l.no_work l.reads l.acts tt c.edit.ensures

pub returns-in-Undo : goal.returns-in-Undo
returns-in-Undo g c =
    asked_line (setting_of g.D.Lib.Media.library c.args.clips.now c.args.rate (g.T.Store.seen c.args.store.now).file (tells_of g.T.Store.tells g.S.Sink.tells g.O.Sink.tells))
    (g.D.Desk.desk c.args.desk.now) (g.D.Desk.desk c.undo.new.desk) (g.T.Store.seen c.args.store.now) (g.S.Sink.seen c.args.screen.now) (g.O.Sink.seen c.args.out.now) (g.O.Sink.seen c.undo.new.out)
    c.args.line.now (call.Undo) (act.Undo) c.undo.result c.in-Undo.is tt tt refl tt c.undo.ensures

pub returns-in-Redo : goal.returns-in-Redo
returns-in-Redo g c =
    asked_line (setting_of g.D.Lib.Media.library c.args.clips.now c.args.rate (g.T.Store.seen c.args.store.now).file (tells_of g.T.Store.tells g.S.Sink.tells g.O.Sink.tells))
    (g.D.Desk.desk c.args.desk.now) (g.D.Desk.desk c.redo.new.desk) (g.T.Store.seen c.args.store.now) (g.S.Sink.seen c.args.screen.now) (g.O.Sink.seen c.args.out.now) (g.O.Sink.seen c.redo.new.out)
    c.args.line.now (call.Redo) (act.Redo) c.redo.result c.in-Redo.is tt tt refl tt c.redo.ensures

pub returns-in-Want : goal.returns-in-Want
returns-in-Want g c =
    asked_line (setting_of g.D.Lib.Media.library c.args.clips.now c.args.rate (g.T.Store.seen c.args.store.now).file (tells_of g.T.Store.tells g.S.Sink.tells g.O.Sink.tells))
    (g.D.Desk.desk c.args.desk.now) (g.D.Desk.desk c.want.new.desk) (g.T.Store.seen c.args.store.now) (g.S.Sink.seen c.args.screen.now) (g.O.Sink.seen c.args.out.now) (g.O.Sink.seen c.want.new.out)
    c.args.line.now (call.Want c.in-Want.first c.in-Want.len) (act.Want c.in-Want.first c.in-Want.len) c.want.result c.in-Want.is tt tt refl tt c.want.ensures

pub returns-in-Cancel : goal.returns-in-Cancel
returns-in-Cancel g c =
    asked_line (setting_of g.D.Lib.Media.library c.args.clips.now c.args.rate (g.T.Store.seen c.args.store.now).file (tells_of g.T.Store.tells g.S.Sink.tells g.O.Sink.tells))
    (g.D.Desk.desk c.args.desk.now) (g.D.Desk.desk c.cancel.new.desk) (g.T.Store.seen c.args.store.now) (g.S.Sink.seen c.args.screen.now) (g.O.Sink.seen c.args.out.now) (g.O.Sink.seen c.cancel.new.out)
    c.args.line.now (call.Cancel c.in-Cancel.first c.in-Cancel.len) (act.Cancel c.in-Cancel.first c.in-Cancel.len) c.cancel.result c.in-Cancel.is tt tt refl tt c.cancel.ensures

pub returns-in-Export : goal.returns-in-Export
returns-in-Export g c =
    asked_line (setting_of g.D.Lib.Media.library c.args.clips.now c.args.rate (g.T.Store.seen c.args.store.now).file (tells_of g.T.Store.tells g.S.Sink.tells g.O.Sink.tells))
    (g.D.Desk.desk c.args.desk.now) (g.D.Desk.desk c.ask.new.desk) (g.T.Store.seen c.args.store.now) (g.S.Sink.seen c.args.screen.now) (g.O.Sink.seen c.args.out.now) (g.O.Sink.seen c.ask.new.out)
    c.args.line.now (call.Export c.in-Export.file) (act.Ask c.in-Export.file) c.ask.result c.in-Export.is tt tt refl tt c.ask.ensures

pub returns-in-Play : goal.returns-in-Play
returns-in-Play g c =
    acts_line (setting_of g.D.Lib.Media.library c.args.clips.now c.args.rate (g.T.Store.seen c.args.store.now).file (tells_of g.T.Store.tells g.S.Sink.tells g.O.Sink.tells))
    (player (g.D.Desk.desk c.args.desk.now) (g.T.Store.seen c.args.store.now) (g.S.Sink.seen c.args.screen.now) (g.O.Sink.seen c.args.out.now))
    (player (g.D.Desk.desk c.play.new.desk) (g.T.Store.seen c.args.store.now) (g.S.Sink.seen c.play.new.screen) (g.O.Sink.seen c.play.new.out))
    c.args.line.now (call.Play c.in-Play.n) (Err faults.NoMemory) (act.Play c.in-Play.n ∷ []) c.play.result c.in-Play.is tt tt refl refl c.play.ensures

pub returns-in-Show : goal.returns-in-Show
returns-in-Show g c =
    acts_line (setting_of g.D.Lib.Media.library c.args.clips.now c.args.rate (g.T.Store.seen c.args.store.now).file (tells_of g.T.Store.tells g.S.Sink.tells g.O.Sink.tells))
    (player (g.D.Desk.desk c.args.desk.now) (g.T.Store.seen c.args.store.now) (g.S.Sink.seen c.args.screen.now) (g.O.Sink.seen c.args.out.now))
    (player (g.D.Desk.desk c.show.new.desk) (g.T.Store.seen c.args.store.now) (g.S.Sink.seen c.show.new.screen) (g.O.Sink.seen c.show.new.out))
    c.args.line.now (call.Show c.in-Show.n) (Err faults.NoMemory) (act.Show c.in-Show.n ∷ []) c.show.result c.in-Show.is tt tt refl refl c.show.ensures

pub returns-in-Roll : goal.returns-in-Roll
returns-in-Roll g c =
    acts_line (setting_of g.D.Lib.Media.library c.args.clips.now c.args.rate (g.T.Store.seen c.args.store.now).file (tells_of g.T.Store.tells g.S.Sink.tells g.O.Sink.tells))
    (player (g.D.Desk.desk c.args.desk.now) (g.T.Store.seen c.args.store.now) (g.S.Sink.seen c.args.screen.now) (g.O.Sink.seen c.args.out.now))
    (player (g.D.Desk.desk c.roll.new.desk) (g.T.Store.seen c.args.store.now) (g.S.Sink.seen c.roll.new.screen) (g.O.Sink.seen c.roll.new.out))
    c.args.line.now (call.Roll c.in-Roll.first c.in-Roll.len) (Err faults.NoMemory) (roll_calls c.in-Roll.first c.in-Roll.len) c.roll.result c.in-Roll.is tt tt refl refl c.roll.ensures

pub returns-in-Work : goal.returns-in-Work
returns-in-Work g c =
    work_plays (setting_of g.D.Lib.Media.library c.args.clips.now c.args.rate (g.T.Store.seen c.args.store.now).file (tells_of g.T.Store.tells g.S.Sink.tells g.O.Sink.tells))
    (g.D.Desk.desk c.args.desk.now) (g.D.Desk.desk c.work_line.new.desk) (g.T.Store.seen c.args.store.now) (g.S.Sink.seen c.args.screen.now) (g.O.Sink.seen c.args.out.now) (g.O.Sink.seen c.work_line.new.out)
    c.args.line.now c.in-Work.turns c.work_line.result c.in-Work.is c.work_line.ensures

pub returns-in-Edl : goal.returns-in-Edl
returns-in-Edl g c = c.list.ensures c.args.line.now (g.S.Sink.seen c.args.screen.now) g.S.Sink.tells c.in-Edl.is
