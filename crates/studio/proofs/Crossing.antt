-- A board behind the turn may go to another thread, as its pictures and its timeline may.
use denote.RattleType.{RattleType}
use denote.Struct.Field.{row_field}
use denote.Param.Send.{IsSend, IsSync, sendable, view_send, view_sync}
use denote.Param.SendFields.{as_row_sync, declared_send, declared_sync}
use Rattle.std.proofs.Crossing.{crosses, Vec-send}
use Rattle.std.proofs.option.Option.TheSendSync as option
use Rattle.tl_model.specs.declared.media.Media as media
use Rattle.tl_model.specs.contracts.rendered.Rendered as rendered
use Rattle.tl_model.specs.contracts.journal.Entry as entry_of
use Rattle.tl_model.proofs.journal.Entry.TheSendSync as entry
use Rattle.time_list.specs.declared.lane.Lane as lane
use Rattle.edit_undo.proofs.editor.Editor.TheSendSync as editor
use Rattle.render_core.proofs.export.Waiting.TheSendSync as waiting
use Rattle.render_core.proofs.export.Stage.TheSendSync as stage
use Rattle.render_core.proofs.jobs.Jobs.TheSendSync as jobs
use Rattle.render_core.specs.contracts.results.Results as results
use Rattle.render_core.specs.contracts.export.Waiting as waiting_of
use Rattle.render_core.specs.contracts.export.Export as export
use Rattle.render_core.specs.contracts.export.Export.TheInside as export_inside
use Rattle.render_core.specs.contracts.export.Exports as exports
use Rattle.render_core.specs.contracts.export.Exports.TheInside as exports_inside
use Rattle.render_core.specs.contracts.machine.Machine as machine
use Rattle.render_core.specs.contracts.machine.Machine.TheInside as machine_inside
use Rattle.render_core.specs.contracts.board.Board as board
use Rattle.render_core.specs.contracts.board.Board.TheInside as board_inside
use Rattle.turn_lock.specs.contracts.pass.Pass as pass
use Rattle.turn_lock.proofs.pass.Pass.TheSendSync as pass_of
use Rattle.turn_lock.proofs.turn.Turn.TheSendSync as turn_of
use Rattle.studio.specs.contracts.shared.Shared as shared
use Rattle.studio.specs.contracts.studio.Studio as studio
use Rattle.studio.specs.contracts.studio.Studio.TheInside as studio_inside
use Rattle.studio.specs.contracts.shared.Shared.TheInside as shared_inside

waits : IsSend waiting_of.the_row
waits = waiting.the_send

export_send : IsSend export.the_row
export_send = view_send _ _ _ _ _ (declared_send export_inside.the_type (search crosses depth 5, (option.the_send _ waits, (stage.the_send, tt))))

exports_send : IsSend exports.the_row
exports_send = view_send _ _ _ _ _ (declared_send exports_inside.the_type (Vec-send _ export_send, tt))

module _ (M F : RattleType) (g : media.Ghosts M.Denot F.Denot) (s : IsSend F) (y : IsSync F) where
  rendered_send : IsSend (rendered.the_row M F g)
  rendered_send = search (sendable, crosses) depth 40

  results_send : IsSend (results.the_row M F g)
  results_send = search (sendable, crosses, rendered_send) depth 20

module _ (M L F : RattleType) (g : media.Ghosts M.Denot F.Denot) (h : lane.Ghosts L.Denot) (s : IsSend F) (y : IsSync F) (l : IsSend L) where
  machine_send : IsSend (machine.the_row M L F g h)
  machine_send = view_send _ _ _ _ _ (declared_send (machine_inside.the_type M L F g h)
      (search crosses depth 5, (editor.the_send L h l, (jobs.the_send, (results_send M F g s y, (exports_send, (search sendable depth 5, (search sendable depth 5, tt))))))))

  board_send : IsSend (board.the_row M L F g h)
  board_send = view_send _ _ _ _ _ (declared_send (board_inside.the_type M L F g h)
      (machine_send, (Vec-send entry_of.the_row entry.the_send, (search sendable depth 5, (search sendable depth 5, tt)))))

  pub shared_send : IsSend (shared.the_row M L F g h)
  shared_send = view_send _ _ _ _ _ (declared_send (shared_inside.the_type M L F g h) (board_send, tt))

module _ (M L F : RattleType) (g : media.Ghosts M.Denot F.Denot) (h : lane.Ghosts L.Denot) (s : IsSend F) (y : IsSync F) (l : IsSend L) where
  pub pass_send : IsSend (pass.the_row (shared.the_row M L F g h))
  pass_send = pass_of.the_send _ (shared_send M L F g h s y l)

  pub studio_sync : IsSync M → IsSync (studio.the_row M L F g h)
  studio_sync m = view_sync _ _ _ _ _ (declared_sync (studio_inside.the_type M L F g h) (as_row_sync (row_field M) m, (turn_of.the_sync _ _ (shared_send M L F g h s y l), tt)))
