-- A part with its pass may go to another thread, and so may what it leaves.
use mathlib.Core.List.{[], ◌∷◌}
use mir.Syntax.{Sym}
use denote.RattleType.{RattleType}
use denote.Ref.{NamedLft, ShrRef}
use denote.Struct.Field.{row_field, shr_ref_field}
use denote.Struct.Tuple.{TupleAt, type_at}
use denote.Param.Send.{IsSend, IsSync, shr_send}
use denote.Param.SendFields.{as_row_send, declared_send}
use Rattle.tl_model.specs.declared.media.Media as media
use Rattle.time_list.specs.declared.lane.Lane as lane
use Rattle.turn_lock.specs.contracts.pass.Pass as pass
use Rattle.studio.specs.contracts.shared.Shared as shared
use Rattle.studio.specs.contracts.studio.Studio as studio
use Rattle.studio.proofs.Crossing.{pass_send, studio_sync}
use Rattle.crew.specs.contracts.seat.Seat as seat

module _ {R M L P F A : RattleType} (g : media.Ghosts M.Denot F.Denot) (h : lane.Ghosts L.Denot) (r : IsSync R) (m : IsSync M) (l : IsSend L) (p : IsSend P) (s : IsSend F) (y : IsSync F) (a : IsSend A) where
  pub seat_send : (at : NamedLft) → IsSend (seat.the_row at R M L P F A g h)
  seat_send at = declared_send (seat.the_type at R M L P F A g h) (
    as_row_send (row_field (ShrRef at.mir at.lft R)) (shr_send at.mir at.lft R r),
    (
      as_row_send (shr_ref_field at (studio.the_row M L F g h) tt) (shr_send at.mir at.lft (studio.the_row M L F g h) (studio_sync M L F g h s y l m)),
      (pass_send M L F g h s y l, (as_row_send (row_field P) p, tt)),
    ),
  )

  pub left_send : (name : Sym) → IsSend (TupleAt name (pass.the_row (shared.the_row M L F g h) ∷ A ∷ []))
  left_send name = declared_send (type_at name (pass.the_row (shared.the_row M L F g h) ∷ A ∷ []))
      (as_row_send (row_field (pass.the_row (shared.the_row M L F g h))) (pass_send M L F g h s y l), (as_row_send (row_field A) a, tt))
