-- What a thread takes with it and what it leaves may go to another thread.
use mathlib.Core.List.{[], ◌∷◌}
use mir.Syntax.{Sym, Lifetime}
use base.Fml.{Lft}
use denote.RattleType.{RattleType}
use denote.Ref.{ShrRef}
use denote.Struct.Field.{row_field, u8-field}
use denote.Struct.Tuple.{TupleAt, type_at, tuple_name}
use denote.Param.Send.{IsSend, IsSync, sendable, shr_send}
use denote.Param.SendFields.{as_row_send, declared_send}
use Rattle.std.specs.contracts.alloc.Global as global
use Rattle.tl_model.specs.declared.media.Media as media
use Rattle.time_list.specs.declared.lane.Lane as lane
use Rattle.tl_model.proofs.name.Name.TheSendSync as name
use Rattle.tl_model.specs.contracts.name.Name as name_of
use Rattle.turn_lock.specs.contracts.pass.Pass as pass
use Rattle.studio.specs.contracts.shared.Shared as shared
use Rattle.studio.specs.contracts.studio.Studio as studio
use Rattle.studio.proofs.Crossing.{pass_send, studio_sync}

-- a value of two parts
pub two_send : (ν : Sym) (A B : RattleType) → IsSend A → IsSend B → IsSend (TupleAt ν (A ∷ B ∷ []))
two_send ν A B a b = declared_send (type_at ν (A ∷ B ∷ [])) (as_row_send (row_field A) a, (as_row_send (row_field B) b, tt))

five_send : (ν : Sym) (A B C D E : RattleType) → IsSend A → IsSend B → IsSend C → IsSend D → IsSend E
    → IsSend (TupleAt ν (A ∷ B ∷ C ∷ D ∷ E ∷ []))
five_send ν A B C D E a b c d e = declared_send (type_at ν (A ∷ B ∷ C ∷ D ∷ E ∷ [])) (
  as_row_send (row_field A) a,
  (
    as_row_send (row_field B) b,
    (
      as_row_send (row_field C) c,
      (as_row_send (row_field D) d, (as_row_send (row_field E) e, tt)),
    ),
  ),
)

abbrev pub u8 : RattleType
u8 = u8-field.row

module _ (M L : RattleType) (g : media.Ghosts M.Denot u8.Denot) (h : lane.Ghosts L.Denot) where
  abbrev pub pass_row : RattleType
  pass_row = pass.the_row (shared.the_row M L u8 g h)

  abbrev studio_row : RattleType
  studio_row = studio.the_row M L u8 g h

  -- a pass and the calls that were made with it
  abbrev pub called_row : RattleType → RattleType
  called_row calls = TupleAt (tuple_name 2) (pass_row ∷ calls ∷ [])

module _ (M L : RattleType) (g : media.Ghosts M.Denot u8.Denot) (h : lane.Ghosts L.Denot) (l : IsSend L) where
  -- the handle, the allocator, the studio, the name, and the passes that it calls as
  pub captures_send : (ν : Sym) (R E : RattleType) (ℓ m n : Lifetime) (κ ρ μ : Lft) → IsSync R → IsSync M → IsSend E
      → IsSend (TupleAt ν (ShrRef ℓ κ R ∷ global.the_row ∷ ShrRef m ρ (studio_row M L g h) ∷ ShrRef n μ name_of.the_row ∷ E ∷ []))
  captures_send ν R E ℓ m n κ ρ μ r y e =
      five_send ν (ShrRef ℓ κ R) global.the_row (ShrRef m ρ (studio_row M L g h)) (ShrRef n μ name_of.the_row) E
      (shr_send ℓ κ R r) (search sendable depth 20)
      (shr_send m ρ (studio_row M L g h) (studio_sync M L u8 g h (search sendable) (search sendable) l y))
      (shr_send n μ name_of.the_row name.the_sync) e

  pub one_pass : IsSend (pass_row M L g h)
  one_pass = pass_send M L u8 g h (search sendable) (search sendable) l

  pub called_send : (calls : RattleType) → IsSend calls → IsSend (called_row M L g h calls)
  called_send calls c = two_send (tuple_name 2) (pass_row M L g h) calls one_pass c
