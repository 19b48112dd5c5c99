-- What a call of a desk adds to what its caller has heard.
use Rattle.std.specs.Prelude.{ℕ, [], ◌∷◌, Result, Ok, Err}
use Rattle.tl_model.specs.Media.{Library}
use Rattle.render_core.specs.declared.reply.Full.{Full}
use Rattle.render_core.specs.Step.{need}
use Rattle.edit_desk.specs.Desk.{DeskOf, ActAs, Hears, IsFull, state_of}

module _ {M K F : Type 0} where
  -- A refused call adds nothing, and has its cause: the entries that it needs don't fit, or memory ran out.
  abbrev pub Refused : (M → Library F) → (old new : DeskOf M K) (count : ℕ) → Full → Type 0
  Refused library old new count why = Hears library old new [] × IsFull library new count why

  -- An answered call adds itself and what it was told.
  abbrev pub Hears1 : {R : Type 0} → (M → Library F) → (old new : DeskOf M K) → ActAs R F → R → Type 0
  Hears1 library old new call given =
      Hears library old new (record { pass = old.fixed.number; act = call.act; told = call.view given } ∷ [])

  abbrev pub Calls : {R : Type 0} → (M → Library F) → (old new : DeskOf M K) → ActAs R F → Result R Full → Type 0
  Calls library old new call (Ok given) = Hears1 library old new call given
  Calls library old new call (Err why) = Refused library old new (need call.act (state_of library new)) why
