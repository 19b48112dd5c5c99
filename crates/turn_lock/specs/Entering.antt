-- What a call that tries to enter answers.
use Rattle.std.specs.Prelude.{ℕ}
use Rattle.turn_lock.specs.declared.pass.Held.{Held}
use Rattle.turn_lock.specs.declared.pass.Entered.{Entered}
use Rattle.turn_lock.specs.declared.pass.Entered.TheVariants as entered
use Rattle.turn_lock.specs.Passes.{PassOf}

module _ {B : Type 0} where
  -- the pass that entered, as it was then
  abbrev pub entered_by : Held B → PassOf B
  entered_by held = held.by.value

  abbrev pub IfIn : Entered B → (Held B → Type 0) → Type 0
  IfIn (entered.In held) P = P held
  IfIn (entered.Busy seen) P = Unit {0}

  abbrev pub IfBusy : Entered B → (ℕ → Type 0) → Type 0
  IfBusy (entered.In held) P = Unit {0}
  IfBusy (entered.Busy seen) P = P seen
