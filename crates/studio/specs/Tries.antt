-- What a call that doesn't wait is answered.
use Rattle.std.specs.Prelude.{◌≡◌, ◌%◌}
use Rattle.turn_lock.specs.Passes.{PassOf, IsTurnedAway}
use Rattle.studio.specs.declared.tries.Try.{Try}
use Rattle.studio.specs.declared.tries.Try.TheVariants as tried

-- The word that was read was even, and the call was made; or it was odd, half of it is told, and what the call would have spent
-- comes back.
abbrev pub Tries : {B A S : Type 0} → (old new : PassOf B) → S → Try A S → (A → Type 0) → Type 0
Tries old new spent (tried.Done answer) told = (new.word % 2 ≡ 0) × told answer
Tries old new spent (tried.Busy seen back) told = IsTurnedAway old new seen × (back ≡ spent)
