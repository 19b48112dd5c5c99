-- What the tests' helpers do to a pass.
use Rattle.std.specs.Prelude.{◌≡◌}
use Rattle.turn_lock.specs.Passes.{PassOf}

-- at most what it has seen, its own entries and the word of its last take change
abbrev pub AddsAlone : {B : Type 0} → (before after : PassOf B) → Type 0
AddsAlone before after = after ≡ record before { seen = after.seen; own = after.own; word = after.word }
