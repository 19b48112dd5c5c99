-- What a call of a board leaves of it.
use Rattle.std.specs.Prelude.{◌≡◌, ℕ}
use Rattle.turn_lock.specs.Entries.{Adds}
use Rattle.render_core.specs.Board.{BoardOf}
use Rattle.edit_desk.specs.Alone.{desk_of}

-- The library and the limits stay, and the journal gains entries of this number alone.
pub record Grows {M : Type 0} (number : ℕ) (old new : BoardOf M) : Type 0 where
  pub fixed : (desk_of new).fixed ≡ (desk_of old).fixed
  pub adds : Adds number old.journal new.journal
