-- What a part leaves of the pass that it was given.
use Rattle.std.specs.Prelude.{◌≡◌}
use Rattle.tl_model.specs.Media.{Library}
use Rattle.turn_lock.specs.Passes.{TurnOf, PassOf}
use Rattle.render_core.specs.Board.{BoardOf}
use Rattle.studio.specs.Known.{AtPassOf, Knows}

-- the desk of a pass
abbrev pub desk_of : {M : Type 0} → TurnOf (BoardOf M) → PassOf (BoardOf M) → AtPassOf M
desk_of studio pass = record { studio = studio; pass = pass }

-- The pass knows what it has seen, and is who it was.
pub record KnowsAs {M F : Type 0} (library : M → Library F) (studio : TurnOf (BoardOf M)) (old new : PassOf (BoardOf M)) : Type 0 where
  pub knows : Knows library studio new
  pub number : new.number ≡ old.number
  pub made : new.made ≡ old.made
  pub joined : new.joined ≡ old.joined
