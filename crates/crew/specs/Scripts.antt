-- What the main thread does over the desk of its pass: it plays a script, and stops the session.
use Rattle.std.specs.Prelude.{◌≡◌, false, List, Bool, Result}
use Rattle.tl_model.specs.Media.{Library}
use Rattle.tl_model.specs.declared.journal.Act.TheVariants as act
use Rattle.render_core.specs.Step.{Silent}
use Rattle.edit_desk.specs.Desk.{DeskOf, IsDesk, Enters, state_of}
use Rattle.script_lang.specs.declared.script.BodyLine.{BodyLine}
use Rattle.play_head.specs.declared.stop.Stop.{Stop}
use Rattle.play_head.specs.Playing.{Setting, Player}
use Rattle.play_head.specs.PlayingScript.{PlaysScript}

module _ {M K F : Type 0} (s : Setting M F) where
  -- However the body is played from here on, the session isn't stopped after it.
  abbrev pub GoesOnAfter : Player M K → List BodyLine → Type 0
  GoesOnAfter old body = (new : Player M K) (ended : Result Unit Stop × Bool) → IsDesk s.library new.desk → PlaysScript s old new body ended
      → (state_of s.library new.desk).is_stopped ≡ false

  -- The body is played, and then the session is stopped, which changes nothing else.
  pub record PlaysAndStops (old new : Player M K) (body : List BodyLine) (ended : Result Unit Stop × Bool) : Type 0 where
    pub played : DeskOf M K
    pub plays : PlaysScript s old (record new { desk = played }) body ended
    pub stops : Enters s.library played new.desk act.Stop Silent
