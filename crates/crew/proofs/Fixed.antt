-- What no part changes of its desk.
use Rattle.std.proofs.Common.{◌≡◌, Bool, true, false, List, Result, Ok, Err, ap, ◌∙◌}
use Rattle.tl_model.specs.Media.{Library}
use Rattle.edit_desk.specs.Desk.{DeskOf, FixedOf}
use Rattle.script_lang.specs.declared.script.BodyLine.{BodyLine}
use Rattle.play_head.specs.declared.stop.Stop.{Stop}
use Rattle.play_head.specs.Playing.{Setting, Player}
use Rattle.play_head.specs.PlayingScript.{PlaysScript}
use Rattle.render_pool.specs.declared.end.WorkEnd.{WorkEnd}
use Rattle.render_pool.specs.declared.end.WorkEnd.TheVariants as end
use Rattle.render_pool.specs.Working.{WorksTurn, WorksUntilStopped}
use Rattle.crew.specs.Scripts.{PlaysAndStops}

module _ {M K F : Type 0} (library : M → Library F) where
  turn_fixed : (old new : DeskOf M K) (last : WorkEnd) → WorksTurn library old new last → new.fixed ≡ old.fixed
  turn_fixed old new (end.Filed job) h = h.hears.fixed
  turn_fixed old new (end.Closed job at) h = h.hears.fixed
  turn_fixed old new (end.Released job) h = h.hears.fixed
  turn_fixed old new (end.Idle len) h = h.0.fixed
  turn_fixed old new (end.Stopped len) h = h.0.fixed
  turn_fixed old new (end.JournalFull len owing) h = h.0.fixed
  turn_fixed old new end.NoMemory h = h.0.fixed

  pub worker_fixed : (old new : DeskOf M K) (last : WorkEnd) → WorksUntilStopped library old new last → new.fixed ≡ old.fixed
  worker_fixed old new last h = turn_fixed h.0.between new last h.0.works ∙ h.0.hears.fixed

module _ {M K F : Type 0} (s : Setting M F) where
  script_fixed : (old new : Player M K) (body : List BodyLine) (r : Result Unit Stop) (silenced : Bool) → PlaysScript s old new body (r, silenced) → new.desk.fixed ≡ old.desk.fixed
  script_fixed old new body (Ok done) false h = h.hears.fixed
  script_fixed old new body (Ok done) true h = absurd h
  script_fixed old new body (Err what) silenced h =
      ap (λ (d : DeskOf M K). d.fixed) h.only.desk ∙ (h.plays.part.hears.fixed ∙ h.plays.plays.hears.fixed)

  pub main_fixed : (old new : Player M K) (body : List BodyLine) (r : Result Unit Stop) (silenced : Bool) → PlaysAndStops s old new body (r, silenced) → new.desk.fixed ≡ old.desk.fixed
  main_fixed old new body r silenced h =
      (h.stops.fixed ∙ h.stops.learns.fixed) ∙ script_fixed old (record new { desk = h.played }) body r silenced h.plays
