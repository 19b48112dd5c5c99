-- What main knows of the passes that it joined.
use Rattle.std.specs.Prelude.{◌≡◌, ◌≢◌, Contains}
use Rattle.tl_model.specs.Media.{Library}
use Rattle.turn_lock.specs.declared.view.Joined.{Joined}
use Rattle.turn_lock.specs.Entries.{IsFront}
use Rattle.turn_lock.specs.Passes.{TurnOf, PassOf, named_by}
use Rattle.render_core.specs.Board.{BoardOf}
use Rattle.studio.specs.Known.{Knows}
use Rattle.crew.specs.declared.task.Slot.{Slot}
use Rattle.crew.specs.declared.task.Slot.TheVariants as slot

module _ {M : Type 0} where
  -- It has seen all that this pass had, and names it with its entries.
  pub record HasIn (main pass : PassOf (BoardOf M)) : Type 0 where
    pub front : IsFront pass.seen main.seen
    pub named : Contains main.joined (named_by pass)

  -- The same of the pass that a slot's task gave back.
  abbrev pub IsIn : {T A : Type 0} → (main : PassOf (BoardOf M)) → Slot T (PassOf (BoardOf M) × A) → Type 0
  IsIn main (slot.Ready task) = ⊥
  IsIn main (slot.Done back) = HasIn main back.0
  IsIn main slot.Empty = ⊥

  module _ {F : Type 0} (library : M → Library F) (studio : TurnOf (BoardOf M)) where
    -- Main is who it was, has its own entries, and has seen and joined no less.
    pub record Stays (old new : PassOf (BoardOf M)) : Type 0 where
      pub knows : Knows library studio new
      pub number : new.number ≡ old.number
      pub made : new.made ≡ old.made
      pub own : new.own ≡ old.own
      pub extends : IsFront old.seen new.seen
      pub keeps : (ended : Joined) → Contains old.joined ended → Contains new.joined ended

    -- A slot's task gave back a pass that isn't main's.
    abbrev pub GaveBack : {T A : Type 0} → Slot T (PassOf (BoardOf M) × A) → Type 0
    GaveBack (slot.Ready task) = ⊥
    GaveBack (slot.Done back) = Knows library studio back.0 × (back.0.number ≢ 0)
    GaveBack slot.Empty = ⊥
