-- Calls that fail by their numbers.
use Rattle.std.specs.Prelude.{◌≡◌, ℕ, ◌+◌, ◌-◌, ◌/◌, ◌^◌, min, List, ◌++◌, length, take, Contains, Result, Ok, Err}
use Rattle.tl_ports.specs.declared.fault_plan.FaultPlan.{FaultPlan}
use Rattle.tl_ports.specs.declared.fault.PutFault.{PutFault}
use Rattle.tl_ports.specs.declared.fault.PutFault.TheVariants as putting

-- The next call is one of those that are to fail.
abbrev pub FailsNext : FaultPlan → Type 0
FailsNext plan = Contains plan.fail.items plan.next

-- One call was made: the number of the next is one more, and the same calls are to fail.
pub record CountsCall (old new : FaultPlan) : Type 0 where
  pub next : new.next ≡ min (old.next + 1) (2 ^ 64 - 1)
  pub fail : new.fail.items ≡ old.fail.items

-- One fault more: the count stops at the last value of a 64-bit counter.
abbrev pub one_more : ℕ → ℕ
one_more count = min (count + 1) (2 ^ 64 - 1)

-- The call is a fault exactly where it is one of those that are to fail.
pub record CountsFault (old new : FaultPlan) : Type 0 where
  pub rose : FailsNext old → new.faults ≡ one_more old.faults
  pub calm : (FailsNext old → ⊥) → new.faults ≡ old.faults

-- No call was made yet, and those of these numbers are to fail.
pub record IsFresh (plan : FaultPlan) (numbers : List ℕ) : Type 0 where
  pub next : plan.next ≡ 1
  pub fail : plan.fail.items ≡ numbers
  pub faults : plan.faults ≡ 0

-- A call that is to fail adds the first half of the piece, and any other the whole; where memory runs out nothing is added.
abbrev pub PutsByPlan : (fails : Type 0) (before after piece : List ℕ) → Result Unit PutFault → Type 0
PutsByPlan fails before after piece (Ok done) = (fails → ⊥) × (after ≡ before ++ piece)
PutsByPlan fails before after piece (Err putting.Failed) = fails × (after ≡ before ++ take (length piece / 2) piece)
PutsByPlan fails before after piece (Err putting.NoMemory) = after ≡ before

-- It is a fault exactly where it answers `Failed`.
abbrev pub CountsPut : (before now : ℕ) → Result Unit PutFault → Type 0
CountsPut before now (Ok done) = now ≡ before
CountsPut before now (Err putting.Failed) = now ≡ one_more before
CountsPut before now (Err putting.NoMemory) = now ≡ before
