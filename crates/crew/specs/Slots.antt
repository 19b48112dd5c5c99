-- What is at a task's place, before and after it is done.
use Rattle.std.specs.Prelude.{◌≡◌, ◌<◌, ℕ, List, length, slice_index_or}
use Rattle.crew.specs.declared.task.Slot.{Slot}
use Rattle.crew.specs.declared.task.Slot.TheVariants as slot

module _ {T A : Type 0} where
  -- A task that is there can be done.
  abbrev pub IsReady : Slot T A → (T → Type 0) → Type 0
  IsReady (slot.Ready task) can = can task
  IsReady (slot.Done answer) can = Unit {0}
  IsReady slot.Empty can = Unit {0}

  -- The task was done.
  abbrev pub IsDone : Slot T A → Type 0
  IsDone (slot.Ready task) = ⊥
  IsDone (slot.Done answer) = Unit {0}
  IsDone slot.Empty = ⊥

  -- The task was done, and its answer is there. A slot without a task stays as it was.
  abbrev pub Runs : (old new : Slot T A) → (T → A → Type 0) → Type 0
  Runs (slot.Ready task) (slot.Done answer) gives = gives task answer
  Runs (slot.Ready task) (slot.Ready other) gives = ⊥
  Runs (slot.Ready task) slot.Empty gives = ⊥
  Runs (slot.Done answer) new gives = new ≡ slot.Done answer
  Runs slot.Empty new gives = new ≡ slot.Empty

  -- The same of each slot of a list.
  abbrev pub AreReady : List (Slot T A) → (T → Type 0) → Type 0
  AreReady slots can = (i : ℕ) (other : Slot T A) → i < length slots → IsReady (slice_index_or slots i other) can

  abbrev pub AllRun : (old new : List (Slot T A)) → (T → A → Type 0) → Type 0
  AllRun old new gives = (length new ≡ length old)
      × ((i : ℕ) (other : Slot T A) → i < length old → Runs (slice_index_or old i other) (slice_index_or new i other) gives)
