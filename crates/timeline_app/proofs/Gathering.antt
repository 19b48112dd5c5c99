-- The seats of workers: what is there once they worked, and once main joined their passes.
use Rattle.std.proofs.Common.{◌≡◌, ◌≢◌, ℕ, zero, suc, ◌+◌, ◌<◌, ◌≤◌, Bool, true, false, ltb, List, [], ◌∷◌, ◌++◌, length, refl, sym, ap, subst, ◌∙◌, arith}
use Rattle.std.specs.Prelude.{All, drop, slice_index_or, take}
use Rattle.std.specs.List.{refill}
use lib.Seq.{take-append_seam}
use Rattle.std.proofs.lemmas.List.{get_or_append_left, get_or_push, length_push}
use Rattle.tl_model.specs.Media.{Library}
use Rattle.turn_lock.specs.Passes.{TurnOf, PassOf}
use Rattle.render_core.specs.Board.{BoardOf}
use Rattle.studio.specs.Known.{Knows}
use Rattle.crew.specs.declared.seat.Seat.{Seat}
use Rattle.crew.specs.declared.task.Slot.{Slot}
use Rattle.crew.specs.declared.task.Slot.TheVariants as slot
use Rattle.crew.specs.Slots.{AllRun, AreReady, IsReady, Runs}
use Rattle.crew.specs.Joining.{GaveBack, HasIn, IsIn}
use Rattle.timeline_app.specs.Together.{AreDoneAs, AreReadyAs, HasWorked, IsDoneAs, IsFresh, IsReadyAs, MadeTurns}

-- what fills all the places of a list is what is there
pub refilled : {X : Type 0} (n : ℕ) (xs ws : List X) → length ws ≡ n → refill n xs ws ≡ ws
refilled {X} n xs ws e = subst (λ (k : ℕ). take k (ws ++ drop (length ws) xs) ≡ ws) e (take-append_seam ws (drop (length ws) xs))

two_more : (i : ℕ) → 2 + i ≡ suc (suc i)
two_more i = omega arith

module _ {T A : Type 0} where
  ran_as : (old new : Slot T A) (ready : T → Type 0) (gives : T → A → Type 0) (done : A → Type 0) → IsReadyAs old ready → Runs old new gives → ((task : T) (answer : A) → ready task → gives task answer → done answer) → IsDoneAs new done
  ran_as (slot.Ready task) (slot.Done answer) ready gives done h k f = f task answer h k
  ran_as (slot.Ready task) (slot.Ready other) ready gives done h k f = absurd k
  ran_as (slot.Ready task) slot.Empty ready gives done h k f = absurd k
  ran_as (slot.Done answer) new ready gives done h k f = absurd h
  ran_as slot.Empty new ready gives done h k f = absurd h

  -- each task was done, and has given what follows of it
  pub all_ran : (old new : List (Slot T A)) (ready : ℕ → T → Type 0) (gives : T → A → Type 0) (done : ℕ → A → Type 0) → AreReadyAs old ready → AllRun old new gives → ((number : ℕ) (task : T) (answer : A) → ready number task → gives task answer → done number answer) → AreDoneAs new done
  all_ran old new ready gives done h k f i other lt =
      let low : i < length old = subst (λ (n : ℕ). i < n) k.0 lt in
      ran_as (slice_index_or old i other) (slice_index_or new i other) (ready (2 + i)) gives (done (2 + i)) (h i other low) (k.1 i other low) (f (2 + i))

  ready_at : (slots : List (Slot T A)) (s other : Slot T A) (are : ℕ → T → Type 0) (i : ℕ) (b : Bool) → ltb i (length slots) ≡ b → i < length (slots ++ s ∷ []) → AreReadyAs slots are → IsReadyAs s (are (2 + length slots))
      → IsReadyAs (slice_index_or (slots ++ s ∷ []) i other) (are (2 + i))
  ready_at slots s other are i true e lt h k =
      let low : i < length slots = grind (arith, e) in
      subst (λ (x : Slot T A). IsReadyAs x (are (2 + i))) (sym (get_or_append_left slots (s ∷ []) other i low)) (h i other low)
  ready_at slots s other are i false e lt h k =
      let most : length slots ≤ i = grind (arith, e) in
      let last : length slots ≡ i = omega (arith, lt, most, length_push slots s) in
      subst (λ (x : Slot T A). IsReadyAs x (are (2 + i))) (sym (get_or_push slots s other i last)) (subst (λ (n : ℕ). IsReadyAs s (are (2 + n))) last k)

  -- one more slot is ready
  pub ready_more : (slots : List (Slot T A)) (s : Slot T A) (are : ℕ → T → Type 0) → AreReadyAs slots are → IsReadyAs s (are (2 + length slots)) → AreReadyAs (slots ++ s ∷ []) are
  ready_more slots s are h k i other lt = ready_at slots s other are i (ltb i (length slots)) refl lt h k

  can_run : (s : Slot T A) (is can : T → Type 0) → ((task : T) → is task → can task) → IsReadyAs s is → IsReady s can
  can_run (slot.Ready task) is can f h = f task h
  can_run (slot.Done answer) is can f h = tt
  can_run slot.Empty is can f h = tt

  -- slots that are ready so can be run
  pub can_run_all : (slots : List (Slot T A)) (are : ℕ → T → Type 0) (can : T → Type 0) → ((number : ℕ) (task : T) → are number task → can task) → AreReadyAs slots are → AreReady slots can
  can_run_all slots are can f h i other lt = can_run (slice_index_or slots i other) (are (2 + i)) can (f (2 + i)) (h i other lt)

-- A seat over a studio, with a pass with which nobody made a call yet.
abbrev pub seated : {R M L P F A G : Type 0} → (M → Library G) → TurnOf (BoardOf M) → (number : ℕ) → Seat R M L P F A → Type 0
seated library studio number seat = (seat.studio.now ≡ studio) × IsFresh library studio number seat.pass

module _ {M F E : Type 0} (library : M → Library F) (studio : TurnOf (BoardOf M)) where
  abbrev pub made : ℕ → PassOf (BoardOf M) × E → Type 0
  made number left = MadeTurns library studio number left.0

module _ {M F T E : Type 0} (library : M → Library F) (studio : TurnOf (BoardOf M)) where
  gave : (number : ℕ) (s : Slot T (PassOf (BoardOf M) × E)) → 2 ≤ number → IsDoneAs s (made library studio number) → GaveBack library studio s
  gave number (slot.Ready task) le h = absurd h
  gave number (slot.Done left) le h = (h.2.knows, λ zero_is. absurd (omega (arith, zero_is, h.2.numbered, le)))
  gave number slot.Empty le h = absurd h

  pub all_gave : (slots : List (Slot T (PassOf (BoardOf M) × E))) → AreDoneAs slots (made library studio) → All (GaveBack library studio) slots
  all_gave slots h i other lt = gave (2 + i) (slice_index_or slots i other) (omega arith) (h i other lt)

  worked_in : (main : PassOf (BoardOf M)) (number : ℕ) (s : Slot T (PassOf (BoardOf M) × E)) → IsDoneAs s (made library studio number) → IsIn main s → HasWorked library studio main number
  worked_in main number (slot.Ready task) h k = absurd h
  worked_in main number (slot.Done left) h k = (h.0, h.1, (left.0, h.2, k))
  worked_in main number slot.Empty h k = absurd h

  -- each worker that main joined
  pub all_worked : (main : PassOf (BoardOf M)) (slots : List (Slot T (PassOf (BoardOf M) × E))) (count : ℕ) → length slots ≡ count → AreDoneAs slots (made library studio) → All (IsIn main) slots → (number : ℕ) → 2 ≤ number → number ≤ 1 + count → HasWorked library studio main number
  all_worked main slots count len h k zero le most = absurd (omega (arith, le))
  all_worked main slots count len h k (suc zero) le most = absurd (omega (arith, le))
  all_worked main slots count len h k (suc (suc i)) le most =
      let low : i < length slots = omega (arith, len, most) in
      let s = slice_index_or slots i slot.Empty in
      let there : IsDoneAs s (made library studio (suc (suc i))) = subst (λ (n : ℕ). IsDoneAs s (made library studio n)) (two_more i) (h i slot.Empty low) in
      worked_in main (suc (suc i)) s there (k i slot.Empty low)
