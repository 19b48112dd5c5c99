-- The calls that are left of a roll.
use Rattle.std.proofs.Common.{◌≡◌, ℕ, suc, ◌+◌, ◌-◌, ◌<◌, ◌≤◌, Bool, true, false, cond, nat_lt, min, Option, Some, None, List, [], ◌∷◌, ◌++◌, sym, ap, subst, ◌∙◌, arith}
use Rattle.std.specs.List.{flat_map}
use Rattle.tl_model.specs.Cells.{run}
use Rattle.tl_model.specs.declared.journal.Act.{Act}
use Rattle.tl_model.specs.declared.journal.Act.TheVariants as act
use Rattle.play_head.specs.declared.roll.Due.{Due}
use Rattle.play_head.specs.declared.roll.Roll.TheInside.{Inside}
use Rattle.play_head.specs.Roll.{ahead, frame_calls, roll_calls}
use Rattle.play_head.specs.RollLeft.{due_calls, frames_left}
use Rattle.std.proofs.lemmas.Bool.Decides.{nat_tests}

pub frames_left-next : (first len played : ℕ) → played < len → frames_left first len played ≡ frame_calls first len played ++ frames_left first len (played + 1)
unfolding frames_left
frames_left-next first len played h =
    let count : len - played ≡ suc (len - (played + 1)) = omega arith in
    ap (λ (k : ℕ). flat_map (frame_calls first len) (run (λ i. i) played k)) count

pub frames_left-end : (first len : ℕ) → frames_left first len len ≡ []
unfolding frames_left
frames_left-end first len =
    let none : len - len ≡ 0 = omega arith in
    ap (λ (k : ℕ). flat_map (frame_calls first len) (run (λ i. i) len k)) none

pub frames_left-all : (first len : ℕ) → frames_left first len 0 ≡ flat_map (frame_calls first len) (run (λ i. i) 0 len)
unfolding frames_left
frames_left-all first len = let all : len - 0 ≡ len = omega arith in ap (λ (k : ℕ). flat_map (frame_calls first len) (run (λ i. i) 0 k)) all

pub roll_calls-over : (first len wanted : ℕ) → wanted ≡ min len ahead → (act.Want first wanted ∷ frames_left first len 0) ≡ roll_calls first len
roll_calls-over first len wanted e =
    ap (λ (n : ℕ). act.Want first n ∷ frames_left first len 0) e ∙ ap (λ (cs : List Act). act.Want first (min len ahead) ∷ cs) (frames_left-all first len)

-- what is left where the next call is none
pub none_left : (r : Inside) → r.due ≡ None → r.played ≡ r.len → (due_calls r.due ++ frames_left r.first r.len r.played) ≡ []
none_left r none end =
    ap (λ (d : Option Due). due_calls d ++ frames_left r.first r.len r.played) none
    ∙ ap (λ (n : ℕ). frames_left r.first r.len n) end ∙ frames_left-end r.first r.len

-- what is left where the next call is a play, with the want after it or without
play_next : (r : Inside) (b : Bool) → r.due ≡ None → r.played < r.len → nat_lt (r.played + ahead) r.len ≡ b → (due_calls r.due ++ frames_left r.first r.len r.played) ≡ act.Play (r.first + r.played) ∷ (cond b (act.Want (r.first + r.played + ahead) 1 ∷ []) [] ++ frames_left r.first r.len (r.played + 1))
play_next r b none more e =
    ap (λ (d : Option Due). due_calls d ++ frames_left r.first r.len r.played) none
    ∙ frames_left-next r.first r.len r.played more
    ∙ ap (λ (x : Bool). act.Play (r.first + r.played) ∷ (cond x (act.Want (r.first + r.played + ahead) 1 ∷ []) [] ++ frames_left r.first r.len (r.played + 1))) e

pub play_wants : (r next : Inside) (n : ℕ) → next ≡ record r { due = Some (record { first = n + 8; len = 1 }) } → n ≡ r.first + r.played → ahead < r.len - r.played → r.due ≡ None → (due_calls r.due ++ frames_left r.first r.len r.played) ≡ act.Play (r.first + r.played) ∷ (due_calls next.due ++ frames_left next.first next.len (next.played + 1))
play_wants r next n e is more none =
    let test : nat_lt (r.played + ahead) r.len ≡ true = grind (arith, nat_tests, more) in
    let some : r.played < r.len = omega arith in
    subst (λ (x : Inside). (due_calls r.due ++ frames_left r.first r.len r.played) ≡ act.Play (r.first + r.played) ∷ (due_calls x.due ++ frames_left x.first x.len (x.played + 1))) (sym e)
    (subst (λ (k : ℕ). (due_calls r.due ++ frames_left r.first r.len r.played) ≡ act.Play (r.first + r.played) ∷ (act.Want (k + ahead) 1 ∷ frames_left r.first r.len (r.played + 1))) (sym is)
    (play_next r true none some test))

pub play_ends : (r next : Inside) → next ≡ r → r.len - r.played ≤ ahead → (r.played ≡ r.len → ⊥) → r.played ≤ r.len → r.due ≡ None → (due_calls r.due ++ frames_left r.first r.len r.played) ≡ act.Play (r.first + r.played) ∷ (due_calls next.due ++ frames_left next.first next.len (next.played + 1))
play_ends r next e less some within none =
    let test : nat_lt (r.played + ahead) r.len ≡ false = grind (arith, nat_tests, less) in
    let more : r.played < r.len = omega arith in
    subst (λ (x : Inside). (due_calls r.due ++ frames_left r.first r.len r.played) ≡ act.Play (r.first + r.played) ∷ (due_calls x.due ++ frames_left x.first x.len (x.played + 1))) (sym e)
    (play_next r false none more test ∙ ap (λ (d : Option Due). act.Play (r.first + r.played) ∷ (due_calls d ++ frames_left r.first r.len (r.played + 1))) (sym none))
