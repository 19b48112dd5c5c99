-- What the calls of each line cost.
use Rattle.std.proofs.Common.{◌≡◌, ℕ, zero, suc, ◌+◌, ◌*◌, ◌≤◌, cond, Bool, true, false, List, [], ◌∷◌, ◌++◌, length, Result, Ok, Err, ◌⊎◌, inl, inr, refl, sym, ap, subst, ◌∙◌, arith}
use Rattle.std.specs.Prelude.{nat_lt, sum_by, flat_map}
use Rattle.std.proofs.lemmas.List.Sums.{sum_by-cons, sum_by-append}
use Rattle.tl_model.specs.Cells.{run}
use Rattle.tl_model.specs.declared.journal.Act.{Act}
use Rattle.tl_model.specs.declared.journal.Act.TheVariants as act
use Rattle.tl_model.specs.declared.segment.Segment.{Segment}
use Rattle.edl_text.specs.declared.fault.EdlFault.{EdlFault}
use Rattle.render_core.specs.Calls.{CallOf}
use Rattle.render_core.specs.State.{State}
use Rattle.render_core.specs.Step.{Reply}
use Rattle.script_lang.specs.declared.script.Call.{Call}
use Rattle.script_lang.specs.declared.script.Call.TheVariants as call
use Rattle.play_head.specs.Acts.{line_acts}
use Rattle.play_head.specs.Playing.{Setting, Played, HasTurns, HasCalls, HasSomeCalls, LeavesTurns, acts_of, is_kept, mark_call}
use Rattle.play_head.specs.PlayingLine.{next_need}
use Rattle.play_head.specs.Roll.{ahead, frame_calls, roll_calls}
use Rattle.play_head.specs.Work.{Turn, turns_calls}
use Rattle.edit_desk.specs.Desk.{DeskOf}
use Rattle.run_laws.specs.Room.{wanted_by, call_count, wanted, is_work, is_export}
use Rattle.run_laws.proofs.Level.{call_cost, cost, need_cost}
use Rattle.run_laws.proofs.Entries.{EndsBack, back_more, spent}
use Rattle.run_laws.proofs.Turns.{SpendsOnce, spent-cons, turns_once}

abbrev pub cost_of : List Act → ℕ
cost_of acts = sum_by cost acts

abbrev one_if : Bool → ℕ
one_if b = cond b 1 0

-- The room of one line.
abbrev pub line_room : Call → ℕ
line_room c = call_count c + 2 * wanted c + 2 * one_if (is_work c) + 2 * one_if (is_export c)

-- ---- calls that aren't of a turn of work

abbrev AreKept : List Act → Type 0
AreKept [] = Unit {0}
AreKept (a ∷ more) = (is_kept a ≡ true) × AreKept more

kept_front : (xs ys : List Act) → AreKept (xs ++ ys) → AreKept xs
kept_front [] ys h = tt
kept_front (x ∷ xs) ys h = (h.0, kept_front xs ys h.1)

-- what such a call costs isn't told by its reply
kept_same : {F : Type 0} (what : Act) (told : Reply F) → is_kept what ≡ true → call_cost what told ≡ cost what
kept_same (act.Edit edit) told k = refl
kept_same act.Undo told k = refl
kept_same act.Redo told k = refl
kept_same (act.Want first len) told k = refl
kept_same (act.Cancel first len) told k = refl
kept_same act.Claim told k = absurd cc
kept_same (act.File job) told k = absurd cc
kept_same (act.Release job) told k = absurd cc
kept_same (act.Play n) told k = refl
kept_same (act.Show n) told k = refl
kept_same (act.Ask name) told k = refl
kept_same act.Take told k = absurd cc
kept_same (act.End export ending) told k = absurd cc
kept_same (act.Mark turns) told k = refl
kept_same act.Skip told k = refl
kept_same act.Stop told k = absurd cc

kept_costs : {F : Type 0} (calls : List (CallOf F)) → AreKept (acts_of calls) → spent calls ≡ cost_of (acts_of calls)
kept_costs [] k = refl
kept_costs (call ∷ calls) k =
    let one = kept_same call.act call.told k.0 in
    let rest = kept_costs calls k.1 in
    let all = spent-cons call calls in
    let acts = sum_by-cons cost call.act (acts_of calls) in
    omega (arith, one, rest, all, acts)

kept_rest : (xs ys : List Act) → AreKept (xs ++ ys) → AreKept ys
kept_rest [] ys h = h
kept_rest (x ∷ xs) ys h = kept_rest xs ys h.1

next_cost : (left : List Act) (s : State) → AreKept left → next_need left s ≤ cost_of left
next_cost [] s k = omega arith
next_cost (next ∷ left) s k = let one = need_cost next s k.0 in let all = sum_by-cons cost next left in omega (arith, one, all)

-- ---- the acts of a line

abbrev AreRolled : List Act → Type 0
AreRolled [] = Unit {0}
AreRolled (a ∷ more) = (is_kept a ≡ true) × (cost a ≡ 1 + 2 * wanted_by a) × AreRolled more

rolled-append : (xs ys : List Act) → AreRolled xs → AreRolled ys → AreRolled (xs ++ ys)
rolled-append [] ys h k = k
rolled-append (x ∷ xs) ys h k = (h.0, h.1, rolled-append xs ys h.2 k)

rolled_kept : (xs : List Act) → AreRolled xs → AreKept xs
rolled_kept [] h = tt
rolled_kept (x ∷ xs) h = (h.0, rolled_kept xs h.2)

rolled_cost : (xs : List Act) → AreRolled xs → cost_of xs ≡ length xs + 2 * sum_by wanted_by xs
rolled_cost [] h = refl
rolled_cost (x ∷ xs) h =
    let rest = rolled_cost xs h.2 in
    let one = h.1 in
    let all = sum_by-cons cost x xs in
    let wants = sum_by-cons wanted_by x xs in
    omega (arith, rest, one, all, wants)

frame_rolled : (first len i : ℕ) (b : Bool) → AreRolled (act.Play (first + i) ∷ cond b (act.Want (first + i + ahead) 1 ∷ []) [])
frame_rolled first len i true = (refl, refl, (refl, refl, tt))
frame_rolled first len i false = (refl, refl, tt)

frames_rolled : (first len from count : ℕ) → AreRolled (flat_map (frame_calls first len) (run (λ i. i) from count))
frames_rolled first len from zero = tt
frames_rolled first len from (suc count) =
    rolled-append (frame_calls first len from) (flat_map (frame_calls first len) (run (λ i. i) (from + 1) count))
    (frame_rolled first len from (nat_lt (from + ahead) len)) (frames_rolled first len (from + 1) count)

roll_rolled : (first len : ℕ) → AreRolled (roll_calls first len)
roll_rolled first len = (refl, refl, frames_rolled first len 0 len)

no_others : (a b c : ℕ) → a ≡ b + 2 * c → a ≤ b + 2 * c + 2 * 0 + 2 * 0
no_others a b c e = omega (arith, e)

line_kept : (clips : List (List ℕ × ℕ)) (c : Call) (list : Result (List Segment) EdlFault) → AreKept (line_acts clips c list)
line_kept clips (call.Insert at name first len) list = (refl, tt)
line_kept clips (call.Overwrite at name first len) list = (refl, tt)
line_kept clips (call.Extract at len) list = (refl, tt)
line_kept clips (call.Lift at len) list = (refl, tt)
line_kept clips (call.Split at) list = (refl, tt)
line_kept clips (call.TrimIn at by) list = (refl, tt)
line_kept clips (call.TrimOut at by) list = (refl, tt)
line_kept clips (call.Slip at by) list = (refl, tt)
line_kept clips (call.Dissolve at len) list = (refl, tt)
line_kept clips (call.Relink at name first) list = (refl, tt)
line_kept clips (call.Edl file) (Ok segments) = (refl, tt)
line_kept clips (call.Edl file) (Err fault) = (refl, tt)
line_kept clips call.Undo list = (refl, tt)
line_kept clips call.Redo list = (refl, tt)
line_kept clips (call.Want first len) list = (refl, tt)
line_kept clips (call.Cancel first len) list = (refl, tt)
line_kept clips (call.Play n) list = (refl, tt)
line_kept clips (call.Show n) list = (refl, tt)
line_kept clips (call.Roll first len) list = rolled_kept (roll_calls first len) (roll_rolled first len)
line_kept clips (call.Export file) list = (refl, tt)
line_kept clips (call.Work turns) list = (refl, tt)

is_most : (a b : ℕ) → a ≡ b → a ≤ b
is_most a b e = omega (arith, e)

line_cost : (clips : List (List ℕ × ℕ)) (c : Call) (list : Result (List Segment) EdlFault) → cost_of (line_acts clips c list) ≤ line_room c
line_cost clips (call.Insert at name first len) list = is_most _ _ refl
line_cost clips (call.Overwrite at name first len) list = is_most _ _ refl
line_cost clips (call.Extract at len) list = is_most _ _ refl
line_cost clips (call.Lift at len) list = is_most _ _ refl
line_cost clips (call.Split at) list = is_most _ _ refl
line_cost clips (call.TrimIn at by) list = is_most _ _ refl
line_cost clips (call.TrimOut at by) list = is_most _ _ refl
line_cost clips (call.Slip at by) list = is_most _ _ refl
line_cost clips (call.Dissolve at len) list = is_most _ _ refl
line_cost clips (call.Relink at name first) list = is_most _ _ refl
line_cost clips (call.Edl file) (Ok segments) = is_most _ _ refl
line_cost clips (call.Edl file) (Err fault) = is_most _ _ refl
line_cost clips call.Undo list = is_most _ _ refl
line_cost clips call.Redo list = is_most _ _ refl
line_cost clips (call.Want first len) list = omega arith
line_cost clips (call.Cancel first len) list = is_most _ _ refl
line_cost clips (call.Play n) list = is_most _ _ refl
line_cost clips (call.Show n) list = is_most _ _ refl
line_cost clips (call.Roll first len) list = no_others _ _ _ (rolled_cost (roll_calls first len) (roll_rolled first len))
line_cost clips (call.Export file) list = is_most _ _ refl
line_cost clips (call.Work turns) list = omega arith

-- ---- a line that was played to its end

plain_costs : {F : Type 0} (clips : List (List ℕ × ℕ)) (p : Played F) (c : Call) → acts_of p.calls ≡ line_acts clips c p.list → spent p.calls ≤ line_room c
plain_costs clips p c e =
    let made = kept_costs p.calls (subst AreKept (sym e) (line_kept clips c p.list)) in
    let all = ap cost_of e in
    let fits = line_cost clips c p.list in
    omega (arith, made, all, fits)

once_few : {F : Type 0} (calls : List (CallOf F)) → SpendsOnce calls → spent calls ≤ 2
once_few calls (inl e) = omega (arith, e)
once_few calls (inr h) = let two = h.0 in omega (arith, two)

mark_cost : {F : Type 0} (n turns : ℕ) (done : List (Turn F)) (calls : List (CallOf F)) → HasTurns n turns calls done → spent calls ≡ 1 + spent (turns_calls n done)
mark_cost n turns done calls h = ap spent h.is ∙ spent-cons (mark_call n turns) (turns_calls n done)

mark_costs : {F : Type 0} (n turns : ℕ) (done : List (Turn F)) (calls : List (CallOf F)) → HasTurns n turns calls done → spent calls ≤ 3
mark_costs n turns done calls h =
    let all = mark_cost n turns done calls h in
    let few = once_few (turns_calls n done) (turns_once n done h.are_turns) in
    omega (arith, all, few)

module _ {M K F : Type 0} (s : Setting M F) where
  pub played_costs : (d : DeskOf M K) (before : List (CallOf F)) (p : Played F) (c : Call) → HasCalls s d before p c → spent p.calls ≤ line_room c
  played_costs d before p (call.Work turns) h = mark_costs d.fixed.number turns h.0 p.calls h.1
  played_costs d before p (call.Insert at name first len) h = plain_costs s.clips p (call.Insert at name first len) h
  played_costs d before p (call.Overwrite at name first len) h = plain_costs s.clips p (call.Overwrite at name first len) h
  played_costs d before p (call.Extract at len) h = plain_costs s.clips p (call.Extract at len) h
  played_costs d before p (call.Lift at len) h = plain_costs s.clips p (call.Lift at len) h
  played_costs d before p (call.Split at) h = plain_costs s.clips p (call.Split at) h
  played_costs d before p (call.TrimIn at by) h = plain_costs s.clips p (call.TrimIn at by) h
  played_costs d before p (call.TrimOut at by) h = plain_costs s.clips p (call.TrimOut at by) h
  played_costs d before p (call.Slip at by) h = plain_costs s.clips p (call.Slip at by) h
  played_costs d before p (call.Dissolve at len) h = plain_costs s.clips p (call.Dissolve at len) h
  played_costs d before p (call.Relink at name first) h = plain_costs s.clips p (call.Relink at name first) h
  played_costs d before p (call.Edl file) h = plain_costs s.clips p (call.Edl file) h
  played_costs d before p call.Undo h = plain_costs s.clips p call.Undo h
  played_costs d before p call.Redo h = plain_costs s.clips p call.Redo h
  played_costs d before p (call.Want first len) h = plain_costs s.clips p (call.Want first len) h
  played_costs d before p (call.Cancel first len) h = plain_costs s.clips p (call.Cancel first len) h
  played_costs d before p (call.Play n) h = plain_costs s.clips p (call.Play n) h
  played_costs d before p (call.Show n) h = plain_costs s.clips p (call.Show n) h
  played_costs d before p (call.Roll first len) h = plain_costs s.clips p (call.Roll first len) h
  played_costs d before p (call.Export file) h = plain_costs s.clips p (call.Export file) h

-- ---- a line that was begun

-- What a line's calls cost and what the next of its acts needs are within its room; or they took a claim's room by giving a job back
-- last, and the next act needs a claim's.
abbrev pub Begins : {F : Type 0} → List (CallOf F) → List Act → ℕ → Type 0
Begins calls left most = ((s : State) → spent calls + next_need left s ≤ most)
    ⊎ ((spent calls ≤ most) × ((s : State) → next_need left s ≤ 2) × EndsBack calls)

plain_next : {F : Type 0} (clips : List (List ℕ × ℕ)) (p : Played F) (c : Call) (left : List Act) → line_acts clips c p.list ≡ acts_of p.calls ++ left
    → Begins p.calls left (line_room c)
plain_next clips p c left e = inl fits
  where
    kept : AreKept (acts_of p.calls ++ left)
    kept = subst AreKept e (line_kept clips c p.list)

    fits : (s : State) → spent p.calls + next_need left s ≤ line_room c
    fits s =
        let made = kept_costs p.calls (kept_front (acts_of p.calls) left kept) in
        let all = ap cost_of e ∙ sum_by-append cost (acts_of p.calls) left in
        let next = next_cost left s (kept_rest (acts_of p.calls) left kept) in
        let most = line_cost clips c p.list in
        omega (arith, made, all, next, most)

nothing_next : {F : Type 0} (calls : List (CallOf F)) (turns : ℕ) (left : List Act) → calls ≡ [] → left ≡ act.Mark turns ∷ [] → Begins calls left 3
nothing_next calls turns left e f = inl fits
  where
    fits : (s : State) → spent calls + next_need left s ≤ 3
    fits s =
        let none = ap spent e in
        let one = ap (λ (l : List Act). next_need l s) f in
        omega (arith, none, one)

module _ {F : Type 0} (n turns : ℕ) (done : List (Turn F)) (calls : List (CallOf F)) (h : HasTurns n turns calls done) where
  turns_end : Begins calls [] 3
  turns_end = inl (λ s. let few = mark_costs n turns done calls h in omega (arith, few))

  turns_go : SpendsOnce (turns_calls n done) → Begins calls (act.Claim ∷ []) 3
  turns_go (inl e) = inl (λ s. let all = mark_cost n turns done calls h in omega (arith, all, e))
  turns_go (inr k) = inr (mark_costs n turns done calls h, (λ s. omega arith), subst EndsBack (sym h.is) (back_more (mark_call n turns) (turns_calls n done) k.1))

  mark_next : (left : List Act) → LeavesTurns (length done) turns left → Begins calls left 3
  mark_next left (inl e) = subst (λ (l : List Act). Begins calls l 3) (sym e) turns_end
  mark_next left (inr e) = subst (λ (l : List Act). Begins calls l 3) (sym e.1) (turns_go (turns_once n done h.are_turns))

module _ {M K F : Type 0} (s : Setting M F) where
  pub begun_costs : (d : DeskOf M K) (p : Played F) (c : Call) (left : List Act) → HasSomeCalls s d p c left → Begins p.calls left (line_room c)
  begun_costs d p (call.Work turns) left (inl h) = nothing_next p.calls turns left h.0 h.1
  begun_costs d p (call.Work turns) left (inr h) = mark_next d.fixed.number turns h.0 p.calls h.1 left h.2
  begun_costs d p (call.Insert at name first len) left h = plain_next s.clips p (call.Insert at name first len) left h
  begun_costs d p (call.Overwrite at name first len) left h = plain_next s.clips p (call.Overwrite at name first len) left h
  begun_costs d p (call.Extract at len) left h = plain_next s.clips p (call.Extract at len) left h
  begun_costs d p (call.Lift at len) left h = plain_next s.clips p (call.Lift at len) left h
  begun_costs d p (call.Split at) left h = plain_next s.clips p (call.Split at) left h
  begun_costs d p (call.TrimIn at by) left h = plain_next s.clips p (call.TrimIn at by) left h
  begun_costs d p (call.TrimOut at by) left h = plain_next s.clips p (call.TrimOut at by) left h
  begun_costs d p (call.Slip at by) left h = plain_next s.clips p (call.Slip at by) left h
  begun_costs d p (call.Dissolve at len) left h = plain_next s.clips p (call.Dissolve at len) left h
  begun_costs d p (call.Relink at name first) left h = plain_next s.clips p (call.Relink at name first) left h
  begun_costs d p (call.Edl file) left h = plain_next s.clips p (call.Edl file) left h
  begun_costs d p call.Undo left h = plain_next s.clips p call.Undo left h
  begun_costs d p call.Redo left h = plain_next s.clips p call.Redo left h
  begun_costs d p (call.Want first len) left h = plain_next s.clips p (call.Want first len) left h
  begun_costs d p (call.Cancel first len) left h = plain_next s.clips p (call.Cancel first len) left h
  begun_costs d p (call.Play n) left h = plain_next s.clips p (call.Play n) left h
  begun_costs d p (call.Show n) left h = plain_next s.clips p (call.Show n) left h
  begun_costs d p (call.Roll first len) left h = plain_next s.clips p (call.Roll first len) left h
  begun_costs d p (call.Export file) left h = plain_next s.clips p (call.Export file) left h
