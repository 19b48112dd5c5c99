-- What the entries of a journal cost, and which of its calls come last.
use Rattle.std.proofs.Common.{◌≡◌, ℕ, suc, ◌+◌, ◌≤◌, cond, Bool, true, false, List, [], ◌∷◌, length, ◌⊎◌, inl, inr, refl, sym, ap, subst, ◌∙◌, arith}
use Rattle.std.specs.Prelude.{◌==◌, sum_by}
use Rattle.std.specs.List.{AllByRecursion, position}
use Rattle.std.proofs.lemmas.Bool.Decides.{nat_tests}
use Rattle.std.proofs.lemmas.List.Sums.{sum_by-cons}
use Rattle.tl_model.specs.declared.fault.Ending.{Ending}
use Rattle.tl_model.specs.declared.journal.Act.{Act}
use Rattle.tl_model.specs.declared.journal.Act.TheVariants as act
use Rattle.tl_model.specs.declared.journal.Entry.{Entry}
use Rattle.render_core.specs.Calls.{CallOf, calls_from, own_calls}
use Rattle.render_core.specs.Export.{is_untaken}
use Rattle.render_core.specs.State.{State}
use Rattle.render_core.specs.Step.{Setup, AreLegal, IsLegal, after, reply, step}
use Rattle.play_head.specs.Work.{is_released}
use Rattle.run_laws.proofs.Level.{back_queues, call_cost, level, queued_count, step_cost, take_keeps}

abbrev pub spent : {F : Type 0} → List (CallOf F) → ℕ
spent {F} calls = sum_by (λ (c : CallOf F). call_cost c.act c.told) calls

next_spent : (len here there done one rest all : ℕ) → 1 + there ≤ here + one → len + done ≤ there + rest → all ≡ one + rest → suc len + done ≤ here + all
next_spent len here there done one rest all a b c = omega (arith, a, b, c)

-- Entries, and what is owed and queued after them, are at most what was owed and queued before them and what their calls cost.
pub spent_after : {F : Type 0} (setup : Setup F) (count : ℕ) (es : List Entry) (s : State) → AreLegal setup count es s
    → length es + level (after setup count es s) ≤ level s + spent (calls_from setup count es s)
spent_after setup count [] s legal = omega arith
spent_after {F} setup count (e ∷ es) s legal =
    let next = step setup (count + 1) e.pass e.act s in
    let first : CallOf F = record { pass = e.pass; act = e.act; told = reply setup.library e.act s } in
    let rest = calls_from setup (count + 1) es next in
    next_spent (length es) (level s) (level next) (level (after setup (count + 1) es next)) (call_cost e.act first.told) (spent rest) (spent (first ∷ rest))
    (step_cost setup (count + 1) e.pass e.act s legal.0) (spent_after setup (count + 1) es next legal.1)
    (sum_by-cons (λ (c : CallOf F). call_cost c.act c.told) first rest)

-- ---- a job that is given back last

-- The call gave a job back while it was open.
pub record IsBack {F : Type 0} (call : CallOf F) : Type 0 where
  pub job : ℕ
  pub is : call.act ≡ act.Release job
  pub told : is_released call.told ≡ true

-- The last call did.
abbrev pub EndsBack : {F : Type 0} → List (CallOf F) → Type 0
EndsBack [] = ⊥
EndsBack (call ∷ []) = IsBack call
EndsBack (call ∷ next ∷ calls) = EndsBack (next ∷ calls)

-- A take of an export, or its end.
abbrev pub IsOfExport : Act → Type 0
IsOfExport what = (what ≡ act.Take) ⊎ ((export : ℕ) × (why : Ending) × (what ≡ act.End export why))

abbrev pub AreOfExports : {F : Type 0} → List (CallOf F) → Type 0
AreOfExports {F} calls = AllByRecursion (λ (c : CallOf F). IsOfExport c.act) calls

abbrev pub EndsFree : {F : Type 0} → List (CallOf F) → Type 0
EndsFree calls = EndsBack calls ⊎ AreOfExports calls

pub same_number : (n : ℕ) → (n == n) ≡ true
same_number n = grind (arith, nat_tests)

module _ {F : Type 0} where
  pub back_more : (call : CallOf F) (calls : List (CallOf F)) → EndsBack calls → EndsBack (call ∷ calls)
  back_more call [] h = absurd h
  back_more call (next ∷ calls) h = h

  not_both : (call : CallOf F) → IsBack call → IsOfExport call.act → ⊥
  not_both call back (inl e) = let same : act.Release back.job ≡ act.Take = sym back.is ∙ e in absurd cc
  not_both call back (inr (export, why, e)) = let same : act.Release back.job ≡ act.End export why = sym back.is ∙ e in absurd cc

  pub back_apart : (calls : List (CallOf F)) → EndsBack calls → AreOfExports calls → ⊥
  back_apart [] back all = back
  back_apart (call ∷ []) back all = not_both call back all.0
  back_apart (call ∷ next ∷ calls) back all = back_apart (next ∷ calls) back all.1

  -- one that others of exports come after
  back_first : (call : CallOf F) (calls : List (CallOf F)) → EndsBack (call ∷ calls) → AreOfExports calls → IsBack call
  back_first call [] back all = back
  back_first call (next ∷ calls) back all = absurd (back_apart (next ∷ calls) back all)

  free_rest : (call : CallOf F) (calls : List (CallOf F)) → EndsFree (call ∷ calls) → EndsFree calls
  free_rest call [] h = inr tt
  free_rest call (next ∷ calls) (inl back) = inl back
  free_rest call (next ∷ calls) (inr all) = inr all.1

  free_later : (b : Bool) (call : CallOf F) (calls : List (CallOf F)) → EndsFree (cond b (call ∷ calls) calls) → EndsFree calls
  free_later true call calls h = free_rest call calls h
  free_later false call calls h = h

  free_here : (b : Bool) (call : CallOf F) (calls : List (CallOf F)) → b ≡ true → EndsFree (cond b (call ∷ calls) calls) → EndsFree (call ∷ calls)
  free_here true call calls e h = h
  free_here false call calls e h = absurd cc

  own_if : (b : Bool) (call : CallOf F) (calls : List (CallOf F)) → IsOfExport call.act → AreOfExports calls → AreOfExports (cond b (call ∷ calls) calls)
  own_if true call calls h k = (h, k)
  own_if false call calls h k = k

  pub own_exports : (n : ℕ) (calls : List (CallOf F)) → AreOfExports calls → AreOfExports (own_calls n calls)
  own_exports n [] h = tt
  own_exports n (call ∷ calls) h = own_if (call.pass == n) call (own_calls n calls) h.0 (own_exports n calls h.1)

  -- takes and ends of exports leave the jobs as they are
  export_keeps : (setup : Setup F) (at by : ℕ) (what : Act) (s : State) → IsOfExport what → queued_count (step setup at by what s) ≡ queued_count s
  export_keeps setup at by what s (inl e) =
      ap (λ (a : Act). queued_count (step setup at by a s)) e
      ∙ ap (λ (jobs : List _). queued_count (record s { jobs = jobs })) (take_keeps by (position is_untaken s.exports) s)
  export_keeps setup at by what s (inr (export, why, e)) = ap (λ (a : Act). queued_count (step setup at by a s)) e

  exports_keep : (setup : Setup F) (count : ℕ) (es : List Entry) (s : State) → AreOfExports (calls_from setup count es s)
      → queued_count (after setup count es s) ≡ queued_count s
  exports_keep setup count [] s h = refl
  exports_keep setup count (e ∷ es) s h =
      exports_keep setup (count + 1) es (step setup (count + 1) e.pass e.act s) h.1 ∙ export_keeps setup (count + 1) e.pass e.act s h.0

  back_step : (setup : Setup F) (at by : ℕ) (what : Act) (s : State) → IsLegal by what s → IsBack (record { pass = by; act = what; told = reply setup.library what s })
      → 1 ≤ queued_count (step setup at by what s)
  back_step setup at by what s legal back =
      subst (λ (a : Act). IsLegal by a s → is_released (reply setup.library a s) ≡ true → 1 ≤ queued_count (step setup at by a s)) (sym back.is)
      (back_queues setup at by back.job s) legal back.told

  abbrev HasQueued : (setup : Setup F) (count : ℕ) (es : List Entry) (s : State) → Type 0
  HasQueued setup count es s = (1 ≤ queued_count (after setup count es s)) ⊎ AreOfExports (calls_from setup count es s)

  stays_by : (setup : Setup F) (count : ℕ) (e : Entry) (es : List Entry) (s : State) → IsLegal e.pass e.act s
      → EndsFree (record { pass = e.pass; act = e.act; told = reply setup.library e.act s }
      ∷ own_calls e.pass (calls_from setup (count + 1) es (step setup (count + 1) e.pass e.act s)))
      → HasQueued setup (count + 1) es (step setup (count + 1) e.pass e.act s) → HasQueued setup count (e ∷ es) s
  stays_by setup count e es s legal free (inl some) = inl some
  stays_by setup count e es s legal (inr all) (inr rest) = inr (all.0, rest)
  stays_by setup count e es s legal (inl back) (inr rest) =
      let next = step setup (count + 1) e.pass e.act s in
      let more = calls_from setup (count + 1) es next in
      let first : CallOf F = record { pass = e.pass; act = e.act; told = reply setup.library e.act s } in
      let is = back_first first (own_calls e.pass more) back (own_exports e.pass more rest) in
      inl (subst (λ (n : ℕ). 1 ≤ n) (sym (exports_keep setup (count + 1) es next rest)) (back_step setup (count + 1) e.pass e.act s legal is))

  -- Where each pass's last call gave a job back while it was open, or its calls are of exports, a job is queued; or all are of exports.
  pub some_queued : (setup : Setup F) (count : ℕ) (es : List Entry) (s : State) → AreLegal setup count es s
      → ((n : ℕ) → EndsFree (own_calls n (calls_from setup count es s))) → HasQueued setup count es s
  some_queued setup count [] s legal free = inr tt
  some_queued setup count (e ∷ es) s legal free =
      let next = step setup (count + 1) e.pass e.act s in
      let more = calls_from setup (count + 1) es next in
      let first : CallOf F = record { pass = e.pass; act = e.act; told = reply setup.library e.act s } in
      stays_by setup count e es s legal.0 (free_here (e.pass == e.pass) first (own_calls e.pass more) (same_number e.pass) (free e.pass))
      (some_queued setup (count + 1) es next legal.1 (λ n. free_later (e.pass == n) first (own_calls n more) (free n)))
