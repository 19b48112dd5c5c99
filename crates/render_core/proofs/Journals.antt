-- A journal in two parts.
use Rattle.std.proofs.Common.{◌≡◌, ℕ, suc, ◌+◌, cond, Bool, true, false, List, [], ◌∷◌, ◌++◌, length, refl, ap, subst, ◌∙◌, arith}
use Rattle.std.specs.Prelude.{◌==◌}
use Rattle.tl_model.specs.declared.journal.Entry.{Entry}
use Rattle.render_core.specs.State.{State}
use Rattle.render_core.specs.Step.{Setup, step, reply, after, AreLegal}
use Rattle.render_core.specs.Calls.{CallOf, calls_from, own, own_calls}

pub legal_rest : {F : Type 0} (setup : Setup F) (count : ℕ) (es more : List Entry) (s : State) → AreLegal setup count (es ++ more) s → AreLegal setup (count + length es) more (after setup count es s)
legal_rest setup count [] more s legal = let n : count ≡ count + 0 = omega arith in subst (λ (k : ℕ). AreLegal setup k more s) n legal
legal_rest setup count (e ∷ es) more s legal =
    let n : count + 1 + length es ≡ count + suc (length es) = omega arith in
    let next = step setup (count + 1) e.pass e.act s in
    subst (λ (k : ℕ). AreLegal setup k more (after setup (count + 1) es next)) n (legal_rest setup (count + 1) es more next legal.1)

pub legal_front : {F : Type 0} (setup : Setup F) (count : ℕ) (es more : List Entry) (s : State) → AreLegal setup count (es ++ more) s → AreLegal setup count es s
legal_front setup count [] more s legal = tt
legal_front setup count (e ∷ es) more s legal = (legal.0, legal_front setup (count + 1) es more (step setup (count + 1) e.pass e.act s) legal.1)

pub after_rest : {F : Type 0} (setup : Setup F) (count : ℕ) (es more : List Entry) (s : State) → after setup count (es ++ more) s ≡ after setup (count + length es) more (after setup count es s)
after_rest setup count [] more s = let n : count ≡ count + 0 = omega arith in ap (λ (k : ℕ). after setup k more s) n
after_rest setup count (e ∷ es) more s =
    let n : count + 1 + length es ≡ count + suc (length es) = omega arith in
    let next = step setup (count + 1) e.pass e.act s in
    after_rest setup (count + 1) es more next ∙ ap (λ (k : ℕ). after setup k more (after setup (count + 1) es next)) n

-- the calls of a journal in two parts
pub calls-append : {F : Type 0} (setup : Setup F) (count : ℕ) (es more : List Entry) (s : State) → calls_from setup count (es ++ more) s ≡ calls_from setup count es s ++ calls_from setup (count + length es) more (after setup count es s)
calls-append setup count [] more s = let n : count ≡ count + 0 = omega arith in ap (λ (k : ℕ). calls_from setup k more s) n
calls-append {F} setup count (e ∷ es) more s =
    let n : count + 1 + length es ≡ count + suc (length es) = omega arith in
    let next = step setup (count + 1) e.pass e.act s in
    let first : CallOf F = record { pass = e.pass; act = e.act; told = reply setup.library e.act s } in
    ap (λ (cs : List (CallOf F)). first ∷ cs)
    (calls-append setup (count + 1) es more next ∙ ap (λ (k : ℕ). calls_from setup (count + 1) es next ++ calls_from setup k more (after setup (count + 1) es next)) n)

own_by : {F : Type 0} (pass : ℕ) (e : Entry) (es : List Entry) (call : CallOf F) (calls : List (CallOf F)) (b : Bool) → call.pass ≡ e.pass → (e.pass == pass) ≡ b → cond b (e ∷ own pass es) (own pass es) ≡ [] → (own pass es ≡ [] → own_calls pass calls ≡ []) → own_calls pass (call ∷ calls) ≡ []
own_by pass e es call calls true p t h rest = absurd cc
own_by {F} pass e es call calls false p t h rest = ap (λ (b : Bool). cond b (call ∷ own_calls pass calls) (own_calls pass calls)) (ap (λ (k : ℕ). k == pass) p ∙ t) ∙ rest h

-- entries of others are no calls of a pass
pub own_calls-others : {F : Type 0} (setup : Setup F) (pass count : ℕ) (es : List Entry) (s : State) → own pass es ≡ [] → own_calls pass (calls_from setup count es s) ≡ []
own_calls-others setup pass count [] s h = refl
own_calls-others setup pass count (e ∷ es) s h =
    own_by pass e es (record { pass = e.pass; act = e.act; told = reply setup.library e.act s }) (calls_from setup (count + 1) es (step setup (count + 1) e.pass e.act s)) (e.pass == pass) refl refl h (own_calls-others setup pass (count + 1) es (step setup (count + 1) e.pass e.act s))
