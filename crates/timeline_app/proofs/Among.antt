-- The calls of several passes in one journal.
use Rattle.std.proofs.Common.{◌≡◌, ℕ, cond, Bool, true, false, List, [], ◌∷◌, ◌++◌, filter, inl, inr, refl, sym, ap, ◌∙◌, arith, true≢false}
use Rattle.std.specs.Prelude.{◌==◌}
use Rattle.std.specs.List.{flat_map}
use Rattle.std.proofs.lemmas.Bool.Decides.{nat_tests}
use Rattle.tl_model.specs.declared.journal.Act.{Act}
use Rattle.tl_model.specs.declared.journal.Act.TheVariants as act
use Rattle.render_core.specs.Calls.{CallOf, own_calls}
use Rattle.edit_desk.proofs.Holding.{HasNone}
use Rattle.play_head.specs.Carrying.{Carried, carried_calls}
use Rattle.play_head.specs.Work.{Turn, AreTurns, IsTurn, turns_calls}
use Rattle.timeline_app.proofs.AskedNames.{act_asked, asked_names, is_carrying}
use Rattle.timeline_app.proofs.Kept.{IsApart}

not_carrying : (what : Act) → (IsApart what → ⊥) → is_carrying what ≡ false
not_carrying (act.Edit edit) h = refl
not_carrying act.Undo h = refl
not_carrying act.Redo h = refl
not_carrying (act.Want first len) h = refl
not_carrying (act.Cancel first len) h = refl
not_carrying act.Claim h = refl
not_carrying (act.File job) h = refl
not_carrying (act.Release job) h = refl
not_carrying (act.Play n) h = refl
not_carrying (act.Show n) h = refl
not_carrying (act.Ask name) h = refl
not_carrying act.Take h = absurd (h tt)
not_carrying (act.End export why) h = absurd (h tt)
not_carrying (act.Mark turns) h = refl
not_carrying act.Skip h = refl
not_carrying act.Stop h = refl

-- ---- what holds of each call

abbrev pub Each : {F : Type 0} → (CallOf F → Type 0) → List (CallOf F) → Type 0
Each P [] = Unit {0}
Each P (c ∷ calls) = P c × Each P calls

same_number : (n : ℕ) → (n == n) ≡ true
same_number n = grind (arith, nat_tests)

module _ {F : Type 0} where
  pub each-append : (P : CallOf F → Type 0) (xs ys : List (CallOf F)) → Each P xs → Each P ys → Each P (xs ++ ys)
  each-append P [] ys h k = k
  each-append P (x ∷ xs) ys h k = (h.0, each-append P xs ys h.1 k)

  pub each_front : (P : CallOf F → Type 0) (xs ys : List (CallOf F)) → Each P (xs ++ ys) → Each P xs
  each_front P [] ys h = tt
  each_front P (x ∷ xs) ys h = (h.0, each_front P xs ys h.1)

  pub each_rest : (P : CallOf F → Type 0) (xs ys : List (CallOf F)) → Each P (xs ++ ys) → Each P ys
  each_rest P [] ys h = h
  each_rest P (x ∷ xs) ys h = each_rest P xs ys h.1

  pub each_so : (P Q : CallOf F → Type 0) (xs : List (CallOf F)) → ((c : CallOf F) → P c → Q c) → Each P xs → Each Q xs
  each_so P Q [] so h = tt
  each_so P Q (x ∷ xs) so h = (so x h.0, each_so P Q xs so h.1)

  each_here : (P : CallOf F → Type 0) (b : Bool) (c : CallOf F) (ys : List (CallOf F)) → b ≡ true → Each P (cond b (c ∷ ys) ys) → P c
  each_here P true c ys e h = h.0
  each_here P false c ys e h = absurd (true≢false (sym e))

  each_later : (P : CallOf F → Type 0) (b : Bool) (c : CallOf F) (ys : List (CallOf F)) → Each P (cond b (c ∷ ys) ys) → Each P ys
  each_later P true c ys h = h.1
  each_later P false c ys h = h

  -- what holds of the calls of each pass holds of all
  pub each_pass : (P : ℕ → CallOf F → Type 0) (xs : List (CallOf F)) → ((n : ℕ) → Each (P n) (own_calls n xs)) → Each (λ (c : CallOf F). P c.pass c) xs
  each_pass P [] h = tt
  each_pass P (c ∷ xs) h = (
    each_here (P c.pass) (c.pass == c.pass) c (own_calls c.pass xs) (same_number c.pass) (h c.pass),
    each_pass P xs (λ n. each_later (P n) (c.pass == n) c (own_calls n xs) (h n)),
  )

  -- ---- lists of calls by a test

  pub filter_same : (p q : CallOf F → Bool) (xs : List (CallOf F)) → Each (λ (c : CallOf F). p c ≡ q c) xs → filter p xs ≡ filter q xs
  filter_same p q [] h = refl
  filter_same p q (c ∷ xs) h =
      ap (λ (b : Bool). cond b (c ∷ filter p xs) (filter p xs)) h.0
      ∙ ap (λ (ys : List (CallOf F)). cond (q c) (c ∷ ys) ys) (filter_same p q xs h.1)

  flat_if : {A : Type 0} (g : CallOf F → List A) (b : Bool) (c : CallOf F) (xs ys : List (CallOf F)) → (b ≡ false → g c ≡ []) → flat_map g xs ≡ flat_map g ys → g c ++ flat_map g xs ≡ flat_map g (cond b (c ∷ ys) ys)
  flat_if {A} g true c xs ys none e = ap (λ (given : List A). g c ++ given) e
  flat_if {A} g false c xs ys none e = ap (λ (given : List A). given ++ flat_map g xs) (none refl) ∙ e

  -- the calls that don't pass give nothing
  pub flat_filter : {A : Type 0} (p : CallOf F → Bool) (g : CallOf F → List A) (xs : List (CallOf F)) → Each (λ (c : CallOf F). p c ≡ false → g c ≡ []) xs → flat_map g xs ≡ flat_map g (filter p xs)
  flat_filter p g [] h = refl
  flat_filter p g (c ∷ xs) h = flat_if g (p c) c xs (filter p xs) h.0 (flat_filter p g xs h.1)

  -- ---- the calls that take and end exports

  abbrev pub carrying_calls : List (CallOf F) → List (CallOf F)
  carrying_calls calls = filter (λ (c : CallOf F). is_carrying c.act) calls

  -- A call that takes and ends no export and asks for none.
  abbrev pub IsQuiet : CallOf F → Type 0
  IsQuiet c = (is_carrying c.act ≡ false) × (asked_names c ≡ [])

  end_quiet : (number : ℕ) (turn : Turn F) → IsTurn turn → IsQuiet (record { pass = number; act = turn.end; told = turn.told })
  end_quiet number turn (inl e, told) = (ap is_carrying e, ap (λ (what : Act). act_asked what turn.told) e)
  end_quiet number turn (inr e, told) = (ap is_carrying e, ap (λ (what : Act). act_asked what turn.told) e)

  pub turns_quiet : (number : ℕ) (turns : List (Turn F)) → AreTurns turns → Each IsQuiet (turns_calls number turns)
  turns_quiet number [] h = tt
  turns_quiet number (turn ∷ []) h = ((refl, refl), (end_quiet number turn h, tt))
  turns_quiet number (turn ∷ next ∷ turns) h = ((refl, refl), (end_quiet number turn h.0, turns_quiet number (next ∷ turns) h.2))

  -- A call that takes or ends an export, and asks for none.
  abbrev pub Carries : CallOf F → Type 0
  Carries c = (is_carrying c.act ≡ true) × (asked_names c ≡ [])

  pub none_carrying : (calls : List (CallOf F)) → HasNone IsApart calls → Each (λ (c : CallOf F). is_carrying c.act ≡ false) calls
  none_carrying [] h = tt
  none_carrying (c ∷ calls) h = (not_carrying c.act h.0, none_carrying calls h.1)

pub carried_each : (F : Type 0) (number : ℕ) (carried : List Carried) → Each (Carries {F = F}) (flat_map (carried_calls number) carried)
carried_each F number [] = tt
carried_each F number (c ∷ carried) = ((refl, refl), ((refl, refl), carried_each F number carried))
