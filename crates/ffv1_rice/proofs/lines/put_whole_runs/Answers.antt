use Rattle.std.proofs.Common.{◌≡◌, ℕ, List, [], ◌∷◌, ◌+◌, ◌-◌, ◌<◌, ◌≤◌, ◌^◌, ◌++◌, ◌∙◌, ap, sym, subst, arith, append-nil, append_assoc, inl, inr}
use Rattle.std.proofs.lemmas.Bool.{cases_lt}
use Rattle.ffv1_rice.specs.Lines.{Fitting, fitting, one_more}
use Rattle.ffv1_rice.specs.Runs.{whole_run}
use Rattle.ffv1_rice.proofs.FitLemmas.{fitting-more, fitting-none, none_fits}
use Rattle.ffv1_rice.proofs.lines.put_whole_runs.Goals as goal

more : (left next : ℕ) (whole again : ℕ) → whole ≡ whole_run next → again ≡ whole_run next → whole ≤ left → fitting left next ≡ one_more (fitting (left - again) (next + 1))
more left next whole again e f le = fitting-more left next (subst (λ (n : ℕ). n ≤ left) e le) ∙ ap (λ n. one_more (fitting (left - n) (next + 1))) (sym f)

done : (left next whole : ℕ) → whole ≡ whole_run next → left < whole → fitting left next ≡ none_fits left next
done left next whole e lt = fitting-none left next (subst (λ (n : ℕ). left < n) e lt)

in_table_next : (next left whole : ℕ) → next ≤ 40 → (next ≡ 40 → whole ≡ 2 ^ 24) → whole ≤ left → left < 2 ^ 24 → next + 1 ≤ 40
in_table_next next left whole small last le short =
    elim (cases_lt next 40) [ inl below ↦ omega arith | inr here ↦ absurd (omega (arith, last (omega arith))) ]

pub runs-preserved : goal.runs-preserved
runs-preserved c =
    let f = more c.runs.left c.runs.next c.whole_run.result c.whole_run-left.result c.whole_run.ensures.length c.whole_run-left.ensures.length c.runs-test.true in
    let rest = fitting (c.runs.left - c.whole_run-left.result) (c.runs.next + 1) in
    record {
      bits = c.runs.invariant.bits ∙ ap (λ (t : Fitting). c.runs.bits ++ t.bits) f ∙ sym (append_assoc c.runs.bits (1 ∷ []) rest.bits) ∙ ap (λ (xs : List ℕ). xs ++ rest.bits) (sym c.in_ok-put.ensures.ok);
      index = c.runs.invariant.index ∙ ap (λ (t : Fitting). t.index) f;
      rest = c.runs.invariant.rest ∙ ap (λ (t : Fitting). t.rest) f;
      in_table = in_table_next c.runs.next c.runs.left c.whole_run.result c.runs.invariant.in_table c.whole_run.ensures.last c.runs-test.true c.runs.invariant.short;
      short = omega (arith, c.runs.invariant.short);
    }

pub returns-clause-bits : goal.returns-clause-bits
returns-clause-bits c =
    let f = done c.runs.left c.runs.next c.whole_run.result c.whole_run.ensures.length c.runs-test.false in
    sym (c.runs.invariant.bits ∙ ap (λ (t : Fitting). c.runs.bits ++ t.bits) f ∙ append-nil c.runs.bits)

pub returns-clause-index : goal.returns-clause-index
returns-clause-index c =
    let f = done c.runs.left c.runs.next c.whole_run.result c.whole_run.ensures.length c.runs-test.false in
    sym (c.runs.invariant.index ∙ ap (λ (t : Fitting). t.index) f)

pub returns-clause-rest : goal.returns-clause-rest
returns-clause-rest c =
    let f = done c.runs.left c.runs.next c.whole_run.result c.whole_run.ensures.length c.runs-test.false in
    sym (c.runs.invariant.rest ∙ ap (λ (t : Fitting). t.rest) f)
