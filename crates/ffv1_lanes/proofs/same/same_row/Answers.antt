use Rattle.std.proofs.Common.{◌≡◌, ℕ, ◌-◌, List, ◌++◌, length, take, drop, sym, ap, ◌∙◌, arith, take-append-drop, take_all, length-drop}
use Rattle.std.proofs.Math.Seq.{take-add}
use Rattle.ffv1_lanes.proofs.same.same_row.Goals as goal

-- the same up to here, and behind
both_same : (i : ℕ) (a b : List ℕ) → take i a ≡ take i b → drop i a ≡ drop i b → a ≡ b
both_same i a b front rest = sym (take-append-drop i a) ∙ ap (λ (l : List ℕ). l ++ drop i a) front ∙ ap (λ (l : List ℕ). take i b ++ l) rest ∙ take-append-drop i b

pub loop-first-preserved : goal.loop-first-preserved
loop-first-preserved c =
    let a = c.args.a.now in
    let b = c.args.b.now in
    let i = c.loop-first.first in
    let next : take 32 (drop i a) ≡ take 32 (drop i b) = c.same_lanes.ensures.0 c.if-not-same_lanes.false in
    record {
      within = omega arith;
      same = take-add i 32 a ∙ ap (λ (l : List ℕ). l ++ take 32 (drop i a)) c.loop-first.invariant.same ∙ ap (λ (l : List ℕ). take i b ++ l) next ∙ sym (take-add i 32 b);
    }

-- a range to the end is the rest
to_end : (i : ℕ) (l : List ℕ) → take (length l - i) (drop i l) ≡ drop i l
to_end i l = take_all (length l - i) (drop i l) (omega (arith, length-drop i l))

pub returns : goal.returns
returns c =
    let a = c.args.a.now in
    let b = c.args.b.now in
    let i = c.loop-first.first in (
      λ h. both_same i a b c.loop-first.invariant.same (sym (to_end i a) ∙ c.same_samples.ensures.0 h ∙ to_end i b),
      λ e. c.same_samples.ensures.1 (to_end i a ∙ ap (drop i) e ∙ sym (to_end i b)),
    )
