use Rattle.std.proofs.Common.{◌+◌, ◌-◌, min, true, false, [], ◌∷◌, ◌++◌, List, ℕ, Bool, ap, ◌∙◌, arith}
use Rattle.ffv1_range.specs.Symbol.{ones}
use Rattle.ffv1_range.specs.Cursor.{writing_at}
use Rattle.ffv1_range.proofs.Steps.{ones-next, ones-end, coded-next}
use Rattle.ffv1_range.proofs.writer.exponent_into.Goals as goal

pub loop-i-preserved : goal.loop-i-preserved
loop-i-preserved c =
    let table = c.args.table.now in
    let i = c.loop-i.i in
    let n = c.args.exponent in
    let last : List (ℕ × Bool) = (1 + min n 9, false) ∷ [] in
    let next = coded-next table c.loop-i.states (writing_at table c.loop-i.bytes c.loop-i.at) (1 + c.min.result) (1 + min i 9) true
    (ones i (n - i) ++ last) (ones (i + 1) (n - (i + 1)) ++ last) (writing_at table c.bit_at.new.bytes c.bit_at.new.at) c.bit_at.new.states
    (ap (λ k. 1 + k) c.min.ensures) (ap (λ (b : List (ℕ × Bool)). b ++ last) (ones-next n i c.loop-i-test.true)) c.bit_at.ensures.at c.bit_at.ensures.states in
    record {
      left = next.0 ∙ c.loop-i.invariant.left;
      states = next.1 ∙ c.loop-i.invariant.states;
      used = omega (arith, c.bit_at.ensures.used, c.loop-i.invariant.used);
      sound = c.bit_at.ensures.sound;
      kept = c.bit_at.ensures.kept;
    }

pub returns-clause-at : goal.returns-clause-at
returns-clause-at c =
    let table = c.args.table.now in
    let i = c.loop-i.i in
    let n = c.args.exponent in
    let last : List (ℕ × Bool) = (1 + min n 9, false) ∷ [] in
    let next = coded-next table c.loop-i.states (writing_at table c.loop-i.bytes c.loop-i.at) (1 + c.min-2.result) (1 + min n 9) false
    (ones i (n - i) ++ last) [] (writing_at table c.bit_at-2.new.bytes c.bit_at-2.new.at) c.bit_at-2.new.states
    (ap (λ k. 1 + k) c.min-2.ensures) (ap (λ (b : List (ℕ × Bool)). b ++ last) (ones-end n i c.loop-i-test.false)) c.bit_at-2.ensures.at c.bit_at-2.ensures.states in
    next.0 ∙ c.loop-i.invariant.left

pub returns-clause-states : goal.returns-clause-states
returns-clause-states c =
    let table = c.args.table.now in
    let i = c.loop-i.i in
    let n = c.args.exponent in
    let last : List (ℕ × Bool) = (1 + min n 9, false) ∷ [] in
    let next = coded-next table c.loop-i.states (writing_at table c.loop-i.bytes c.loop-i.at) (1 + c.min-2.result) (1 + min n 9) false
    (ones i (n - i) ++ last) [] (writing_at table c.bit_at-2.new.bytes c.bit_at-2.new.at) c.bit_at-2.new.states
    (ap (λ k. 1 + k) c.min-2.ensures) (ap (λ (b : List (ℕ × Bool)). b ++ last) (ones-end n i c.loop-i-test.false)) c.bit_at-2.ensures.at c.bit_at-2.ensures.states in
    next.1 ∙ c.loop-i.invariant.states
