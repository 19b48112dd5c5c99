use Rattle.std.proofs.Common.{◌+◌, ◌-◌, min, eqb, ap, ◌∙◌, arith}
use Rattle.std.specs.Int.{bit_at}
use Rattle.std.proofs.lemmas.Nat.Bits.{shr_and_one}
use Rattle.ffv1_range.specs.Symbol.{low_bits}
use Rattle.ffv1_range.specs.Cursor.{writing_at}
use Rattle.ffv1_range.proofs.Steps.{low_bits-next, low_bits-end, coded-next}
use Rattle.ffv1_range.proofs.writer.low_bits_into.Goals as goal

pub loop-i-preserved : goal.loop-i-preserved
loop-i-preserved c =
    let table = c.args.table.now in
    let i = c.loop-i.i in
    let m = c.args.magnitude in
    let next = coded-next table c.loop-i.states (writing_at table c.loop-i.bytes c.loop-i.at) (22 + c.min.result) (22 + min (i - 1) 9) (eqb (bit_at m (i - 1)) 1)
    (low_bits i m) (low_bits (i - 1) m) (writing_at table c.bit_at.new.bytes c.bit_at.new.at) c.bit_at.new.states
    (ap (λ k. 22 + k) c.min.ensures) (low_bits-next i m c.loop-i-test.true)
    (rw (← shr_and_one m (i - 1)) c.bit_at.ensures.at) (rw (← shr_and_one m (i - 1)) c.bit_at.ensures.states) in
    record {
      left = next.0 ∙ c.loop-i.invariant.left;
      states = next.1 ∙ c.loop-i.invariant.states;
      used = omega (arith, c.bit_at.ensures.used, c.loop-i.invariant.used);
      sound = c.bit_at.ensures.sound;
      kept = c.bit_at.ensures.kept;
    }

pub returns-clause-at : goal.returns-clause-at
returns-clause-at c = rw (low_bits-end c.loop-i.i c.args.magnitude (omega arith)) at c.loop-i.invariant.left

pub returns-clause-states : goal.returns-clause-states
returns-clause-states c = rw (low_bits-end c.loop-i.i c.args.magnitude (omega arith)) at c.loop-i.invariant.states
