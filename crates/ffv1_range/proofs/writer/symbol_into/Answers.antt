use Rattle.std.proofs.Common.{◌+◌, ◌∙◌, ap, nat_abs, w64}
use Rattle.std.proofs.lemmas.Int.{to_z-of_z}
use Rattle.ffv1_range.specs.Symbol.{is_negative}
use Rattle.ffv1_range.specs.Cursor.{writing_at}
use Rattle.ffv1_range.proofs.Steps.{symbol-zero, symbol-signed, symbol-unsigned, Spelled}
use Rattle.ffv1_range.proofs.writer.symbol_into.Goals as goal

signed : (c : goal.After-slice_known-then-signed-1) → Spelled c.args.table.now c.args.states.now (writing_at c.args.table.now c.args.bytes.now c.args.at.now) c.args.value c.args.signed (writing_at c.args.table.now c.bit_at-then-signed.new.bytes c.bit_at-then-signed.new.at) c.bit_at-then-signed.new.states
signed c = symbol-signed c.args.table.now c.args.states.now (writing_at c.args.table.now c.args.bytes.now c.args.at.now) c.args.value c.args.signed c.magnitude_of-magnitude.result c.exponent-exponent.result (11 + c.min.result) c.is_negative.result _ _ _ _ _ _
    (c.magnitude_of-magnitude.ensures ∙ ap nat_abs (to_z-of_z w64 c.args.value c.ranges.value)) c.if-magnitude-gt0.true c.exponent-exponent.ensures.exponent c.if-signed.true (ap (λ k. 11 + k) c.min.ensures) (c.is_negative.ensures ∙ ap is_negative (to_z-of_z w64 c.args.value c.ranges.value))
    c.bit_at.ensures.at c.bit_at.ensures.states c.magnitude_into.ensures.at c.magnitude_into.ensures.states c.bit_at-then-signed.ensures.at c.bit_at-then-signed.ensures.states

pub returns-then-signed-clause-at : goal.returns-then-signed-clause-at
returns-then-signed-clause-at c = (signed c).0

pub returns-then-signed-clause-states : goal.returns-then-signed-clause-states
returns-then-signed-clause-states c = (signed c).1

unsigned : (c : goal.Else-signed) → Spelled c.args.table.now c.args.states.now (writing_at c.args.table.now c.args.bytes.now c.args.at.now) c.args.value c.args.signed (writing_at c.args.table.now c.magnitude_into.new.bytes c.magnitude_into.new.at) c.magnitude_into.new.states
unsigned c = symbol-unsigned c.args.table.now c.args.states.now (writing_at c.args.table.now c.args.bytes.now c.args.at.now) c.args.value c.args.signed c.magnitude_of-magnitude.result _ _ _ _
    (c.magnitude_of-magnitude.ensures ∙ ap nat_abs (to_z-of_z w64 c.args.value c.ranges.value)) c.if-magnitude-gt0.true c.if-signed.false
    c.bit_at.ensures.at c.bit_at.ensures.states c.magnitude_into.ensures.at c.magnitude_into.ensures.states

pub returns-else-signed-clause-at : goal.returns-else-signed-clause-at
returns-else-signed-clause-at c = (unsigned c).0

pub returns-else-signed-clause-states : goal.returns-else-signed-clause-states
returns-else-signed-clause-states c = (unsigned c).1

zero_value : (c : goal.Else-magnitude-gt0) → Spelled c.args.table.now c.args.states.now (writing_at c.args.table.now c.args.bytes.now c.args.at.now) c.args.value c.args.signed (writing_at c.args.table.now c.bit_at.new.bytes c.bit_at.new.at) c.bit_at.new.states
zero_value c = symbol-zero c.args.table.now c.args.states.now (writing_at c.args.table.now c.args.bytes.now c.args.at.now) c.args.value c.args.signed c.magnitude_of-magnitude.result _ _
    (c.magnitude_of-magnitude.ensures ∙ ap nat_abs (to_z-of_z w64 c.args.value c.ranges.value)) c.if-magnitude-gt0.false c.bit_at.ensures.at c.bit_at.ensures.states

pub returns-else-magnitude-gt0-clause-at : goal.returns-else-magnitude-gt0-clause-at
returns-else-magnitude-gt0-clause-at c = (zero_value c).0

pub returns-else-magnitude-gt0-clause-states : goal.returns-else-magnitude-gt0-clause-states
returns-else-magnitude-gt0-clause-states c = (zero_value c).1
