use Rattle.std.proofs.Common.{◌+◌, min, false, Bool, ℕ, List, [], ◌∷◌, ◌++◌, ap, sym, ◌∙◌}
use Rattle.ffv1_range.specs.Writing.{put_all}
use Rattle.ffv1_range.specs.Symbol.{ones, low_bits, with_states, set_after}
use Rattle.ffv1_range.specs.Cursor.{writing_at}
use Rattle.ffv1_range.proofs.Steps.{magnitude_bits-is, coded-parts}
use Rattle.ffv1_range.proofs.writer.magnitude_into.Goals as goal

pub returns-clause-at : goal.returns-clause-at
returns-clause-at c =
    let table = c.args.table.now in
    let n = c.args.exponent in
    let parts = coded-parts table c.args.states.now (writing_at table c.args.bytes.now c.args.at.now) (ones 0 n ++ (1 + min n 9, false) ∷ []) (low_bits n c.args.magnitude) _ _ _ _ c.exponent_into.ensures.at c.exponent_into.ensures.states c.low_bits_into.ensures.at c.low_bits_into.ensures.states in
    parts.0 ∙ ap (λ (b : List (ℕ × Bool)). put_all (writing_at table c.args.bytes.now c.args.at.now) (with_states table c.args.states.now b)) (sym (magnitude_bits-is c.args.magnitude n c.requires.exponent))

pub returns-clause-states : goal.returns-clause-states
returns-clause-states c =
    let table = c.args.table.now in
    let n = c.args.exponent in
    let parts = coded-parts table c.args.states.now (writing_at table c.args.bytes.now c.args.at.now) (ones 0 n ++ (1 + min n 9, false) ∷ []) (low_bits n c.args.magnitude) _ _ _ _ c.exponent_into.ensures.at c.exponent_into.ensures.states c.low_bits_into.ensures.at c.low_bits_into.ensures.states in
    parts.1 ∙ ap (λ (b : List (ℕ × Bool)). set_after table c.args.states.now b) (sym (magnitude_bits-is c.args.magnitude n c.requires.exponent))
