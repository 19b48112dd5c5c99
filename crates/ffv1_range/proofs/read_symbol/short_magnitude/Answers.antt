use Rattle.std.proofs.Common.{◌≡◌, ◌+◌, min, arith, ap, ◌∙◌}
use Rattle.ffv1_range.specs.Position.{source_at}
use Rattle.ffv1_range.specs.Symbol.{magnitude_at}
use Rattle.ffv1_range.proofs.Steps.{magnitude_at-end}
use Rattle.ffv1_range.proofs.read_symbol.short_magnitude.Goals as goal

pub returns-clause-magnitude : goal.returns-clause-magnitude
returns-clause-magnitude c =
    let whole : c.args.exponent ≡ min c.args.exponent (3 + 1) = omega (arith, c.requires.exponent) in
    ap (λ n. magnitude_at n 1 (source_at c.args.table.now c.args.bytes.now c.args.at.now c.args.states.now)) whole
    ∙ c.bit_below-three.ensures.magnitude ∙ c.bit_below-two.ensures.magnitude ∙ c.bit_below-one.ensures.magnitude ∙ c.bit_below.ensures.magnitude
    ∙ magnitude_at-end (min c.args.exponent 0) c.bit_below.result (source_at c.args.table.now c.args.bytes.now c.bit_below.new.at c.bit_below.new.states) (omega arith)
