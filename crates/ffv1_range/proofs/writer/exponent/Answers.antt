use Rattle.std.proofs.Common.{sym, arith}
use Rattle.ffv1_range.proofs.Steps.{exponent_of-is}
use Rattle.ffv1_range.proofs.writer.exponent.Goals as goal

pub returns-clause-exponent : goal.returns-clause-exponent
returns-clause-exponent c = sym (exponent_of-is c.args.magnitude c.ilog2.result (omega arith) c.ilog2.ensures.power_le c.ilog2.ensures.next_power_gt)
