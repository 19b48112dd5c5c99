use Rattle.ffv1_range.proofs.Symbols.{codes_in_turn}
use Rattle.ffv1_range.proofs.law.codes_in_turn.Goals as goal

pub returns : goal.returns
returns c = codes_in_turn
