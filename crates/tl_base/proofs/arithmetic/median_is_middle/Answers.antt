use Rattle.tl_base.proofs.Medians.{is_middle}
use Rattle.tl_base.proofs.arithmetic.median_is_middle.Goals as goal

pub returns : goal.returns
returns c = is_middle
