use Rattle.std.proofs.Common.{refl}
use Rattle.ffv1_rice.specs.State.{fresh, summed, halved, counted, corrected, updated}
use Rattle.codec_tests.proofs.rice.worked_state.Goals as goal

pub returns : goal.returns
unfolding fresh summed halved counted corrected updated
returns c = refl
