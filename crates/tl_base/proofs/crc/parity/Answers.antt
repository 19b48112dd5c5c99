use Rattle.std.proofs.Common.{refl}
use Rattle.tl_base.specs.Parity.{parity, reduced}
use Rattle.tl_base.proofs.crc.parity.Goals as goal

pub loop-i-init : goal.loop-i-init
unfolding parity reduced
loop-i-init c = refl
