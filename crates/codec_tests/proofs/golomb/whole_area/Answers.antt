use Rattle.std.proofs.Common.{arith}
use Rattle.ffv1_slice.specs.Room.{room}
use Rattle.codec_tests.proofs.golomb.whole_area.Goals as goal

pub returns : goal.returns
returns c = c.areas.ensures.within (room 1 c.args.shape.width) (omega arith)
