use Rattle.ffv1_lanes.proofs.Sixteen.{HasLanes-chunk}
use Rattle.ffv1_lanes.proofs.blend.loaded.Goals as goal

pub returns : goal.returns
returns c = HasLanes-chunk c.args.from c.args.row.now c.requires
