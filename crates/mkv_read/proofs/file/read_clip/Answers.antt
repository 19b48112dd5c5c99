use Rattle.mkv_read.proofs.Clips.{read_gives}
use Rattle.mkv_read.proofs.Limits.{read-limits}
use Rattle.mkv_read.proofs.file.read_clip.Goals as goal

pub returns-clause-exact : goal.returns-clause-exact
returns-clause-exact c = read_gives c.args.bytes.now c.read.result c.read.ensures.exact

pub returns-clause-limits : goal.returns-clause-limits
returns-clause-limits c =
    read-limits c.args.bytes.now c.read.result (read_gives c.args.bytes.now c.read.result c.read.ensures.exact)
