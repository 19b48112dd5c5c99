use Rattle.std.specs.Prelude.{Err}
use Rattle.edl_text.specs.declared.fault.EdlFault.TheVariants as faults
use Rattle.play_head.specs.Playing.{list_line}
use Rattle.play_head.proofs.Listing.{list_line-listed}
use Rattle.play_head.proofs.Speaking.{listed}
use Rattle.play_head.proofs.lists.speak_list.Goals as goal

pub speak-requires : goal.speak-requires
speak-requires g c = listed c.in-Ok.line (list_line (Err (faults.Line c.args.n c.args.why))) c.in-Ok.ensures (list_line-listed c.args.n c.args.why)
