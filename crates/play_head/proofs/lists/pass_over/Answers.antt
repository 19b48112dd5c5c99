use Rattle.std.specs.Prelude.{Err}
use Rattle.edl_text.specs.declared.fault.EdlFault.TheVariants as faults
use Rattle.edit_desk.proofs.Heard.{hears_enters, hears_learns}
use Rattle.play_head.specs.Playing.{list_line}
use Rattle.play_head.proofs.Listing.{skips, skip_refused}
use Rattle.play_head.proofs.lists.pass_over.Goals as goal

pub returns-in-Ok : goal.returns-in-Ok
returns-in-Ok g c =
    skips g.D.Lib.Media.library g.O.Sink.tells (g.D.Desk.desk c.args.desk.now) (g.D.Desk.desk c.skip.new.self) (g.O.Sink.seen c.args.out.now) (g.O.Sink.seen c.speak_list.new.out)
    (list_line (Err (faults.Line c.args.n c.args.why))) c.speak_list.result (hears_enters _ _ _ _ _ c.in-Ok.ensures) c.speak_list.ensures

pub returns-in-Err : goal.returns-in-Err
returns-in-Err g c =
    skip_refused g.D.Lib.Media.library g.O.Sink.tells (g.D.Desk.desk c.args.desk.now) (g.D.Desk.desk c.skip.new.self) (g.O.Sink.seen c.args.out.now)
    (list_line (Err (faults.Line c.args.n c.args.why))) c.in-Err.why c.halt_for.result c.halt_for.ensures
    (hears_learns _ _ _ c.in-Err.ensures.0, c.in-Err.ensures.1)
