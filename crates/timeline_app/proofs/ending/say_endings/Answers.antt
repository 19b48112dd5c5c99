use Rattle.std.proofs.Common.{arith}
use Rattle.timeline_app.proofs.EndLines.{said_more, said_some, said_all}
use Rattle.timeline_app.proofs.ending.say_endings.Goals as goal

pub loop-entry-preserved : goal.loop-entry-preserved
loop-entry-preserved g c = record {
  got = said_more c.args.clips.now g.O.Sink.tells (g.O.Sink.seen c.args.out.now) (g.O.Sink.seen c.loop-entry.out) (g.O.Sink.seen c.say_entry.new.out)
      c.args.journal.now c.loop-entry.entry-index c.entry-item.result (omega arith) c.entry-item.is c.loop-entry.invariant.got c.in-Ok.ensures.says;
  later = omega (arith, c.loop-entry.invariant.later, c.in-Ok.ensures.later);
}

pub returns-in-Err-clause-says : goal.returns-in-Err-clause-says
returns-in-Err-clause-says g c =
    said_some c.args.clips.now g.O.Sink.tells (g.O.Sink.seen c.args.out.now) (g.O.Sink.seen c.loop-entry.out) (g.O.Sink.seen c.say_entry.new.out)
    c.args.journal.now c.loop-entry.entry-index c.entry-item.result c.in-Err.fault (omega arith) c.entry-item.is c.loop-entry.invariant.later c.loop-entry.invariant.got c.in-Err.ensures.says

pub returns-clause-says : goal.returns-clause-says
returns-clause-says g c =
    said_all c.args.clips.now g.O.Sink.tells (g.O.Sink.seen c.args.out.now) (g.O.Sink.seen c.loop-entry.out)
    c.args.journal.now c.loop-entry.entry-index (omega arith) c.loop-entry.invariant.got
