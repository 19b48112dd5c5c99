use Rattle.std.proofs.Common.{refl, ◌∙◌}
use Rattle.script_lang.specs.declared.out_line.OutLine.TheVariants as out
use Rattle.timeline_app.proofs.Listed.{usage_listed}
use Rattle.timeline_app.proofs.Speaking.{said_one}
use Rattle.timeline_app.proofs.early.misuse.Goals as goal

pub say-said-requires : goal.say-said-requires
say-said-requires g c = usage_listed

pub returns : goal.returns
returns g c = record {
  said = c.say-said.result;
  says = said_one g.O.Sink.tells (g.O.Sink.seen c.args.out.now) (g.O.Sink.seen c.say-said.new.out) out.Usage out.Usage c.say-said.result refl c.say-said.ensures.got c.say-said.ensures.cause;
  status = c.without_journal.ensures.status ∙ c.status_unless.ensures;
  journal = c.without_journal.ensures.journal;
}
