use Rattle.std.proofs.Common.{sym, subst, ◌∷◌, []}
use Rattle.std.specs.Prelude.{IsTrue}
use Rattle.script_lang.specs.declared.out_line.OutLine.{OutLine}
use Rattle.script_lang.specs.Line.{is_listed}
use Rattle.timeline_app.specs.Head.{head_line}
use Rattle.timeline_app.proofs.Speaking.{said_none, said_one}
use Rattle.timeline_app.proofs.early.say_head.Goals as goal

pub say-requires : goal.say-requires
say-requires g c = subst (λ (line : OutLine). IsTrue (is_listed line)) (sym c.in-Ok.ensures) c.requires

pub returns-in-Ok-clause-says : goal.returns-in-Ok-clause-says
returns-in-Ok-clause-says g c =
    said_one g.O.Sink.tells (g.O.Sink.seen c.args.out.now) (g.O.Sink.seen c.say.new.out) c.in-Ok.line (head_line c.args.why.now)
    c.say.result c.in-Ok.ensures c.say.ensures.got c.say.ensures.cause

pub returns-in-Err-clause-says : goal.returns-in-Err-clause-says
returns-in-Err-clause-says g c = said_none g.O.Sink.tells (g.O.Sink.seen c.args.out.now) (head_line c.args.why.now ∷ [])
