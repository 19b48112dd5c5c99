use Rattle.std.proofs.Common.{Err, inl, inr, refl, ap}
use Rattle.edit_desk.proofs.Heard.{hears_enters, hears_learns}
use Rattle.play_head.specs.declared.halt.Halt.{Halt}
use Rattle.play_head.proofs.Marking.{marked}
use Rattle.play_head.proofs.working.work_line.Goals as goal

pub returns-in-Ok : goal.returns-in-Ok
returns-in-Ok g c = inr (record {
  worked = c.work-worked.result;
  marks = marked g.D.Lib.Media.library (g.D.Desk.desk c.args.desk.now) (g.D.Desk.desk c.mark.new.self) (g.D.Desk.desk c.work-worked.new.desk) c.args.turns c.work-worked.result
      (hears_enters g.D.Lib.Media.library _ _ _ _ c.in-Ok.ensures) c.work-worked.ensures;
  says = c.say_worked.ensures;
})

pub returns-in-Err : goal.returns-in-Err
returns-in-Err g c = inl (record {
  why = c.in-Err.why;
  is = ap (λ (h : Halt). Err h) c.halt_for.ensures;
  refused = ((hears_learns g.D.Lib.Media.library _ _ c.in-Err.ensures.0, c.in-Err.ensures.1), refl);
})
