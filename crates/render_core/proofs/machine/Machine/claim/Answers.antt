use Rattle.std.proofs.Common.{sym, subst, ap}
use Rattle.tl_model.specs.Media.{CanRender}
use Rattle.render_core.specs.Parts.{MachineOf, HasOneOpen, AreShown}
use Rattle.render_core.proofs.JobLists.{one_open-with_holder}
use Rattle.render_core.proofs.Renders.{shown-with_holder, shown-at}
use Rattle.render_core.proofs.machine.Machine.claim.Goals as goal

pub invariant_of-self : goal.invariant_of-self
invariant_of-self g c = record {
  sound = c.self.invariant.sound;
  results_are = c.self.invariant.results_are;
  one_open = subst HasOneOpen (sym c.hold-job.ensures.jobs) (one_open-with_holder c.args.by c.args.place c.self.inside.jobs c.hold-job.result c.hold-job.ensures.job c.self.invariant.one_open);
  shown = subst (AreShown (g.M.Media.library c.self.inside.library.value)) (sym c.hold-job.ensures.jobs) (shown-with_holder (g.M.Media.library c.self.inside.library.value) c.args.by c.args.place c.self.inside.jobs c.self.invariant.shown);
  exports_sound = c.self.invariant.exports_sound;
}

pub returns-clause-renders : goal.returns-clause-renders
returns-clause-renders g c =
    let library = ap (λ (m : MachineOf _). m.library) c.self.view_is in
    subst (λ lib. CanRender (g.M.Media.library lib) c.hold-job.result.recipe) library (shown-at (g.M.Media.library c.self.inside.library.value) c.self.inside.jobs c.args.place c.hold-job.result c.self.invariant.shown c.hold-job.ensures.job)
