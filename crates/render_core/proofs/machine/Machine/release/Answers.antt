use Rattle.std.proofs.Common.{◌-◌, sym, subst}
use Rattle.render_core.specs.Parts.{HasOneOpen, AreShown}
use Rattle.render_core.proofs.JobLists.{one_open-without_holder}
use Rattle.render_core.proofs.Renders.{shown-without_holder}
use Rattle.render_core.proofs.machine.Machine.release.Goals as goal

pub invariant_of-self : goal.invariant_of-self
invariant_of-self g c = record {
  sound = c.self.invariant.sound;
  results_are = c.self.invariant.results_are;
  one_open = subst HasOneOpen (sym c.let_go-held.ensures.jobs) (one_open-without_holder (c.claim.inside.job - 1) c.self.inside.jobs c.let_go-held.result c.let_go-held.ensures.job c.self.invariant.one_open);
  shown = subst (AreShown (g.M.Media.library c.self.inside.library.value)) (sym c.let_go-held.ensures.jobs) (shown-without_holder (g.M.Media.library c.self.inside.library.value) (c.claim.inside.job - 1) c.self.inside.jobs c.self.invariant.shown);
  exports_sound = c.self.invariant.exports_sound;
}
