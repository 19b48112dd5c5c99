use Rattle.std.proofs.Common.{◌-◌, sym, subst, ap, ◌∙◌}
use Rattle.std.proofs.lemmas.Option.{slice_get_within, same_Some}
use Rattle.tl_model.specs.Media.{RenderedOf}
use Rattle.render_core.specs.declared.job.Job.{Job}
use Rattle.render_core.specs.Claim.{ClaimOf}
use Rattle.render_core.specs.Parts.{MachineOf, HasOneOpen, AreShown, recipes_of}
use Rattle.render_core.proofs.JobLists.{one_open-without_holder, one_open-with_result}
use Rattle.render_core.proofs.Renders.{shown-without_holder, shown-with_result}
use Rattle.render_core.proofs.Turns.{held_inside, AreOf-filed, ends_open, recipes-filed}
use Rattle.render_core.proofs.machine.Machine.file.Goals as goal

pub invariant_of-self : goal.invariant_of-self
invariant_of-self g c = record {
  sound = c.self.invariant.sound;
  results_are = c.self.invariant.results_are;
  one_open = subst HasOneOpen (sym c.let_go.ensures.jobs) (one_open-without_holder (c.claim.inside.job - 1) c.self.inside.jobs c.let_go.result c.let_go.ensures.job c.self.invariant.one_open);
  shown = subst (AreShown (g.M.Media.library c.self.inside.library.value)) (sym c.let_go.ensures.jobs) (shown-without_holder (g.M.Media.library c.self.inside.library.value) (c.claim.inside.job - 1) c.self.inside.jobs c.self.invariant.shown);
  exports_sound = c.self.invariant.exports_sound;
}

pub end-requires : goal.end-requires
end-requires g c = slice_get_within c.self.inside.jobs (c.claim.inside.job - 1) c.at.result c.at.ensures

pub invariant_of-self-in-Ok : goal.invariant_of-self-in-Ok
invariant_of-self-in-Ok g c =
    let library = ap (λ (r : RenderedOf _). r.library) c.requires.rendered ∙ sym (ap (λ (m : MachineOf _). m.library) c.self.view_is) in
    record {
      sound = c.self.invariant.sound;
      results_are = AreOf-filed c.self.inside.library.value c.self.inside.cache c.args.rendered c.self.inside.results c.put_first.new.self library c.self.invariant.results_are c.in-Ok.ensures.ok;
      one_open = subst HasOneOpen (sym c.end.ensures) (one_open-with_result c.args.at (c.claim.inside.job - 1) c.self.inside.jobs c.at.result c.at.ensures c.self.invariant.one_open);
      shown = subst (AreShown (g.M.Media.library c.self.inside.library.value)) (sym c.end.ensures) (shown-with_result (g.M.Media.library c.self.inside.library.value) c.args.at (c.claim.inside.job - 1) c.self.inside.jobs c.self.invariant.shown);
      exports_sound = c.self.invariant.exports_sound;
    }

pub returns-in-Ok-clause-done : goal.returns-in-Ok-clause-done
returns-in-Ok-clause-done g c =
    let idx = ap (λ (cl : ClaimOf). cl.job - 1) c.claim.view_is in
    let held = held_inside _ c.args.self.now (c.claim.inside.job - 1) (c.args.claim.job - 1) _ c.self.view_is idx c.requires.held.1.is_job in
    let recipe = ap (λ (r : RenderedOf _). r.recipe) c.requires.rendered ∙ sym (ap (λ (j : Job). j.recipe) (same_Some c.at.result _ (sym c.at.ensures ∙ held))) in
    ends_open _ c.args.self.now c.args.at (c.claim.inside.job - 1) (c.args.claim.job - 1) c.end.new.self (recipes_of c.put_first.new.self) c.at.result c.self.view_is idx c.at.ensures c.in_default.is c.end.ensures (recipes-filed c.self.inside.cache c.args.rendered c.self.inside.results c.put_first.new.self c.at.result.recipe c.in-Ok.ensures.ok recipe)
