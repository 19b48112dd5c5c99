use Rattle.std.proofs.Common.{drop, sym, subst, arith}
use Rattle.std.proofs.lemmas.List.{length-take}
use Rattle.tl_model.specs.Cells.{recipes}
use Rattle.render_core.specs.State.{range}
use Rattle.render_core.specs.Parts.{HasOneOpen, AreShown}
use Rattle.render_core.proofs.JobLists.{one_open-close, count-in_range}
use Rattle.render_core.proofs.Renders.{shown-close}
use Rattle.render_core.proofs.machine.Machine.cancel.Goals as goal

pub overflow_cast-count : goal.overflow_cast-count
overflow_cast-count g c =
    let line = g.L.Lane.cells c.lane-2.result.now in
    let most = count-in_range c.self.inside.jobs (range c.args.first c.args.len line) c.self.invariant.one_open in
    let len = length-take c.args.len (drop c.args.first (recipes line)) in
    omega (arith, most, c.count_range-count.ensures, len)

pub invariant_of-self : goal.invariant_of-self
invariant_of-self g c = record {
  sound = c.self.invariant.sound;
  results_are = c.self.invariant.results_are;
  one_open = subst HasOneOpen (sym c.close_range.ensures) (one_open-close _ c.args.at c.self.inside.jobs c.self.invariant.one_open);
  shown = subst (AreShown (g.M.Media.library c.self.inside.library.value)) (sym c.close_range.ensures) (shown-close (g.M.Media.library c.self.inside.library.value) _ c.args.at c.self.inside.jobs c.self.invariant.shown);
  exports_sound = c.self.invariant.exports_sound;
}
