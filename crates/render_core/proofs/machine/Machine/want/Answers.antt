use Rattle.std.proofs.Common.{sym, subst}
use Rattle.tl_model.specs.Sound.{AreSound}
use Rattle.render_core.specs.State.{range}
use Rattle.render_core.specs.Parts.{HasOneOpen, AreShown, recipes_of}
use Rattle.render_core.proofs.JobLists.{one_open-want}
use Rattle.render_core.proofs.Renders.{shown-want}
use Rattle.render_core.proofs.machine.Machine.want.Goals as goal

pub invariant_of-self-2 : goal.invariant_of-self-2
invariant_of-self-2 g c =
    let lib = g.M.Media.library c.self.inside.library.value in
    let line = g.L.Lane.cells c.lane-2.result.now in
    record {
      sound = c.self.invariant.sound;
      results_are = c.self.invariant.results_are;
      one_open = subst HasOneOpen (sym c.in_ok-want_range.ensures.ok) (one_open-want (recipes_of c.self.inside.results) (range c.args.first c.args.len line) c.self.inside.jobs c.self.invariant.one_open);
      shown = subst (AreShown lib) (sym c.in_ok-want_range.ensures.ok) (shown-want lib (recipes_of c.self.inside.results) c.args.first c.args.len line c.self.inside.jobs (subst (AreSound lib) (sym c.lane-2.ensures) c.self.invariant.sound.line.shown) c.self.invariant.shown);
      exports_sound = c.self.invariant.exports_sound;
    }
