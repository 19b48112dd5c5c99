use Rattle.std.proofs.Common.{◌-◌, sym, subst}
use Rattle.render_core.specs.Export.{with_ending}
use Rattle.render_core.specs.Parts.{AreSoundExports}
use Rattle.render_core.proofs.Renders.{sound_exports-update}
use Rattle.render_core.proofs.machine.Machine.end_export.Goals as goal

pub invariant_of-self : goal.invariant_of-self
invariant_of-self g c = record {
  sound = c.self.invariant.sound;
  results_are = c.self.invariant.results_are;
  one_open = c.self.invariant.one_open;
  shown = c.self.invariant.shown;
  exports_sound = subst (AreSoundExports (g.M.Media.library c.self.inside.library.value)) (sym c.end.ensures) (sound_exports-update (g.M.Media.library c.self.inside.library.value) (with_ending c.args.ending) (λ x s. s) (c.job.inside.export - 1) c.self.inside.exports c.self.invariant.exports_sound);
}
