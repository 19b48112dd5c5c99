use Rattle.std.proofs.Common.{refl, sym, subst, ap}
use Rattle.std.specs.Prelude.{slice_get}
use Rattle.tl_model.specs.Cells.{cells}
use Rattle.tl_model.specs.Sound.{IsSound}
use Rattle.render_core.specs.Export.{with_taker}
use Rattle.render_core.specs.Parts.{MachineOf, AreSoundExports}
use Rattle.render_core.proofs.Renders.{sound_exports-update, took_sound}
use Rattle.render_core.proofs.machine.Machine.take.Goals as goal

pub invariant_of-self : goal.invariant_of-self
invariant_of-self g c = record {
  sound = c.self.invariant.sound;
  results_are = c.self.invariant.results_are;
  one_open = c.self.invariant.one_open;
  shown = c.self.invariant.shown;
  exports_sound = subst (AreSoundExports (g.M.Media.library c.self.inside.library.value)) (sym c.take.ensures.exports) (sound_exports-update (g.M.Media.library c.self.inside.library.value) (with_taker c.args.by) (λ x s. s) c.args.place c.self.inside.exports c.self.invariant.exports_sound);
}

pub returns-clause-sound : goal.returns-clause-sound
returns-clause-sound g c =
    let library = ap (λ (m : MachineOf _). m.library) c.self.view_is in
    subst (λ lib. IsSound (g.M.Media.library lib) (cells c.take.result.segments)) library
    (took_sound (g.M.Media.library c.self.inside.library.value) c.self.inside.exports c.args.place (slice_get c.self.inside.exports c.args.place) c.take.result.name (cells c.take.result.segments) refl c.self.invariant.exports_sound c.take.ensures.parts)
