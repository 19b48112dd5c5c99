use Rattle.std.proofs.Common.{sym, subst, ◌∙◌}
use Rattle.tl_model.specs.Sound.{IsSound}
use Rattle.render_core.specs.Parts.{AreSoundExports}
use Rattle.render_core.proofs.Renders.{sound_exports-push}
use Rattle.render_core.proofs.machine.Machine.ask.Goals as goal

pub invariant_of-self-2 : goal.invariant_of-self-2
invariant_of-self-2 g c =
    let lib = g.M.Media.library c.self.inside.library.value in
    record {
      sound = c.self.invariant.sound;
      results_are = c.self.invariant.results_are;
      one_open = c.self.invariant.one_open;
      shown = c.self.invariant.shown;
      exports_sound = subst (AreSoundExports lib) (sym c.in_ok-export.ensures.ok) (sound_exports-push lib c.self.inside.exports _ (subst (IsSound lib) (sym (c.in_ok-segments.ensures.whole ∙ c.lane-lane.ensures)) c.self.invariant.sound.line) c.self.invariant.exports_sound);
    }
