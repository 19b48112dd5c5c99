use Rattle.std.proofs.Common.{sym, subst}
use Rattle.edit_undo.specs.History.{undo_outcome, IsSoundHistory}
use Rattle.render_core.specs.Parts.{HasOneOpen, AreShown}
use Rattle.render_core.proofs.Changes.{sound-made, sound-undo, one_open-after, shown-after}
use Rattle.render_core.proofs.machine.Machine.undo.Goals as goal

pub invariant_of-self-2 : goal.invariant_of-self-2
invariant_of-self-2 g c = record {
  sound = sound-made (IsSoundHistory (g.M.Media.library c.self.inside.library.value)) (undo_outcome c.self.inside.editor) c.self.inside.editor c.undo.new.self c.in_ok-reply.reply c.in_ok-reply.ensures c.self.invariant.sound (λ n e. sound-undo (g.M.Media.library c.self.inside.library.value) c.self.inside.editor n c.self.invariant.sound e);
  results_are = c.self.invariant.results_are;
  one_open = subst HasOneOpen (sym c.close_after.ensures) (one_open-after c.in_ok-reply.reply (g.L.Lane.cells c.lane.result.now) c.args.at c.self.inside.jobs c.self.invariant.one_open);
  shown = subst (AreShown (g.M.Media.library c.self.inside.library.value)) (sym c.close_after.ensures) (shown-after (g.M.Media.library c.self.inside.library.value) c.in_ok-reply.reply (g.L.Lane.cells c.lane.result.now) c.args.at c.self.inside.jobs c.self.invariant.shown);
  exports_sound = c.self.invariant.exports_sound;
}
