use Rattle.std.proofs.Common.{List, sym, subst, ap, ◌∙◌}
use Rattle.tl_model.specs.Cells.{Cell}
use Rattle.edit_undo.specs.History.{edit_outcome, Makes, IsSoundHistory}
use Rattle.render_core.specs.State.{State}
use Rattle.render_core.specs.Parts.{MachineOf, HasOneOpen, AreShown, jobs_after}
use Rattle.render_core.proofs.Changes.{reason-edit, changes, sound-made, one_open-after, shown-after}
use Rattle.render_core.proofs.machine.Machine.edit.Goals as goal

pub invariant_of-self-2 : goal.invariant_of-self-2
invariant_of-self-2 g c = record {
  sound =
      let library = c.requires.library ∙ sym (ap (λ (m : MachineOf _). m.library) c.self.view_is) in
      let was = subst (λ lib. IsSoundHistory (g.M.Media.library lib) c.self.inside.editor) (sym library) c.self.invariant.sound in
      subst (λ lib. IsSoundHistory (g.M.Media.library lib) c.apply.new.self) library
      (sound-made (IsSoundHistory (g.M.Media.library c.args.media.now)) (edit_outcome (g.M.Media.library c.args.media.now) c.args.edit.now c.self.inside.editor) c.self.inside.editor c.apply.new.self c.in_ok-reply.reply c.in_ok-reply.ensures was (λ n e. c.keeps_sound_history.ensures.edit c.self.inside.editor n was e));
  results_are = c.self.invariant.results_are;
  one_open = subst HasOneOpen (sym c.close_after.ensures) (one_open-after c.in_ok-reply.reply (g.L.Lane.cells c.lane.result.now) c.args.at c.self.inside.jobs c.self.invariant.one_open);
  shown = subst (AreShown (g.M.Media.library c.self.inside.library.value)) (sym c.close_after.ensures) (shown-after (g.M.Media.library c.self.inside.library.value) c.in_ok-reply.reply (g.L.Lane.cells c.lane.result.now) c.args.at c.self.inside.jobs c.self.invariant.shown);
  exports_sound = c.self.invariant.exports_sound;
}

pub returns : goal.returns
returns g c =
    let made = subst (λ lib. Makes (edit_outcome (g.M.Media.library lib) c.args.edit.now c.self.inside.editor) c.self.inside.editor c.apply.new.self c.in_ok-reply.reply) c.requires.library c.in_ok-reply.ensures in
    changes _ c.args.self.now (λ (s : State). edit_outcome (g.M.Media.library c.args.self.now.library) c.args.edit.now s.history) c.args.at c.apply.new.self c.close_after.new.self c.in_ok-reply.reply c.self.view_is
    (reason-edit (g.M.Media.library c.args.self.now.library) c.args.edit.now c.self.inside.editor) made
    (c.close_after.ensures ∙ ap (λ (line : List Cell). jobs_after c.in_ok-reply.reply line c.args.at c.self.inside.jobs) c.lane.ensures)
