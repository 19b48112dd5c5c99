use Rattle.std.proofs.Common.{List, refl, sym, ap, subst, ◌∙◌}
use Rattle.std.specs.Prelude.{slice_get}
use Rattle.tl_model.specs.Cells.{Cell, recipes}
use Rattle.tl_model.specs.Media.{CanRender}
use Rattle.tl_model.proofs.Renders.{line-renders}
use Rattle.render_core.specs.Board.{of_play}
use Rattle.render_core.specs.Parts.{MachineOf}
use Rattle.render_core.proofs.Turns.{place_within, at_some, not_pending, AreOf-at, AreOf-moved, plays}
use Rattle.render_core.proofs.machine.Machine.play.Goals as goal

pub returns-in_default-clause-renders : goal.returns-in_default-clause-renders
returns-in_default-clause-renders g c =
    let library = ap (λ (m : MachineOf _). m.library) c.self.view_is in
    let at = ap (λ (line : List Cell). slice_get (recipes line) c.args.n) (sym c.lane-lane.ensures) ∙ c.recipe_in-recipe.ensures in
    subst (λ lib. CanRender (g.M.Media.library lib) c.recipe_in-recipe.result) library (line-renders (g.M.Media.library c.self.inside.library.value) c.self.inside.editor.line c.args.n c.recipe_in-recipe.result c.self.invariant.sound.line.shown at)

pub invariant_of-self : goal.invariant_of-self
invariant_of-self g c =
    let results = c.self.inside.results in
    let place = c.in-Some.place in
    let found = at_some results place (place_within results place c.in-Some.ensures.0) in
    record {
      sound = c.self.invariant.sound;
      results_are = AreOf-moved c.self.inside.library.value place found.0 results c.move_first.new.self c.self.invariant.results_are found.1 (c.move_first.ensures found.0 found.1);
      one_open = c.self.invariant.one_open;
      shown = c.self.invariant.shown;
      exports_sound = c.self.invariant.exports_sound;
    }

pub returns-clause-turn : goal.returns-clause-turn
returns-clause-turn g c =
    let results = c.self.inside.results in
    let place = c.in-Some.place in
    let found = at_some results place (place_within results place c.in-Some.ensures.0) in
    let at = ap (λ (line : List Cell). slice_get (recipes line) c.args.n) (sym c.lane-lane.ensures) ∙ c.recipe_in-recipe.ensures in
    plays g.M.Media.library _ c.args.self.now c.args.n place c.recipe_in-recipe.result results c.move_first.new.self found.0 (of_play c.in_ok-given.given) c.self.view_is refl at c.in-Some.ensures found.1
    (AreOf-at c.self.inside.library.value results place found.0 c.self.invariant.results_are found.1) (c.move_first.ensures found.0 found.1) (c.in_ok-given.ensures found.0 found.1)

pub returns-clause-renders : goal.returns-clause-renders
returns-clause-renders g c =
    let results = c.self.inside.results in
    let found = at_some results c.in-Some.place (place_within results c.in-Some.place c.in-Some.ensures.0) in
    not_pending c.in_ok-given.given ((g.M.Media.library found.0.library).render found.0.recipe) _ (c.in_ok-given.ensures found.0 found.1)
