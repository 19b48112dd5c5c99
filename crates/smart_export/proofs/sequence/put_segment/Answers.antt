use Rattle.std.specs.Prelude.{Ok, Some}
use Rattle.std.proofs.Common.{◌≡◌, ◌+◌, ◌≤◌, List, [], ◌∷◌, length, take, drop, sym, ap, ◌∙◌, subst, arith, rules, take_all}
use Rattle.tl_model.specs.Media.{CanRender}
use Rattle.tl_model.specs.Cells.{cells_of, recipes}
use Rattle.tl_model.specs.declared.recipe.Recipe.{Recipe}
use Rattle.tl_model.specs.declared.fault.Ending.{Ending}
use Rattle.smart_export.specs.Ends.{Stops}
use Rattle.smart_export.specs.Stop.{ending_at}
use Rattle.smart_export.specs.Puts.{frames_on, PutsFrames}
use Rattle.smart_export.proofs.Parts.{puts_then, puts_stopped, puts-length}
use Rattle.smart_export.proofs.Timeline.{recipe_at, recipes-length, take-next, parts_at, frame-renders}
use Rattle.smart_export.proofs.sequence.put_segment.Goals as goal

pub put_frame-requires-clause-recipe : goal.put_frame-requires-clause-recipe
put_frame-requires-clause-recipe g c =
    let lib = g.M.Media.library c.args.media.now in
    subst (CanRender lib) (sym c.recipe_at.ensures) (frame-renders lib c.args.segment.now c.loop-i.i c.loop-i-test.true c.requires.sound)

pub returns-in-Err-clause-put : goal.returns-in-Err-clause-put
returns-in-Err-clause-put g c =
    let tells = g.V.Vault.tells in
    let held = (g.V.Vault.seen c.put_frame.new.vault).held in
    let lib = g.M.Media.library c.args.media.now in
    let rs : List Recipe = recipes (cells_of c.args.segment.now) in
    let i = c.loop-i.i in
    let r = c.recipe_at.result in
    let is = recipe_at c.args.segment.now i c.loop-i-test.true ∙ ap Some (sym c.recipe_at.ensures) in
    let why = ending_at c.in-Err.stop (length c.loop-i.writer.packets) in
    let same : why ≡ c.ending_at.result = ap (ending_at c.in-Err.stop) c.loop-i.invariant.place ∙ sym c.ending_at.ensures in
    let stopped = puts_stopped tells (g.V.Vault.seen c.loop-i.vault).held held lib (take i rs) (r ∷ []) (drop (i + 1) rs) c.args.writer.now c.loop-i.writer why c.loop-i.invariant.put c.in-Err.ensures.put in
    subst (λ (x : Ending). Stops tells held (frames_on lib rs c.args.writer.now) x) same
    (subst (λ (x : List Recipe). Stops tells held (frames_on lib x c.args.writer.now) why) (parts_at rs i r is) stopped)

pub loop-i-preserved : goal.loop-i-preserved
loop-i-preserved g c =
    let tells = g.V.Vault.tells in
    let held = (g.V.Vault.seen c.put_frame.new.vault).held in
    let lib = g.M.Media.library c.args.media.now in
    let rs : List Recipe = recipes (cells_of c.args.segment.now) in
    let i = c.loop-i.i in
    let r = c.recipe_at.result in
    let is = recipe_at c.args.segment.now i c.loop-i-test.true ∙ ap Some (sym c.recipe_at.ensures) in
    let put = puts_then tells (g.V.Vault.seen c.loop-i.vault).held held lib (take i rs) (r ∷ []) c.args.writer.now c.loop-i.writer c.put_frame.new.writer (Ok tt) c.loop-i.invariant.put c.in-Ok.ensures.put in
    let more : length c.put_frame.new.writer.packets ≡ length c.loop-i.writer.packets + 1 = puts-length tells held lib (r ∷ []) c.loop-i.writer c.put_frame.new.writer c.in-Ok.ensures.put in
    record {
      put = subst (λ (x : List Recipe). PutsFrames tells held (frames_on lib x c.args.writer.now) c.put_frame.new.writer (Ok tt)) (sym (take-next rs i r is)) put;
      place = omega arith;
      kept = search rules;
      calm = search rules;
    }

pub returns-clause-put : goal.returns-clause-put
returns-clause-put g c =
    let tells = g.V.Vault.tells in
    let held = (g.V.Vault.seen c.loop-i.vault).held in
    let lib = g.M.Media.library c.args.media.now in
    let rs : List Recipe = recipes (cells_of c.args.segment.now) in
    let all : length rs ≤ c.loop-i.i = omega (arith, recipes-length c.args.segment.now) in
    subst (λ (x : List Recipe). PutsFrames tells held (frames_on lib x c.args.writer.now) c.loop-i.writer (Ok tt)) (take_all c.loop-i.i rs all) c.loop-i.invariant.put
