use Rattle.std.proofs.Common.{◌≡◌, ◌+◌, List, length, sym, subst, arith}
use Rattle.std.proofs.lemmas.List.{length-map}
use Rattle.tl_model.specs.Cells.{cells, recipes, recipe_of}
use Rattle.tl_model.specs.declared.recipe.Recipe.{Recipe}
use Rattle.tl_model.specs.declared.fault.Ending.{Ending}
use Rattle.smart_export.specs.Ends.{Ends}
use Rattle.smart_export.specs.Puts.{frames_on}
use Rattle.smart_export.proofs.Parts.{puts-length}
use Rattle.smart_export.proofs.Endings.{ends_done, ends_unfinished, ends_stopped}
use Rattle.smart_export.proofs.sequence.write_started.Goals as goal

pub finish-requires-clause-frames : goal.finish-requires-clause-frames
finish-requires-clause-frames g c =
    let line = cells c.args.segments.now in
    let after = c.put_segments.new.writer in
    let all : length after.packets ≡ length c.args.writer.packets + length (recipes line) = puts-length g.V.Vault.tells (g.V.Vault.seen c.put_segments.new.vault).held (g.M.Media.library c.args.media.now) (recipes line) c.args.writer after c.in-Ok.ensures.put in
    omega (arith, length-map line recipe_of)

pub returns-in-Ok-finish-clause-ended : goal.returns-in-Ok-finish-clause-ended
returns-in-Ok-finish-clause-ended g c =
    let lib = g.M.Media.library c.args.media.now in
    let rs : List Recipe = recipes (cells c.args.segments.now) in
    let mid = (g.V.Vault.seen c.put_segments.new.vault).held in
    let after = c.put_segments.new.writer in
    ends_done g.V.Vault.tells mid (g.V.Vault.seen c.finish.new.vault).held lib rs c.args.writer after c.in-Ok-finish.frames c.requires.fresh c.in-Ok.ensures.put
    c.in-Ok-finish.ensures.frames (puts-length g.V.Vault.tells mid lib rs c.args.writer after c.in-Ok.ensures.put) c.in-Ok-finish.ensures.put

pub returns-in-Err-finish-clause-ended : goal.returns-in-Err-finish-clause-ended
returns-in-Err-finish-clause-ended g c =
    let lib = g.M.Media.library c.args.media.now in
    let rs : List Recipe = recipes (cells c.args.segments.now) in
    let held = (g.V.Vault.seen c.finish.new.vault).held in
    subst (λ (x : Ending). Ends g.V.Vault.tells held (frames_on lib rs c.args.writer) x) (sym c.ending_of.ensures)
    (ends_unfinished g.V.Vault.tells (g.V.Vault.seen c.put_segments.new.vault).held held lib rs c.args.writer c.put_segments.new.writer c.in-Err-finish.fault c.in-Ok.ensures.put c.in-Err-finish.ensures.put)

pub returns-in-Err-clause-ended : goal.returns-in-Err-clause-ended
returns-in-Err-clause-ended g c =
    let lib = g.M.Media.library c.args.media.now in
    ends_stopped g.V.Vault.tells (g.V.Vault.seen c.put_segments.new.vault).held (frames_on lib (recipes (cells c.args.segments.now)) c.args.writer) c.in-Err.ending c.in-Err.ensures.put
