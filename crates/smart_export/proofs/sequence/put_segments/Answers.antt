use Rattle.std.specs.Prelude.{Ok, None}
use Rattle.std.proofs.Common.{◌≡◌, ℕ, ◌+◌, ◌<◌, ◌≤◌, List, length, take, drop, get_or, sym, subst, arith, rules}
use Rattle.tl_model.specs.Cells.{cells_of, cells, recipes}
use Rattle.tl_model.specs.declared.recipe.Side.TheVariants as side
use Rattle.tl_model.specs.declared.recipe.Recipe.{Recipe}
use Rattle.tl_model.specs.declared.segment.Segment.{Segment}
use Rattle.smart_export.specs.Ends.{Stops}
use Rattle.smart_export.specs.Puts.{frames_on, PutsFrames}
use Rattle.smart_export.proofs.Parts.{puts_then, puts_stopped, puts-length}
use Rattle.smart_export.proofs.Timeline.{recipes-length, recipes-next, recipes_parts, recipes-room, segment_is_sound, segment_is_piece}
use Rattle.smart_export.proofs.sequence.put_segments.Goals as goal

-- Where an index is past the end.
black : Segment
black = record { first = side.Black; len = 0; mix = None }

-- A segment's frames have room after those before it.
has_room : (ss : List Segment) (k place before now : ℕ) → k < length ss → place ≡ now → now ≡ before + length (recipes (cells (take k ss))) → before ≡ 0 → length (cells ss) ≤ 1000000 → place + (get_or ss k black).len ≤ 1000000
has_room ss k place before now h is all fresh most = omega (arith, recipes-room ss k black h, recipes-length (get_or ss k black))

pub put_segment-requires-clause-piece : goal.put_segment-requires-clause-piece
unfolding black
put_segment-requires-clause-piece g c = segment_is_piece c.args.segments.now c.loop-segment.segment-index black c.loop-segment-test.true c.requires.pieces

pub put_segment-requires-clause-sound : goal.put_segment-requires-clause-sound
unfolding black
put_segment-requires-clause-sound g c =
    segment_is_sound (g.M.Media.library c.args.media.now) c.args.segments.now c.loop-segment.segment-index black c.loop-segment-test.true c.requires.sound.shown

pub put_segment-requires-clause-room : goal.put_segment-requires-clause-room
unfolding black
put_segment-requires-clause-room g c =
    let ss = c.args.segments.now in
    let k = c.loop-segment.segment-index in
    let w = c.args.writer.now in
    let now = c.loop-segment.writer in
    has_room ss k c.loop-segment.place (length w.packets) (length now.packets) c.loop-segment-test.true c.loop-segment.invariant.place
    (puts-length g.V.Vault.tells (g.V.Vault.seen c.loop-segment.vault).held (g.M.Media.library c.args.media.now) (recipes (cells (take k ss))) w now c.loop-segment.invariant.put)
    c.requires.fresh c.requires.sound.frames

pub overflow_add-place : goal.overflow_add-place
unfolding black
overflow_add-place g c =
    let ss = c.args.segments.now in
    let k = c.loop-segment.segment-index in
    let w = c.args.writer.now in
    let now = c.loop-segment.writer in
    let room = has_room ss k c.loop-segment.place (length w.packets) (length now.packets) c.loop-segment-test.true c.loop-segment.invariant.place
    (puts-length g.V.Vault.tells (g.V.Vault.seen c.loop-segment.vault).held (g.M.Media.library c.args.media.now) (recipes (cells (take k ss))) w now c.loop-segment.invariant.put)
    c.requires.fresh c.requires.sound.frames in
    omega arith

pub returns-in-Err-clause-put : goal.returns-in-Err-clause-put
unfolding black
returns-in-Err-clause-put g c =
    let tells = g.V.Vault.tells in
    let held = (g.V.Vault.seen c.put_segment.new.vault).held in
    let lib = g.M.Media.library c.args.media.now in
    let ss = c.args.segments.now in
    let k = c.loop-segment.segment-index in
    let why = c.in-Err.ending in
    let stopped = puts_stopped tells (g.V.Vault.seen c.loop-segment.vault).held held lib (recipes (cells (take k ss))) (recipes (cells_of (get_or ss k black))) (recipes (cells (drop (k + 1) ss)))
    c.args.writer.now c.loop-segment.writer why c.loop-segment.invariant.put c.in-Err.ensures.put in
    subst (λ (x : List Recipe). Stops tells held (frames_on lib x c.args.writer.now) why) (recipes_parts ss k black c.loop-segment-test.true) stopped

pub loop-segment-preserved : goal.loop-segment-preserved
unfolding black
loop-segment-preserved g c =
    let tells = g.V.Vault.tells in
    let held = (g.V.Vault.seen c.put_segment.new.vault).held in
    let lib = g.M.Media.library c.args.media.now in
    let ss = c.args.segments.now in
    let k = c.loop-segment.segment-index in
    let own : List Recipe = recipes (cells_of (get_or ss k black)) in
    let put = puts_then tells (g.V.Vault.seen c.loop-segment.vault).held held lib (recipes (cells (take k ss))) own
    c.args.writer.now c.loop-segment.writer c.put_segment.new.writer (Ok tt) c.loop-segment.invariant.put c.in-Ok.ensures.put in
    let more : length c.put_segment.new.writer.packets ≡ length c.loop-segment.writer.packets + length own = puts-length tells held lib own c.loop-segment.writer c.put_segment.new.writer c.in-Ok.ensures.put in
    record {
      put = subst (λ (x : List Recipe). PutsFrames tells held (frames_on lib x c.args.writer.now) c.put_segment.new.writer (Ok tt)) (sym (recipes-next ss k black c.loop-segment-test.true)) put;
      place = omega (arith, recipes-length (get_or ss k black));
      kept = search rules;
      calm = search rules;
    }
