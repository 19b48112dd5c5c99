use Rattle.std.proofs.Common.{List, subst, ◌∙◌}
use Rattle.tl_model.specs.Cells.{cells}
use Rattle.tl_model.specs.declared.segment.Segment.{Segment}
use Rattle.smart_export.specs.Ends.{all_frames, Ends}
use Rattle.play_head.specs.Carrying.{carried_as}
use Rattle.play_head.proofs.Carried.{carries_begun}
use Rattle.play_head.proofs.exports.carry_begun.Goals as goal

pub returns : goal.returns
returns g c =
    let V = g.V.Vault in
    let lib = g.M.Media.library c.args.media.now in
    let job = c.args.job.now in
    let mid = c.export-written.new.vault in
    carries_begun (record { library = lib; rate = c.args.rate; tells = V.tells }) (V.seen c.args.vault.now) (V.seen mid) (V.seen c.end-ended.new.self) (carried_as job c.ending_after.result) c.export-written.result c.end-ended.result
    c.ending_after.ensures c.requires.begun c.export-written.ensures.kept
    (λ told. g.met.V.Vault.held_is told mid job.name (c.export-written.ensures.kept.same ∙ c.requires.begun))
    c.end-ended.ensures.files
    (subst (λ (ss : List Segment). Ends V.tells (V.seen mid).held (all_frames lib (cells ss) c.args.rate) c.export-written.result) c.state.ensures.segments c.export-written.ensures.ended)
    c.export-written.ensures.cause c.end-ended.ensures.cause c.end-ended.ensures.later c.end-ended.ensures.begun
