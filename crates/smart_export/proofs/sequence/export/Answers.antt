use Rattle.std.proofs.Common.{◌≡◌, ℕ, List, sym, ap, ◌∙◌, subst}
use Rattle.tl_model.specs.Cells.{cells, recipes}
use Rattle.tl_model.specs.declared.segment.Segment.{Segment}
use Rattle.tl_ports.specs.Outside.{Rose}
use Rattle.tl_model.specs.declared.fault.Ending.{Ending}
use Rattle.mkv_write.specs.Writing.{Writing, nothing_yet, put_of, IsPrefix}
use Rattle.smart_export.specs.Rendered.{HavePackets}
use Rattle.smart_export.specs.Ends.{Ends, all_frames}
use Rattle.smart_export.specs.Puts.{frames_on}
use Rattle.smart_export.proofs.Endings.{ends_unstarted, completes}
use Rattle.smart_export.proofs.sequence.export.Goals as goal

pub returns-in-Ok-clause-complete : goal.returns-in-Ok-clause-complete
returns-in-Ok-clause-complete g c =
    let lib = g.M.Media.library c.args.media.now in
    let V = g.V.Vault in
    λ have calm.
    completes V.tells (V.seen c.write_started.new.vault).held (frames_on lib (recipes (cells c.as_slice.result.now)) c.in-Ok.writer) (V.seen c.start.new.vault).faults (V.seen c.write_started.new.vault).faults c.write_started.result
    c.write_started.ensures.ended c.write_started.ensures.cause
    (subst (λ (ss : List Segment). HavePackets lib (recipes (cells ss))) (sym c.as_slice.ensures) have)
    (subst (λ (n : ℕ). Rose n (V.seen c.write_started.new.vault).faults → ⊥) (sym c.in-Ok.ensures.cause) calm)

pub returns-in-Err-clause-ended : goal.returns-in-Err-clause-ended
returns-in-Err-clause-ended g c =
    let lib = g.M.Media.library c.args.media.now in
    let V = g.V.Vault in
    let held : List ℕ = (V.seen c.start.new.vault).held in
    let frames = all_frames lib (cells c.args.state.now) c.args.rate in
    let same : nothing_yet c.private.result.now c.size-width.result.0 c.size-width.result.1 c.args.rate ≡ frames.file =
    ap (λ (private : List ℕ). nothing_yet private c.size-width.result.0 c.size-width.result.1 c.args.rate) c.private.ensures.bytes
    ∙ ap (λ (width : ℕ). nothing_yet lib.record_bytes width c.size-width.result.1 c.args.rate) c.size-width.ensures.width
    ∙ ap (λ (height : ℕ). nothing_yet lib.record_bytes lib.width height c.args.rate) c.size-width.ensures.height in
    subst (λ (x : Ending). Ends V.tells held frames x) (sym c.ending_of.ensures)
    (ends_unstarted V.tells held lib frames.recipes frames.file c.in-Err.fault (λ told. subst (λ (w : Writing). IsPrefix held (put_of w)) same (c.in-Err.ensures.put told)))
