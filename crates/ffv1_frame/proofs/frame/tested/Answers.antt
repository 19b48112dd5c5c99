use Rattle.std.proofs.Common.{◌*◌, Bool, List, map, reverse, sym, subst, arith}
use Rattle.std.proofs.lemmas.Result.{err_from_is_err_and}
use Rattle.std.proofs.lemmas.List.{length-map}
use Rattle.ffv1_slice.specs.declared.header.Header.{Header}
use Rattle.ffv1_frame.specs.Packet.{Slice, EndsWith, slice_at}
use Rattle.ffv1_frame.specs.Cover.{AreCovered}
use Rattle.ffv1_frame.specs.Frame.{IsKeyFrame}
use Rattle.ffv1_frame.proofs.Frames.{key_frame}
use Rattle.ffv1_frame.proofs.frame.tested.Goals as goal

pub returns-in_err-test_parities-clause-err : goal.returns-in_err-test_parities-clause-err
returns-in_err-test_parities-clause-err c =
    let p = err_from_is_err_and c.from_residual.result c.from_residual.ensures.1 in
    let slices : List Slice = map (slice_at c.args.packet.now) c.args.spans.now in
    rw (p.1, p.2) (λ shape. c.in_err-test_parities.ensures.err c.args.record.now shape (sym c.ec.ensures) c.requires.some (subst (λ (b : Bool). EndsWith b c.args.packet.now (reverse slices)) (sym c.ec.ensures) c.requires.chain))

pub returns-in_err-headers-clause-err : goal.returns-in_err-headers-clause-err
returns-in_err-headers-clause-err c =
    let p = err_from_is_err_and c.from_residual-in_err-headers.result c.from_residual-in_err-headers.ensures.1 in
    let slices : List Slice = map (slice_at c.args.packet.now) c.args.spans.now in
    let frame : IsKeyFrame c.args.record.now c.args.packet.now slices =
    key_frame c.args.record.now c.args.packet.now slices c.ec.result c.is_key.result c.transition.result.now c.content-first.result.now c.ec.ensures c.requires.some c.requires.chain c.in_ok-test_parities.ensures.ok c.transition.ensures c.content-first.ensures.content c.is_key.ensures c.if-not-is_key.false in
    rw (p.1, p.2) (λ shape. c.in_err-headers.ensures.err shape frame)

pub returns-in-None-clause-ok : goal.returns-in-None-clause-ok
returns-in-None-clause-ok c =
    let slices : List Slice = map (slice_at c.args.packet.now) c.args.spans.now in
    let frame : IsKeyFrame c.args.record.now c.args.packet.now slices =
    key_frame c.args.record.now c.args.packet.now slices c.ec.result c.is_key.result c.transition.result.now c.content-first.result.now c.ec.ensures c.requires.some c.requires.chain c.in_ok-test_parities.ensures.ok c.transition.ensures c.content-first.ensures.content c.is_key.ensures c.if-not-is_key.false in (
      record { frame = frame; headers = c.in_ok-headers.ensures.ok.0; all = omega (arith, c.in_ok-headers.headers.ok.0, c.in_ok-headers.ensures.ok.1, length-map c.args.spans.now (slice_at c.args.packet.now)) },
      subst (λ (l : List Header). AreCovered c.args.record.now.columns l (c.args.record.now.columns * c.args.record.now.rows)) c.as_slice.ensures.value c.in-None.ensures,
    )
