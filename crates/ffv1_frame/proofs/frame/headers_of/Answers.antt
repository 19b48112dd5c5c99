use Rattle.std.proofs.Common.{◌≡◌, ℕ, List, length, map, subst, arith, Ok}
use Rattle.std.specs.Prelude.{slice_index_or}
use Rattle.std.proofs.lemmas.Result.{err_from_is_err_and}
use Rattle.std.proofs.lemmas.List.{length-map}
use Rattle.ffv1_frame.specs.Packet.{Slice, slice_at, no_slice}
use Rattle.ffv1_frame.specs.Frame.{HeaderGives}
use Rattle.ffv1_frame.proofs.Frames.{no_headers, one_header}
use Rattle.ffv1_frame.proofs.frame.headers_of.Goals as goal

pub loop-i-init : goal.loop-i-init
loop-i-init c = record {
  headers = rw c.new-headers.ensures.items (no_headers c.args.record.now (map (slice_at c.args.packet.now) c.args.spans.now));
  len = c.new-headers.ensures.len;
}

pub returns-in_err-header-clause-err : goal.returns-in_err-header-clause-err
returns-in_err-header-clause-err c =
    let p = err_from_is_err_and c.from_residual.result c.from_residual.ensures.1 in
    let at : c.loop-i.i ≡ length c.loop-i.headers.items = omega (arith, c.loop-i.headers.ok.0, c.loop-i.invariant.len) in
    rw (p.1, p.2) (λ shape frame. c.in_err-header.ensures.err shape c.loop-i.headers.items frame c.loop-i.invariant.headers at)

pub loop-i-preserved : goal.loop-i-preserved
loop-i-preserved c =
    let slices : List Slice = map (slice_at c.args.packet.now) c.args.spans.now in
    let at : c.loop-i.i ≡ length c.loop-i.headers.items = omega (arith, c.loop-i.headers.ok.0, c.loop-i.invariant.len) in
    record {
      headers = rw c.in_ok-push.ensures.items (one_header c.args.record.now slices c.loop-i.headers.items c.in_ok-header.header c.in_ok-header._reader c.loop-i.invariant.headers
          (omega (arith, at, length-map c.args.spans.now (slice_at c.args.packet.now), c.loop-i-test.true))
          (subst (λ (k : ℕ). HeaderGives c.args.record.now k (slice_index_or slices k no_slice) c.in_ok-header._reader (Ok c.in_ok-header.header)) at c.in_ok-header.ensures.ok));
      len = omega (arith, c.in_ok-push.ensures.len, c.loop-i.invariant.len);
    }
