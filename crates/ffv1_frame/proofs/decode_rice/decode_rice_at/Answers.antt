use Rattle.std.proofs.Common.{ℕ, ◌<◌, List, length, map, sym, subst, arith, Ok, Err}
use Rattle.std.specs.Prelude.{slice_index_or}
use Rattle.std.proofs.lemmas.Result.{err_from_is_err_and}
use Rattle.std.proofs.lemmas.List.{length-map}
use Rattle.ffv1_range.specs.Transition.{IsKept}
use Rattle.ffv1_frame.specs.Packet.{Slice, slice_at, no_slice}
use Rattle.ffv1_frame.proofs.Frames.{keeps-sentinel}
use Rattle.ffv1_frame.proofs.SliceSteps.{slice-gives, bad_front, bad_slice}
use Rattle.ffv1_frame.proofs.decode_rice.decode_rice_at.Goals as goal

pub header_at-requires-clause-spans : goal.header_at-requires-clause-spans
header_at-requires-clause-spans c = c.requires.found.each

pub header_at-requires-clause-few : goal.header_at-requires-clause-few
header_at-requires-clause-few c = c.requires.found.few

pub content-bytes-requires : goal.content-bytes-requires
content-bytes-requires c = c.requires.found.each

pub decode_rice_samples-requires-clause-content : goal.decode_rice_samples-requires-clause-content
decode_rice_samples-requires-clause-content c = omega (arith, c.content-bytes.ensures.few, c.requires.found.short)

pub returns-in_err-header-clause-gives : goal.returns-in_err-header-clause-gives
returns-in_err-header-clause-gives c =
    let p = err_from_is_err_and c.from_residual.result c.from_residual.ensures.1 in
    let slices : List Slice = map (slice_at c.args.packet.now) c.args.spans.now in
    let lt : c.args.i < length slices = omega (arith, length-map c.args.spans.now (slice_at c.args.packet.now), c.requires.within) in
    rw (p.1, p.2) (λ whole decodes. bad_front c.args.record.now c.args.shape c.args.packet.now slices c.args.i _ whole lt c.in_err-header.ensures.err)

pub returns-in-Ok-clause-gives : goal.returns-in-Ok-clause-gives
returns-in-Ok-clause-gives c =
    let slice : Slice = slice_index_or (map (slice_at c.args.packet.now) c.args.spans.now) c.args.i no_slice in
    slice-gives c.args.record.now c.args.shape c.args.i slice c.in_ok-header.header c.in_ok-header.reader c.content-bytes.result.now c.args.picture.now c.decode_rice_samples.new.picture (Ok tt)
    c.in_ok-header.ensures.ok c.content-bytes.ensures.content c.in-Ok.ensures.gives

pub returns-in-Err-clause-gives : goal.returns-in-Err-clause-gives
returns-in-Err-clause-gives c = λ whole decodes.
    let slices : List Slice = map (slice_at c.args.packet.now) c.args.spans.now in
    let slice : Slice = slice_index_or slices c.args.i no_slice in
    let lt : c.args.i < length slices = omega (arith, length-map c.args.spans.now (slice_at c.args.packet.now), c.requires.within) in
    rw c.slice_fault.ensures (bad_slice c.args.record.now c.args.shape c.args.packet.now slices c.args.picture.now c.decode_rice_samples.new.picture c.args.i c.in-Err.fault whole lt decodes
    (slice-gives c.args.record.now c.args.shape c.args.i slice c.in_ok-header.header c.in_ok-header.reader c.content-bytes.result.now c.args.picture.now c.decode_rice_samples.new.picture (Err c.in-Err.fault)
    c.in_ok-header.ensures.ok c.content-bytes.ensures.content c.in-Err.ensures.gives))

pub decode_rice_samples-requires-clause-kept : goal.decode_rice_samples-requires-clause-kept
decode_rice_samples-requires-clause-kept c =
    subst (λ (t : List ℕ). IsKept t 129) (sym c.in_ok-header.ensures.table) (keeps-sentinel c.args.record.now c.lawful.ensures.fields c.requires.coder)
