use Rattle.std.proofs.Common.{◌<◌, List, length, map, subst, arith, Result, Ok}
use Rattle.std.specs.Prelude.{slice_index_or}
use Rattle.std.proofs.lemmas.List.{length-map}
use Rattle.ffv1_slice.specs.declared.header.Header.{Header}
use Rattle.ffv1_slice.specs.declared.fault.HeaderFault.{HeaderFault}
use Rattle.ffv1_frame.specs.Packet.{Slice, slice_at, no_slice}
use Rattle.ffv1_frame.specs.Frame.{HeaderGives}
use Rattle.ffv1_frame.proofs.Frames.{bad_header}
use Rattle.ffv1_frame.proofs.frame.header_at.Goals as goal

pub returns-in-Ok-clause-ok : goal.returns-in-Ok-clause-ok
returns-in-Ok-clause-ok c =
    let slices : List Slice = map (slice_at c.args.packet.now) c.args.spans.now in
    subst (λ (r : Result Header HeaderFault). HeaderGives c.args.record.now c.args.i (slice_index_or slices c.args.i no_slice) c.open_slice-header.result.1 r) c.in-Ok.is c.open_slice-header.ensures.gives

pub returns-in-Err-clause-err : goal.returns-in-Err-clause-err
returns-in-Err-clause-err c = λ shape headers frame old at.
    let slices : List Slice = map (slice_at c.args.packet.now) c.args.spans.now in
    let lt : c.args.i < length slices = omega (arith, length-map c.args.spans.now (slice_at c.args.packet.now), c.requires.within) in
    rw c.header_fault.ensures (bad_header c.args.record.now shape c.args.packet.now slices headers c.args.i c.in-Err.fault c.open_slice-header.result.1 frame old at lt
    (subst (λ (r : Result Header HeaderFault). HeaderGives c.args.record.now c.args.i (slice_index_or slices c.args.i no_slice) c.open_slice-header.result.1 r) c.in-Err.is c.open_slice-header.ensures.gives))
