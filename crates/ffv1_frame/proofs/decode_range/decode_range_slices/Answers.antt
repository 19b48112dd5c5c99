use Rattle.std.proofs.Common.{◌≡◌, ℕ, List, length, map, sym, subst, ◌∙◌, arith}
use Rattle.std.proofs.lemmas.List.{length-map}
use Rattle.ffv1_frame.specs.Packet.{Slice, slice_at}
use Rattle.ffv1_frame.specs.Frame.{DecodesTo, HasRoom}
use Rattle.ffv1_frame.proofs.SliceSteps.{filled-shape, decodes-next, has_room}
use Rattle.ffv1_frame.proofs.decode_range.decode_range_slices.Goals as goal

pub loop-i-init : goal.loop-i-init
loop-i-init c = record {
  decodes = c.in_ok-picture.ensures;
  shape = filled-shape c.args.shape c.in_ok-picture.picture c.in_ok-picture.ensures;
  room = has_room c.args.record.now c.args.shape c.most_contexts.result c.width-width.result c.in_ok-scratch.scratch c.in_ok-scratch.ensures c.width-width.ensures.width c.most_contexts.ensures;
}

pub loop-i-preserved : goal.loop-i-preserved
loop-i-preserved c =
    let slices : List Slice = map (slice_at c.args.packet.now) c.args.spans.now in
    record {
      decodes = decodes-next c.args.record.now c.args.shape slices c.loop-i.i c.loop-i.picture c.decode_range_at.new.picture c.loop-i.invariant.decodes c.in_ok-decode_range_at.ensures.gives;
      shape = c.in_ok-decode_range_at.ensures.shape ∙ c.loop-i.invariant.shape;
      room = subst (HasRoom c.args.record.now c.args.shape) (sym c.in_ok-decode_range_at.ensures.room) c.loop-i.invariant.room;
    }

pub returns : goal.returns
returns c =
    let slices : List Slice = map (slice_at c.args.packet.now) c.args.spans.now in
    let at : c.loop-i.i ≡ length slices = omega (arith, length-map c.args.spans.now (slice_at c.args.packet.now), c.loop-i-test.false, c.loop-i.auto.i-end) in
    (slices, c.requires.whole, subst (λ (n : ℕ). DecodesTo c.args.record.now c.args.shape slices n c.loop-i.picture) at c.loop-i.invariant.decodes)
