-- One slice more stands in the packet.
use Rattle.std.proofs.Common.{rules, ◌≤◌, ℕ, ◌++◌, List, length, ◌∙◌, ap, arith}
use Rattle.tl_limits.specs.Limits.{max_slice_bytes}
use Rattle.ffv1_frame.specs.Packet.{bytes_of}
use Rattle.ffv1_frame.specs.Written.{slice_of}
use Rattle.ffv1_frame.proofs.Packets.{one_put, by_rice}
use Rattle.ffv1_frame.proofs.encode_rice.rice_packet.Goals as goal

pub loop-cell-preserved : goal.loop-cell-preserved
loop-cell-preserved c =
    let small : length c.in_ok-content.content.items ≤ max_slice_bytes = omega (arith, c.if-len.false, c.len.ensures, c.in_ok-content.content.ok.0) in
    record {
      put = one_put c.args.record.now c.args.picture.now c.loop-cell.packet.items c.put_slice.new.packet.items c.in_ok-content.content.items c.loop-cell.cell c.ec.result c.loop-cell.invariant.put c.ec.ensures
          (by_rice c.args.record.now.coder_type _ c.args.picture.now _ c.in_ok-content.content.items c.requires.coder c.in_ok-content.ensures.content) small (c.in_ok-put_slice.ensures ∙ ap (λ (l : List ℕ). c.loop-cell.packet.items ++ bytes_of (slice_of c.ec.result l)) c.as_slice.ensures.value);
      room = c.rice_content.ensures.room ∙ c.loop-cell.invariant.room;
    }

pub returns-then-len : goal.returns-then-len
returns-then-len c = record {
  cell = c.loop-cell.cell;
  within = search rules;
  content = c.in_ok-content.content.items;
  written = by_rice c.args.record.now.coder_type _ c.args.picture.now _ c.in_ok-content.content.items c.requires.coder c.in_ok-content.ensures.content;
  long = omega (arith, c.if-len.true, c.len.ensures, c.in_ok-content.content.ok.0);
}
