use Rattle.std.proofs.Common.{◌≡◌}
use Rattle.ffv1_frame.proofs.Packets.{ArePut}
use Rattle.ffv1_frame.proofs.encode_rice.rice_packet.Given as goal

abbrev pub invariant-loop-cell : goal.invariant-loop-cell
invariant-loop-cell l = record {
  put : ArePut l.record l.picture l.packet.items l.cell;
  room : l.scratch ≡ l.initial.scratch;
}
