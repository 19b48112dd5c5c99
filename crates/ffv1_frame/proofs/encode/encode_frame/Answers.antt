use Rattle.std.proofs.Common.{◌≤◌, length, arith}
use Rattle.tl_limits.specs.Limits.{max_packet_bytes}
use Rattle.ffv1_frame.proofs.PictureBack.{packet_few}
use Rattle.ffv1_frame.proofs.encode.encode_frame.Goals as goal

pub returns-in-Ok-Some-clause-few : goal.returns-in-Ok-Some-clause-few
returns-in-Ok-Some-clause-few c =
    let few : length c.in-Ok-Some.packet.items ≤ max_packet_bytes = packet_few c.args.record.now c.args.picture.now c.in-Ok-Some.packet.items c.lawful.ensures.fields (rw c.in-Ok-Some.field-0-is at c.in-Ok-Some.ensures) in
    omega (arith, c.in-Ok-Some.packet.ok.0, few)
