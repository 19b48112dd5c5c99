use Rattle.std.proofs.Common.{◌≡◌, ◌++◌, length, ap, ◌∙◌, arith, length-append}
use Rattle.mkv_write.specs.File.{simple_block}
use Rattle.mkv_write.proofs.Lengths.{length-simple_block}
use Rattle.mkv_write.proofs.cluster.put_full_cluster.Goals as goal

pub put_cluster-requires-clause-fits : goal.put_cluster-requires-clause-fits
put_cluster-requires-clause-fits g c =
    let block = length-simple_block c.args.block_time c.args.packet.now in
    let all = length-append c.args.blocks.now.items (simple_block c.args.block_time c.args.packet.now) in
    let whole : length c.deref.result.now ≡ length (c.args.blocks.now.items ++ simple_block c.args.block_time c.args.packet.now) = ap length (c.deref.ensures.value ∙ c.in_ok-given.ensures.ok) in
    omega arith
