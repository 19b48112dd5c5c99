use Rattle.std.proofs.Common.{◌*◌, ◌/◌, ◌<◌, ◌+◌, ◌≤◌, ℕ, arith}
use Rattle.mkv_write.specs.File.{frame_time}
use Rattle.mkv_write.proofs.Times.{frame_time-le, frame_time-lt}
use Rattle.mkv_write.proofs.cluster.block_time.Goals as goal

pub overflow_sub-result : goal.overflow_sub-result
overflow_sub-result c =
    let frame : ℕ = c.args.frame in
    let h : frame_time c.args.rate (25 * (frame / 25)) ≤ frame_time c.args.rate frame = frame_time-le c.args.rate (25 * (frame / 25)) frame c.requires (omega arith) in
    omega arith

pub overflow_cast-result : goal.overflow_cast-result
overflow_cast-result c =
    let frame : ℕ = c.args.frame in
    let h : frame_time c.args.rate frame < frame_time c.args.rate (25 * (frame / 25)) + 24001 = frame_time-lt c.args.rate (25 * (frame / 25)) frame c.requires (omega arith) in
    omega arith
