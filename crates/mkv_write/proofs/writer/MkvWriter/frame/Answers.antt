use Rattle.std.proofs.Common.{◌≡◌, ◌%◌, ◌<◌, length, ap, ◌∙◌, arith}
use Rattle.mkv_write.specs.History.{writing_of}
use Rattle.mkv_write.specs.Writing.{Writing}
use Rattle.mkv_write.proofs.Files.{puts_err, unput}
use Rattle.mkv_write.proofs.Kept.{put_of-gathered}
use Rattle.mkv_write.proofs.writer.MkvWriter.frame.Goals as goal

pub returns-in_err-gather-clause-put : goal.returns-in_err-gather-clause-put
returns-in_err-gather-clause-put g c =
    puts_err _ _ _ _ c.from_residual-in_err-gather.ensures.0 (λ t. unput _ c.args.self.now c.args.packet.now (c.requires.held t))

pub returns-in_ok-gather-clause-put : goal.returns-in_ok-gather-clause-put
returns-in_ok-gather-clause-put g c =
    let view : length (writing_of c.self.inside.history c.self.inside.rate).packets ≡ length c.args.self.now.packets = ap (λ (x : Writing). length x.packets) c.self.view_is in
    let early : length c.args.self.now.packets % 25 < 24 = omega arith in
    λ t. c.requires.held t ∙ put_of-gathered c.args.self.now c.args.packet.now early
