use Rattle.std.proofs.Common.{ap, Ok, Err}
use Rattle.clip_store.specs.Clip.{ClipOf}
use Rattle.clip_store.proofs.Coding.{frame_is}
use Rattle.clip_store.proofs.clip.Clip.decoded.Goals as goal

pub returns-in-Ok : goal.returns-in-Ok
returns-in-Ok c =
    frame_is c.args.self.now c.args.frame c.self.inside.record c.self.inside.shape c.packet.result.now (Ok c.in-Ok.picture) (ap (λ (k : ClipOf). k.parameters) c.self.view_is)
    (ap (λ (k : ClipOf). k.shape) c.self.view_is) c.packet.ensures.bytes c.in-Ok.ensures

pub returns-in-Err-Frame : goal.returns-in-Err-Frame
returns-in-Err-Frame c =
    frame_is c.args.self.now c.args.frame c.self.inside.record c.self.inside.shape c.packet.result.now (Err c.in-Err-Frame.kind) (ap (λ (k : ClipOf). k.parameters) c.self.view_is)
    (ap (λ (k : ClipOf). k.shape) c.self.view_is) c.packet.ensures.bytes (rw c.in-Err-Frame.field-0-is at c.in-Err-Frame.ensures)
