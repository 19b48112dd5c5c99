use Rattle.std.proofs.Common.{◌≡◌, ap, subst}
use Rattle.ffv1_record.specs.Parameters.{Parameters}
use Rattle.ffv1_frame.specs.Written.{Encodes}
use Rattle.clip_store.specs.Library.{OutputOf}
use Rattle.clip_store.proofs.Coding.{encodes}
use Rattle.clip_store.proofs.format.Output.encode.Goals as goal

pub returns : goal.returns
returns c =
    let same : c.self.inside.record ≡ c.args.self.now.parameters = ap (λ (o : OutputOf). o.parameters) c.self.view_is in
    encodes c.args.self.now c.args.picture.now c.encode_frame.result c.shape-shape.ensures.sound
    (subst (λ (p : Parameters). Encodes p c.args.picture.now c.encode_frame.result) same c.encode_frame.ensures.written) c.encode_frame.ensures.few
