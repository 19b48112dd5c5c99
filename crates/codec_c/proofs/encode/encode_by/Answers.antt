use Rattle.std.proofs.Common.{sym, subst}
use Rattle.pic_planes.specs.Picture.{Image}
use Rattle.ffv1_record.specs.Suits.{Suits}
use Rattle.codec_c.proofs.encode.encode_by.Goals as goal

pub encode_frame-requires : goal.encode_frame-requires
encode_frame-requires c = subst (λ (i : Image). Suits c.args.clip.now.record i.shape) (sym c.in-Ok.ensures) c.requires
