use Rattle.std.proofs.Common.{◌≡◌, length, sym, ap, ◌∙◌, refl, subst, arith, Ok}
use Rattle.pic_planes.specs.Shape.{Layout}
use Rattle.pic_planes.specs.Picture.{Image}
use Rattle.pic_planes.specs.Bytes.{sizes, sample_count, image_in}
use Rattle.ffv1_frame.specs.Frame.{Gives}
use Rattle.codec_c.proofs.Shapes.{given_shape}
use Rattle.codec_c.proofs.decode.decode_by.Goals as goal

pub put_samples-requires : goal.put_samples-requires
put_samples-requires c =
    let shape = given_shape c.args.clip.now.record c.args.clip.now.shape c.args.packet.now c.in-Ok.picture c.in-Ok.ensures in
    c.if-samples-sample_count.false ∙ c.sample_count.ensures ∙ ap (λ (s : Layout). sample_count (sizes s)) (sym shape)

pub returns-in-Ok : goal.returns-in-Ok
returns-in-Ok c = λ call clip.
    let room : length c.args.samples.now ≡ sample_count (sizes c.args.clip.now.shape) = c.if-samples-sample_count.false ∙ c.sample_count.ensures in
    let shape = given_shape c.args.clip.now.record c.args.clip.now.shape c.args.packet.now c.in-Ok.picture c.in-Ok.ensures in
    let there : image_in c.args.clip.now.shape c.put_samples.new.samples ≡ c.in-Ok.picture =
    ap (λ (s : Layout). image_in s c.put_samples.new.samples) (sym shape) ∙ c.put_samples.ensures in (
      c.args.clip.now.record,
      c.args.clip.now.shape,
      record { clip = clip; room = room; short = omega (arith, c.if-packet-gt-MOST_PACKET_BYTES.false) },
      subst (λ (i : Image). Gives c.args.clip.now.record c.args.clip.now.shape c.args.packet.now (Ok i)) (sym there) c.in-Ok.ensures,
      c.put_samples.auto.samples ∙ room,
      refl,
    )
