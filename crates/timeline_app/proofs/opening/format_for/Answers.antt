use Rattle.timeline_app.proofs.Formats.{covered_shape}
use Rattle.timeline_app.proofs.opening.format_for.Goals as goal

pub unwrap-requires : goal.unwrap-requires
unwrap-requires c =
    let shape = covered_shape c.in-Own.columns c.in-Own.rows c.in-Own.width c.in-Own.height c.in-Own.chroma (rw c.in-Own.is at c.requires.sound) in
    c.of.ensures.some.1 (rw c.chroma_planes.ensures.planes shape)
