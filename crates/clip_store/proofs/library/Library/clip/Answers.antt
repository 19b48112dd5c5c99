use Rattle.std.proofs.Common.{◌<◌, length, ap, arith}
use Rattle.clip_store.specs.Clip.{ClipOf}
use Rattle.clip_store.specs.Library.{LibraryOf}
use Rattle.clip_store.proofs.Gaining.{file_within}
use Rattle.clip_store.proofs.library.Library.clip.Goals as goal

pub returns-clause-few : goal.returns-clause-few
returns-clause-few c =
    let within : c.args.clip < length c.self.inside.clips.items = omega (arith, c.requires, ap (λ (l : LibraryOf). length l.clips) c.self.view_is) in
    omega (arith, ap (λ (k : ClipOf). length k.bytes) c.index.ensures, file_within c.self.inside.clips.items c.args.clip c.index.result.now within, c.self.invariant.0.bytes)
