use Rattle.std.specs.Prelude.{IsTrue}
use Rattle.std.proofs.Common.{◌≡◌}
use Rattle.mkv_write.specs.Writing.{put_of}
use Rattle.work_gen.specs.Picture.{clip_shape}
use Rattle.work_gen.specs.Given.{IsGiven}
use Rattle.work_gen.proofs.frames.put_frames.Given as goal

abbrev pub invariant-loop-frame : goal.invariant-loop-frame
invariant-loop-frame g l =
    let V = g.V.Vault in
    record {
      shape : l.picture.shape ≡ clip_shape;
      given : IsGiven l.frame l.writer;
      held : IsTrue V.tells → (V.seen l.vault).held ≡ put_of l.writer;
      begun : (V.seen l.vault).begun ≡ (V.seen l.fn.vault).begun;
    }
