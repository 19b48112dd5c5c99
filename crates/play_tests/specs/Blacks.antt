-- A library for tests: its one clip of one frame does not fit, and every picture is black, of one grey sample.
use Rattle.std.specs.Prelude.{ℕ, true, false, List, [], ◌∷◌, None, Result, Ok, Err}
use Rattle.tl_model.specs.Media.{Library}
use Rattle.tl_model.specs.declared.fault.FrameFault.TheVariants as fault
use Rattle.pic_planes.specs.declared.shape.Chroma.TheVariants.{Grey}
use Rattle.pic_planes.specs.Picture.{Image, black}
use Rattle.pic_planes.specs.Shape.{layout}

abbrev pub blacks : Library Image
blacks = record {
  clips = 1;
  frames = λ clip. 1;
  fits = λ clip. false;
  copies = λ clip. false;
  packet = λ clip frame. [];
  record_bytes = 1 ∷ [];
  width = 1;
  height = 1;
  has_shape = λ image. true;
  render = λ recipe. Ok (black (layout 1 1 Grey));
  coded = λ image. None;
  unpacked = λ bytes. Err fault.Empty;
}
