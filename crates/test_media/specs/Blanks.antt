-- A library for tests: its one clip of one frame does not fit, and every picture is the number 0.
use Rattle.std.specs.Prelude.{ℕ, true, false, List, [], ◌∷◌, Some, Result, Ok, Err}
use Rattle.tl_model.specs.Media.{Library}
use Rattle.tl_model.specs.declared.fault.FrameFault.{FrameFault}
use Rattle.tl_model.specs.declared.fault.FrameFault.TheVariants as fault

abbrev pub number_in : List ℕ → Result ℕ FrameFault
number_in [] = Err fault.Empty
number_in (number ∷ rest) = Ok number

abbrev pub blanks : Library ℕ
blanks = record {
  clips = 1;
  frames = λ clip. 1;
  fits = λ clip. false;
  copies = λ clip. false;
  packet = λ clip frame. [];
  record_bytes = 1 ∷ [];
  width = 1;
  height = 1;
  has_shape = λ number. true;
  render = λ recipe. Ok 0;
  coded = λ number. Some (number ∷ []);
  unpacked = number_in;
}
