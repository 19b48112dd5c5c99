-- The law of decoding.
use Rattle.std.specs.Prelude.{Result, Ok, Err}
use Rattle.pic_planes.specs.Picture.{Image}
use Rattle.tl_model.specs.declared.fault.FrameFault.{FrameFault}
use Rattle.ffv1_frame.specs.declared.fault.DecodeFault.{DecodeFault}
use Rattle.ffv1_frame.specs.declared.fault.DecodeFault.TheVariants.{Frame}

-- a picture or a fault, as a call that wants no memory answers
abbrev pub told : Result Image FrameFault → Result Image DecodeFault
told (Ok image) = Ok image
told (Err fault) = Err (Frame fault)
