-- How a session tells what is wrong with an edit list.
use Rattle.std.specs.Prelude.{ℕ, List, codes}
use Rattle.edl_text.specs.declared.fault.EdlWhy.{EdlWhy}
use Rattle.edl_text.specs.declared.fault.EdlWhy.TheVariants as why

-- each fault by its name
abbrev pub edl_word : EdlWhy → List ℕ
edl_word why.Drop = codes "Drop"
edl_word why.Speed = codes "Speed"
edl_word why.Wipe = codes "Wipe"
edl_word why.Key = codes "Key"
edl_word why.Unknown = codes "Unknown"
edl_word why.Timecode = codes "Timecode"
edl_word why.PairMissing = codes "PairMissing"
edl_word why.UnknownClip = codes "UnknownClip"
edl_word why.Span = codes "Span"
edl_word why.OutsideClip = codes "OutsideClip"
edl_word why.Overlap = codes "Overlap"
