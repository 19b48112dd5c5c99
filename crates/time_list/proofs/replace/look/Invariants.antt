use Rattle.std.proofs.Common.{take}
use Rattle.std.specs.List.{flat_map}
use Rattle.time_list.specs.Edits.{sides_of}
use Rattle.time_list.specs.Found.{IsFound}
use Rattle.time_list.proofs.replace.look.Given as goal

abbrev pub invariant-loop-segment : goal.invariant-loop-segment
invariant-loop-segment g l = IsFound (g.M.Media.library l.media) (flat_map sides_of (take l.segment-index l.segments)) l.found
