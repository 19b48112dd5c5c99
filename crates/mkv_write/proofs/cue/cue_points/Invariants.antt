use Rattle.std.proofs.Common.{◌≡◌, take}
use Rattle.std.specs.List.{flat_map}
use Rattle.mkv_write.specs.File.{cue_point}
use Rattle.mkv_write.proofs.cue.cue_points.Given as goal

abbrev pub invariant-loop-cue : goal.invariant-loop-cue
invariant-loop-cue l = l.content.items ≡ flat_map (λ cue. cue_point cue.time cue.place) (take l.cue-index l.cues)
