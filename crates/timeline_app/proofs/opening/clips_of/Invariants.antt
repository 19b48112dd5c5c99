use Rattle.std.proofs.Common.{◌≡◌, map, take}
use Rattle.timeline_app.proofs.opening.clips_of.Given as goal

abbrev pub invariant-loop-line : goal.invariant-loop-line
invariant-loop-line l = l.items.items ≡ map (λ line. (line.name, line.start)) (take l.line-index l.lines)
