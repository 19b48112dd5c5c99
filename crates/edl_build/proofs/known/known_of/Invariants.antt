use Rattle.std.proofs.Common.{◌≡◌, ℕ, List, drop}
use Rattle.std.specs.Option.{option_or}
use Rattle.edl_build.specs.Clip.{clip_from, known_at}
use Rattle.edl_build.proofs.known.known_of.Given as goal

abbrev pub invariant-loop-name : goal.invariant-loop-name
invariant-loop-name l = record {
  so_far : (name : List ℕ) → option_or (known_at l.known name) (clip_from l.number (drop l.name-index l.name-items) name) ≡ clip_from 0 l.clips name;
  count : l.number ≡ l.name-index;
}
