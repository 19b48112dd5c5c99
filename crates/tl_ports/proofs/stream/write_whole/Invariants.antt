-- What is gone from the rest was written.
use Rattle.std.proofs.Common.{◌≡◌, ℕ, List, ◌++◌}
use Rattle.std.specs.Io.KnownBytes.{Appends}
use Rattle.tl_ports.proofs.stream.write_whole.Given as goal

abbrev pub invariant-loop : goal.invariant-loop
invariant-loop g l =
    (front : List ℕ)
    × (l.initial.rest ≡ front ++ l.rest)
    × Appends (g.W.Write.contents l.initial.to) (g.W.Write.contents l.to) front
