-- What was read is what the buffer has more than at the start, and what may still be read is the rest of the limit.
use Rattle.std.proofs.Common.{◌≡◌, ◌+◌, vec_len, length, drop}
use Rattle.std.specs.Io.{StartsWith}
use Rattle.std.specs.Io.KnownBytes.{Consumes}
use Rattle.tl_ports.proofs.stream.read_whole.Given as goal

abbrev pub invariant-loop : goal.invariant-loop
invariant-loop g l =
    StartsWith l.into.items l.initial.into.items
    × (vec_len l.into + l.left ≡ vec_len l.initial.into + l.limit)
    × Consumes (g.R.Read.remaining l.initial.file) (g.R.Read.remaining l.file) (drop (length l.initial.into.items) l.into.items)
