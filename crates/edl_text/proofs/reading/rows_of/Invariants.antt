use Rattle.std.proofs.Common.{◌≡◌, ◌+◌, ◌++◌, Ok, map, length}
use Rattle.std.specs.Str.Lines.{lines}
use Rattle.edl_text.specs.Row.{said}
use Rattle.edl_text.specs.List.{◌>>=◌, said_from}
use Rattle.edl_text.proofs.reading.rows_of.Given as goal

abbrev pub invariant-loop-line : goal.invariant-loop-line
invariant-loop-line l = record {
  so_far : (said_from l.rate (l.n + 1) (lines l.left) >>= λ more. Ok (map said l.rows.items ++ more)) ≡ said_from l.rate 1 (lines l.text);
  count : l.n + length (lines l.left) ≡ length (lines l.text);
  rows : length l.rows.items ≡ l.n;
}

abbrev pub decreases-loop-line : goal.decreases-loop-line
decreases-loop-line l = length l.left
