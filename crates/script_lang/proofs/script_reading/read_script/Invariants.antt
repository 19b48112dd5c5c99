use Rattle.std.proofs.Common.{◌≡◌, ◌+◌, ◌≤◌, length}
use Rattle.std.specs.Str.Lines.{lines}
use Rattle.tl_limits.specs.Limits.{max_lines}
use Rattle.script_lang.specs.ScriptText.{script_from, script}
use Rattle.script_lang.specs.State.{begun, Keeps}
use Rattle.script_lang.proofs.script_reading.read_script.Given as goal

abbrev pub invariant-loop-line : goal.invariant-loop-line
invariant-loop-line l = record {
  so_far : script_from (begun l.state) (l.n + 1) (lines l.left) ≡ script l.text;
  keeps : Keeps l.state;
  few : l.n ≤ max_lines;
}

abbrev pub decreases-loop-line : goal.decreases-loop-line
decreases-loop-line l = length l.left
