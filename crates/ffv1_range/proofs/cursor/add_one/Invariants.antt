use Rattle.std.proofs.Common.{◌≡◌, ◌+◌, ◌^◌}
use Rattle.ffv1_range.specs.Cursor.{number_of}
use Rattle.ffv1_range.proofs.cursor.add_one.Given as goal

abbrev pub invariant-loop-back : goal.invariant-loop-back
invariant-loop-back l = number_of l.bytes + 256 ^ l.back ≡ number_of l.initial.bytes + 1
