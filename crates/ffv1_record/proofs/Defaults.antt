-- The tables of the default record.
use Rattle.std.proofs.Common.{◌<◌, [], ◌∷◌, refl, arith}
use Rattle.std.proofs.lemmas.List.Elements.{All-from_recursion}
use Rattle.ffv1_record.specs.Tables.{AreRuns, AreSetRuns, AreSets}
use Rattle.ffv1_record.specs.Default.{fine_runs, one_run, default_runs}

fine-sound : AreRuns fine_runs
fine-sound = record {
  some = All-from_recursion (λ run. 0 < run) fine_runs (omega arith, (omega arith, (omega arith, (omega arith, (omega arith, tt)))));
  whole = refl;
}

one-sound : AreRuns one_run
one-sound = record { some = All-from_recursion (λ run. 0 < run) one_run (omega arith, tt); whole = refl }

set-sound : AreSetRuns default_runs
set-sound = record {
  five = refl;
  each = All-from_recursion AreRuns default_runs (fine-sound, (fine-sound, (fine-sound, (one-sound, (one-sound, tt)))));
  scales = (omega arith, (omega arith, (omega arith, (omega arith, (omega arith, tt)))));
}

pub default_sound : AreSets (default_runs ∷ [])
default_sound = record {
  some = omega arith;
  few = omega arith;
  each = All-from_recursion AreSetRuns (default_runs ∷ []) (set-sound, tt);
}
