use Rattle.std.proofs.Common.{refl, arith}
use Rattle.ffv1_range.proofs.Tables.{transition_from_tests, kept_from_test}
use Rattle.ffv1_range.proofs.transition.Transition.default_table.Goals as goal

pub with_entries-requires : goal.with_entries-requires
with_entries-requires c = transition_from_tests _ refl refl refl refl refl

pub returns-clause-kept : goal.returns-clause-kept
returns-clause-kept c = kept_from_test _ _ 8 248 c.with_entries.ensures refl refl (omega arith)
