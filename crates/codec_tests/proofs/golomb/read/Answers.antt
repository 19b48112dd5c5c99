-- The default table keeps the sentinel's state.
use Rattle.std.proofs.Common.{ℕ, List, sym, subst, arith}
use Rattle.ffv1_range.specs.Transition.{IsKept}
use Rattle.codec_tests.proofs.golomb.read.Goals as goal

pub decode_rice_slice-requires-clause-kept : goal.decode_rice_slice-requires-clause-kept
decode_rice_slice-requires-clause-kept c =
    let Kept : List ℕ → Type 0 = λ t. IsKept t 129 in
    subst Kept (sym c.over-reader.ensures.table) ((c.default_table-table.ensures.kept 129).1 (omega arith, omega arith))
