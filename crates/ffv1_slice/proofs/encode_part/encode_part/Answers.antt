-- The states are fresh, and so the table keeps them.
use Rattle.std.proofs.Common.{ℕ, List, sym, subst}
use Rattle.std.specs.Prelude.{All}
use Rattle.ffv1_range.specs.Transition.{AllKept}
use Rattle.ffv1_slice.proofs.InTurn.{fresh_kept}
use Rattle.ffv1_slice.proofs.encode_part.encode_part.Goals as goal

pub encode_areas-requires-clause-kept : goal.encode_areas-requires-clause-kept
encode_areas-requires-clause-kept c =
    let Kept : List (List ℕ) → Type 0 = λ contexts. All (AllKept c.args.writer.now.table) contexts in
    subst Kept (sym c.freshen.ensures) (fresh_kept c.args.writer.now.table _ c.requires.fresh)
