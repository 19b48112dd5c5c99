use Rattle.std.proofs.Common.{ℕ, List, sym, subst}
use Rattle.ffv1_range.specs.Transition.{AllKept}
use Rattle.codec_c.proofs.symbols.read.Goals as goal

-- each set is fresh, which a table keeps
pub loop-coded-init : goal.loop-coded-init
loop-coded-init c = (λ k d small. subst (λ (set : List ℕ). AllKept c.over-reader.result.table set) (sym (c.requires.fresh k d small)) c.over-reader.ensures.fresh, c.requires.len)
