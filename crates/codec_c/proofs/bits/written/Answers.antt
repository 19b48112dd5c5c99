use Rattle.std.proofs.Common.{ℕ, sym, subst}
use Rattle.ffv1_range.specs.Transition.{IsKept}
use Rattle.codec_c.proofs.bits.written.Goals as goal

-- each state begins at 128, which a table keeps
pub loop-coded-init : goal.loop-coded-init
loop-coded-init c k small = subst (λ (state : ℕ). IsKept c.start-writer.result.table state) (sym (c.fresh-states.ensures k small)) c.start-writer.ensures.sound.keeps_first
