use Rattle.std.proofs.Common.{◌∙◌, sym, arith}
use Rattle.play_head.proofs.Naming.{name_next, name_found, name_missed}
use Rattle.play_head.proofs.edits.clip_number.Goals as goal

pub returns-then-is_named-clause-number : goal.returns-then-is_named-clause-number
returns-then-is_named-clause-number c =
    name_found c.args.clips.now c.as_slice-other-items.result.now c.loop-other.number c.loop-other.other-index c.loop-other-item.result c.args.name.now
    c.as_slice-other-items.ensures (omega arith) c.loop-other-item.is (sym c.is_named.ensures ∙ c.if-is_named.true) c.loop-other.invariant

pub loop-other-preserved : goal.loop-other-preserved
loop-other-preserved c =
    name_next c.as_slice-other-items.result.now c.loop-other.number c.loop-other.other-index c.loop-other-item.result c.args.name.now
    (omega arith) c.loop-other-item.is (sym c.is_named.ensures ∙ c.if-is_named.false) c.loop-other.invariant

pub returns-clause-number : goal.returns-clause-number
returns-clause-number c =
    name_missed c.args.clips.now c.as_slice-other-items.result.now c.loop-other.number c.loop-other.other-index c.args.name.now
    c.as_slice-other-items.ensures (omega arith) (omega arith) c.loop-other.invariant
