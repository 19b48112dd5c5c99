use Rattle.std.proofs.Common.{◌≡◌, ◌∙◌, ap, sym, map, drop, arith, rules}
use Rattle.std.proofs.lemmas.Grind.{common_steps}
use Rattle.edl_text.specs.Row.{said}
use Rattle.edl_text.specs.List.{name_of}
use Rattle.edl_text.specs.Names.{name_at}
use Rattle.edl_text.proofs.Rows.{names_next, names_done}
use Rattle.edl_text.proofs.names.names_of.Goals as goal

pub loop-row-init : goal.loop-row-init
unfolding name_of
loop-row-init c = λ q. grind (arith, common_steps)

pub loop-row-preserved : goal.loop-row-preserved
loop-row-preserved c = λ q.
    names_next c.args.side c.loop-row.above c.number_after-above.result c.args.rows.now c.loop-row.row-index _ _ _ _ q (omega arith) c.name_in.ensures c.number_after-above.ensures (c.in_ok-keep_name.ensures q) ∙ c.loop-row.invariant q

pub returns : goal.returns
returns c = λ q. sym (names_done c.args.side c.loop-row.above c.args.rows.now c.loop-row.row-index (name_at c.loop-row.names q) q (omega arith)) ∙ c.loop-row.invariant q
