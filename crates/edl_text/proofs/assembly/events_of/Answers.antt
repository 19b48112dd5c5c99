use Rattle.std.proofs.Common.{◌≡◌, ◌+◌, ◌∙◌, ap, sym, arith, rules}
use Rattle.edl_text.specs.Names.{names_in}
use Rattle.edl_text.proofs.Rows.{events_next, events_done}
use Rattle.edl_text.proofs.assembly.events_of.Goals as goal

pub loop-row-preserved : goal.loop-row-preserved
loop-row-preserved c = record {
  so_far = events_next (names_in c.args.names.now) (c.loop-row.line + 1) c.loop-row.row-index c.args.rows.now _ c.loop-row.events.items c.put_event.new.events.items (omega arith) c.in_ok-put_event.ensures ∙ c.loop-row.invariant.so_far;
  count = omega arith;
}

pub returns : goal.returns
returns c = sym (events_done (names_in c.args.names.now) (c.loop-row.line + 1) c.loop-row.row-index c.args.rows.now c.loop-row.events.items (omega arith)) ∙ c.loop-row.invariant.so_far
