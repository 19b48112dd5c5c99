use Rattle.std.proofs.Common.{◌+◌, drop, get_or, pos, ◌+ℤ◌, neg_ℤ, true}
use Rattle.ffv1_range.specs.Symbol.{spelling}
use Rattle.ffv1_record.specs.Spelling.{deltas}
use Rattle.ffv1_record.proofs.Sinks.{step, finished, deltas-next, deltas-done}
use Rattle.ffv1_record.proofs.field_writer.FieldWriter.deltas.Goals as goal

pub loop-i-preserved : goal.loop-i-preserved
loop-i-preserved c =
    let default = c.args.default.now in
    let entries = c.args.entries.now in
    let i = c.loop-i.i in
    step c.args.self.now c.loop-i.self c.delta.new.self (deltas (drop i default) (drop i entries)) (spelling (pos (get_or entries i 0) +ℤ neg_ℤ (pos (get_or default i 0))) true) (deltas (drop (i + 1) default) (drop (i + 1) entries)) (deltas default entries)
    c.loop-i.invariant (deltas-next default entries i c.requires c.loop-i-test.true) c.in_ok-delta.ensures

pub returns : goal.returns
returns c =
    let default = c.args.default.now in
    let entries = c.args.entries.now in
    let i = c.loop-i.i in
    finished c.args.self.now c.loop-i.self (deltas (drop i default) (drop i entries)) (deltas default entries) c.loop-i.invariant (deltas-done default (drop i entries) i c.loop-i-test.false)
