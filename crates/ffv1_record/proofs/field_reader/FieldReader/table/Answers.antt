use Rattle.std.proofs.Common.{◌≡◌, sym, ◌∙◌}
use Rattle.std.proofs.lemmas.Result.{err_from_is_err_and}
use Rattle.ffv1_range.specs.Symbol.{source}
use Rattle.ffv1_record.proofs.Loops.{table-end}
use Rattle.ffv1_record.proofs.field_reader.FieldReader.table.Goals as goal

pub invariant_of-self : goal.invariant_of-self
invariant_of-self c = rw c.fresh-self-inside.ensures (c.self.invariant.1, c.self.invariant.1, c.self.invariant.2)

pub returns-in_err-lengths-clause-gives : goal.returns-in_err-lengths-clause-gives
returns-in_err-lengths-clause-gives c =
    let p = err_from_is_err_and c.from_residual.result c.from_residual.ensures.1 in
    rw (p.1, p.2) (table-end c.in_err-lengths.field-0.0 c.args.scale (source c.self.inside.reader c.self.inside.set) c.args.self.now c.fresh-self-inside.result c.fresh-self-inside.ensures c.self.view_is c.in_err-lengths.ensures.gives)

pub invariant_of-self-2 : goal.invariant_of-self-2
invariant_of-self-2 c =
    let same : c.self-2.inside.reader.table ≡ c.self.inside.reader.table = c.self-2.invariant.2 ∙ sym c.self.invariant.2 in
    rw same (c.self.invariant.0, c.self.invariant.1, c.self.invariant.2)
