use Rattle.std.proofs.Common.{◌≡◌, map, ap, sym, ◌∙◌, arith}
use Rattle.ffv1_record.specs.Parameters.{Parameters}
use Rattle.ffv1_record.specs.Tables.{set_of}
use Rattle.ffv1_record.proofs.Bytes.{is_record}
use Rattle.ffv1_record.proofs.Contexts.{record-contexts}
use Rattle.ffv1_record.proofs.record.Record.lawful.Goals as goal

pub returns-clause-fields : goal.returns-clause-fields
returns-clause-fields c =
    let i = c.self.inside in
    rw (← c.self.view_is) (is_record i.coder_type i.table i.chroma i.columns i.rows i.sets.items i.ec i.intra c.self.invariant.0 c.self.invariant.1 c.self.invariant.2 c.self.invariant.3 (omega arith))

pub returns-clause-contexts : goal.returns-clause-contexts
returns-clause-contexts c =
    let sets : c.args.self.now.sets ≡ map set_of c.as_slice.result.now = sym (ap (λ (p : Parameters). p.sets) c.self.view_is) ∙ ap (map set_of) (sym c.as_slice.ensures.value) in
    record-contexts c.args.self.now c.as_slice.result.now sets c.are_lawful.ensures
