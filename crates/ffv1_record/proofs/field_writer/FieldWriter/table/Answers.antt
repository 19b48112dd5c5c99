use Rattle.std.proofs.Common.{◌≡◌, sym, ◌∙◌}
use Rattle.ffv1_record.proofs.field_writer.FieldWriter.table.Goals as goal

pub invariant_of-self : goal.invariant_of-self
invariant_of-self c = rw c.fresh-self-inside.ensures (c.self.invariant.1, c.self.invariant.1, c.self.invariant.2)

pub invariant_of-self-2 : goal.invariant_of-self-2
invariant_of-self-2 c =
    let same : c.self-2.inside.writer.table ≡ c.self.inside.writer.table = c.self-2.invariant.2 ∙ sym c.self.invariant.2 in
    rw same (c.self.invariant.0, c.self.invariant.1, c.self.invariant.2)
