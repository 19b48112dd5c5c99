use Rattle.std.proofs.Common.{◌≡◌, arith, length, ap, sym, ◌∙◌}
use Rattle.ffv1_range.specs.Writing.{started}
use Rattle.ffv1_record.specs.Reading.{fresh}
use Rattle.ffv1_record.specs.Sink.{sink, wrote_sets}
use Rattle.ffv1_record.specs.Parameters.{IsRecord}
use Rattle.ffv1_record.specs.Spelling.{record_bytes}
use Rattle.ffv1_record.proofs.Bytes.{bytes_of_fields, is_record}
use Rattle.ffv1_record.proofs.record.Record.write.Goals as goal

pub returns-clause-bytes : goal.returns-clause-bytes
returns-clause-bytes c =
    let i = c.self.inside in
    rw (← c.self.view_is)
    (bytes_of_fields i.coder_type i.table i.chroma i.columns i.rows i.sets.items i.ec i.intra c.len-sets.result c.start-fields.result c.coding.new.self c.planes.new.self c.grid.new.self c.sets.new.self c.ending.new.self c.in_ok-bytes.bytes.items c.put_parity.new.bytes.items
    (c.len-sets.ensures ∙ sym c.as_slice.ensures.len ∙ ap length c.as_slice.ensures.value)
    (c.start-fields.ensures ∙ ap (λ t. sink (started t) fresh) c.default_table-default.ensures.table)
    c.in_ok-coding.ensures c.in_ok-planes.ensures c.in_ok-grid.ensures
    (c.in_ok-sets.ensures ∙ ap (wrote_sets c.grid.new.self) c.as_slice.ensures.value)
    c.in_ok-ending.ensures c.in_ok-bytes.ensures c.in_ok-put_parity.ensures)

pub returns-clause-read_back : goal.returns-clause-read_back
returns-clause-read_back c =
    let i = c.self.inside in
    let sound : IsRecord c.args.self.now = rw (← c.self.view_is) (is_record i.coder_type i.table i.chroma i.columns i.rows i.sets.items i.ec i.intra c.self.invariant.0 c.self.invariant.1 c.self.invariant.2 c.self.invariant.3 (omega arith)) in
    let bytes : c.put_parity.new.bytes.items ≡ record_bytes c.args.self.now = returns-clause-bytes c in
    rw bytes (c.record_reads_back.ensures c.args.self.now sound)
