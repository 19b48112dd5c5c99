-- A number more is written.
use Rattle.std.proofs.Common.{◌≡◌, ◌<◌, ◌∙◌, length, refl, sym, arith, get_or}
use Rattle.std.proofs.lemmas.List.{at_drop_more, at_drop_all}
use Rattle.ffv1_slice.specs.Header.{Numbering, numbering, with_number, with_numbers}
use Rattle.ffv1_slice.proofs.header_writer.write_numbers.Goals as goal

pub loop-number-init : goal.loop-number-init
loop-number-init c = record { left = refl; table = refl; kept = c.requires }

pub loop-number-preserved : goal.loop-number-preserved
loop-number-preserved c =
    let within : c.loop-number.number-index < length c.args.numbers.now = omega arith in
    let old : Numbering = numbering c.loop-number.writer c.loop-number.set in
    let put : numbering c.write_number.new.writer c.write_number.new.set ≡ with_number old (get_or c.args.numbers.now c.loop-number.number-index 0) = c.in_ok-write_number.ensures.ok in
    record {
      left = rw put (sym (at_drop_more (with_numbers old) c.args.numbers.now c.loop-number.number-index 0 within) ∙ c.loop-number.invariant.left);
      table = c.write_number.ensures.table ∙ c.loop-number.invariant.table;
      kept = c.write_number.ensures.kept;
    }

pub returns-clause-ok : goal.returns-clause-ok
returns-clause-ok c =
    sym (at_drop_all (with_numbers (numbering c.loop-number.writer c.loop-number.set)) c.args.numbers.now c.loop-number.number-index (omega arith)) ∙ c.loop-number.invariant.left
