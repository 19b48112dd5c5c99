use Rattle.std.proofs.Common.{subst}
use Rattle.ffv1_range.specs.Transition.{IsTransition}
use Rattle.ffv1_record.proofs.Round.{record_again}
use Rattle.ffv1_record.proofs.law.record_reads_back.Goals as goal

pub returns : goal.returns
returns c = λ p sound.
    record_again (record { turn = c.codes_in_turn.ensures; symbols = c.reads_symbols.ensures }) c.reads_closed_mode.ensures (subst IsTransition c.default_table-default.ensures.table c.default_table-default.ensures.sound) c.numbers_read_back.ensures.big (λ bytes. (c.parity_is_remainder.ensures bytes).below) p sound
