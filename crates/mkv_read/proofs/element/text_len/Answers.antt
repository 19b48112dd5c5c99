use Rattle.std.proofs.Common.{◌==◌, sym, arith}
use Rattle.std.proofs.lemmas.Bool.{eq-eqb, ne_eqb}
use Rattle.std.proofs.lemmas.List.Sums.{position_or_len_is}
use Rattle.mkv_read.proofs.element.text_len.Goals as goal

pub returns-then-byte-eq0-clause-count : goal.returns-then-byte-eq0-clause-count
returns-then-byte-eq0-clause-count c =
    sym (position_or_len_is (λ byte. byte == 0) c.args.padded.now c.loop-at.at 0 (omega arith) (λ k lt. ne_eqb _ 0 (c.loop-at.invariant k lt)) (λ lt. eq-eqb _ 0 c.if-byte-eq0.true))

pub returns-clause-count : goal.returns-clause-count
returns-clause-count c =
    sym (position_or_len_is (λ byte. byte == 0) c.args.padded.now _ 0 (omega arith) (λ k lt. ne_eqb _ 0 (c.loop-at.invariant k (omega (arith, lt)))) (λ lt. absurd (omega (arith, lt))))
