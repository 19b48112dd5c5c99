use Rattle.std.proofs.Common.{◌≡◌, ◌*◌, drop}
use Rattle.ffv1_rice.specs.Bits.{bits_of_bytes, number_at}
use Rattle.ffv1_rice.proofs.reader.last_word.Given as goal

abbrev pub invariant-loop-i : goal.invariant-loop-i
invariant-loop-i l = l.word ≡ number_at (8 * l.i) (drop (8 * l.place) (bits_of_bytes l.bytes))
