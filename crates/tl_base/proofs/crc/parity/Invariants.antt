use Rattle.std.proofs.Common.{◌≡◌, ◌*◌, take}
use Rattle.tl_base.specs.Parity.{parity}
use Rattle.tl_base.proofs.crc.parity.Given as goal

abbrev pub invariant-loop-i : goal.invariant-loop-i
invariant-loop-i l = l.remainder ≡ parity (take (4 * l.i) l.bytes)

abbrev pub invariant-loop-i-2 : goal.invariant-loop-i-2
invariant-loop-i-2 l = l.remainder ≡ parity (take l.i l.bytes)
