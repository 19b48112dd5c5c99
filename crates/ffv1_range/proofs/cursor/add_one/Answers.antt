use Rattle.std.proofs.Common.{◌≡◌, ◌+◌, ◌-◌, ◌*◌, ◌^◌, length, get_or, add-one, arith, rules}
use Rattle.ffv1_range.proofs.Numbers.{number_of-set}
use Rattle.std.proofs.Math.Nat.{pow-succ'}
use Rattle.ffv1_range.proofs.cursor.add_one.Goals as goal

pub returns-then-bytes-place-lt255 : goal.returns-then-bytes-place-lt255
returns-then-bytes-place-lt255 c =
    let bytes = c.loop-back.bytes in
    let place = length bytes - 1 - c.loop-back.back in
    let back : length bytes - 1 - place ≡ c.loop-back.back = omega arith in
    let change = rw back at (number_of-set bytes place (get_or bytes place 0 + 1) (omega arith)) in
    omega (arith, change, c.loop-back.invariant)

pub loop-back-preserved : goal.loop-back-preserved
loop-back-preserved c =
    let bytes = c.loop-back.bytes in
    let place = length bytes - 1 - c.loop-back.back in
    let back : length bytes - 1 - place ≡ c.loop-back.back = omega arith in
    let full : get_or bytes place 0 ≡ 255 = search rules in
    let change = rw (back, full) at (number_of-set bytes place 0 (omega arith)) in
    let power : 256 ^ (c.loop-back.back + 1) ≡ 256 * 256 ^ c.loop-back.back = rw add-one (pow-succ' 256 c.loop-back.back) in
    omega (arith, change, c.loop-back.invariant, power)
