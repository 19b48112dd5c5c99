use Rattle.std.proofs.Common.{◌≡◌, ◌+◌, ◌-◌, ◌*◌, ◌/◌, sym, length, take, arith}
use Rattle.std.proofs.lemmas.Grind.{common_steps}
use Rattle.ffv1_range.specs.Writing.{part}
use Rattle.ffv1_range.specs.Cursor.{number_of}
use Rattle.ffv1_range.proofs.Numbers.{bytes_high_first-number, fits_take}
use Rattle.ffv1_range.proofs.cursor.end.Goals as goal

pub returns : goal.returns
unfolding part
returns c table =
    let used = c.args.at.used in
    let bytes = take (used + 1) c.put_byte.new.bytes in
    let low = 65536 * number_of (take used c.args.bytes.now) + c.args.at.low in
    let count : length bytes ≡ used + 2 - 1 = grind (arith, common_steps) in
    let number : number_of bytes ≡ (low + 255) / 256 = omega (arith, c.put_byte.ensures) in
    sym (bytes_high_first-number (used + 2 - 1) ((low + 255) / 256) bytes count (fits_take (used + 1) c.put_byte.new.bytes (λ k. omega (arith, c.type_inv.bytes k))) number)
