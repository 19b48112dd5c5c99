use Rattle.std.proofs.Common.{◌≡◌, take, Ok, rules, arith}
use Rattle.ebml_core.specs.Reading.{vint_at}
use Rattle.ebml_core.proofs.Numbers.{AreBytes-from_places}
use Rattle.ebml_core.proofs.Vints.{vint_takes-bytes}
use Rattle.ebml_core.proofs.vint.vint.Goals as goal

pub returns-clause-spelled : goal.returns-clause-spelled
unfolding vint_at
returns-clause-spelled c =
    let bytes = c.args.bytes.now in
    let octets = take c.octet_count-count.result bytes in
    let read : vint_at c.args.most bytes ≡ Ok octets = search rules in
    (vint_takes-bytes c.args.most bytes octets c.requires (AreBytes-from_places bytes (λ i. omega (arith, c.type_inv.bytes i))) read).vint
