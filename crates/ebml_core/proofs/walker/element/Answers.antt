use Rattle.std.proofs.Common.{◌≡◌, arith, rules}
use Rattle.ebml_core.specs.Reading.{element_at, found}
use Rattle.ebml_core.proofs.Numbers.{AreBytes-from_places}
use Rattle.ebml_core.proofs.Endings.{found-begins}
use Rattle.ebml_core.proofs.walker.element.Goals as goal

pub returns-in-Ok-clause-begins : goal.returns-in-Ok-clause-begins
unfolding element_at
returns-in-Ok-clause-begins c =
    let exact : element_at c.args.place c.args.text.now ≡ found c.sized.result = search rules in
    found-begins c.args.place c.args.text.now c.sized.result (AreBytes-from_places c.args.text.now (λ i. omega (arith, c.type_inv.text i))) exact
