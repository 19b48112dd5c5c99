use Rattle.std.proofs.Common.{arith}
use Rattle.std.proofs.lemmas.Result.{err_from_is_err_and}
use Rattle.ebml_core.proofs.Vints.{vint_none}
use Rattle.ebml_core.proofs.vint.vint_size.Goals as goal

pub returns-in_err-octets-clause-none : goal.returns-in_err-octets-clause-none
returns-in_err-octets-clause-none c =
    let p = err_from_is_err_and c.from_residual.result c.from_residual.ensures.1 in
    rw p.1 (λ len size is. vint_none 8 c.args.bytes.now c.in_err-octets.field-0.0 len (omega arith) c.in_err-octets.ensures.exact is.0)
