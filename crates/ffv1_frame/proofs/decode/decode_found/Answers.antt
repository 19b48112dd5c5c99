use Rattle.std.proofs.lemmas.Result.{err_from_is_err_and}
use Rattle.ffv1_frame.proofs.decode.decode_found.Goals as goal

pub returns-in_err-tested : goal.returns-in_err-tested
returns-in_err-tested c =
    let p = err_from_is_err_and c.from_residual.result c.from_residual.ensures.1 in
    rw (p.1, p.2) (c.in_err-tested.ensures.err c.args.shape)
