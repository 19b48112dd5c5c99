use Rattle.std.proofs.lemmas.Result.{err_from_is_err_and}
use Rattle.mkv_write.proofs.Prefix.{prefix_first}
use Rattle.mkv_write.proofs.put.put_both.Goals as goal

pub returns-in_err-put-clause-put : goal.returns-in_err-put-clause-put
returns-in_err-put-clause-put g c =
    let p = err_from_is_err_and c.from_residual.result c.from_residual.ensures.1 in
    rw p.1 (λ t. prefix_first (g.V.Vault.seen c.args.vault.now).held c.args.first.now c.args.second.now _ (c.in_err-put.ensures.put t))
