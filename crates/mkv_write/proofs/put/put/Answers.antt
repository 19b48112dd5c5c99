use Rattle.std.proofs.lemmas.Result.{err_from_is_err_and}
use Rattle.mkv_write.proofs.Prefix.{prefix_take}
use Rattle.mkv_write.proofs.put.put.Goals as goal

pub returns-in_err-append-clause-put : goal.returns-in_err-append-clause-put
returns-in_err-append-clause-put g c =
    let p = err_from_is_err_and c.from_residual.result c.from_residual.ensures.1 in
    rw p.1 (λ t. let added = c.in_err-append.ensures.added t in prefix_take (g.V.Vault.seen c.args.vault.now).held c.args.bytes.now _ added.0 added.1)
