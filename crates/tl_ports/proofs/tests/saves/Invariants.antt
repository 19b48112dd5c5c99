-- No file is begun.
use Rattle.std.proofs.Common.{◌≡◌, None}
use Rattle.tl_ports.proofs.tests.saves.Given as goal

abbrev pub invariant-loop-name : goal.invariant-loop-name
invariant-loop-name g l = (g.V.Vault.seen l.vault).begun ≡ None
