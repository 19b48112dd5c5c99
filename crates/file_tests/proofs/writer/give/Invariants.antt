use Rattle.std.proofs.Common.{◌≡◌, ◌+◌, length}
use Rattle.std.specs.Prelude.{IsSome, IsTrue}
use Rattle.mkv_write.specs.Writing.{put_of}
use Rattle.file_tests.proofs.writer.give.Given as goal

abbrev pub invariant-loop : goal.invariant-loop
invariant-loop g l =
    (IsSome (g.V.Vault.seen l.vault).begun) × (IsTrue g.V.Vault.tells → (g.V.Vault.seen l.vault).held ≡ put_of l.writer) × (length l.writer.packets ≡ length l.fn.writer.packets + l.counter)
