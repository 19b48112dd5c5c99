use Rattle.std.proofs.Common.{rules, slice_set}
use Rattle.tl_ports.specs.FaultPlan.{FailsNext, PutsByPlan}
use Rattle.tl_ports.specs.FileList.{vault_of}
use Rattle.tl_ports.specs.Seen.{VaultSeen}
use Rattle.tl_ports.proofs.PlanLemmas.{Adds-by_plan}
use Rattle.tl_ports.proofs.mem_vault.MemVaultVault.append.Goals as goal

pub returns-in_err-put-clause-added : goal.returns-in_err-put-clause-added
returns-in_err-put-clause-added c =
    let old = c.args.self.now in
    let old_seen : VaultSeen = vault_of old.files.files.items old.is_begun old.plan.faults in
    let files = slice_set old.files.files.items 0 record { name = c.index_mut-latest.result.now.name; bytes = c.put.new.bytes } in
    let new_seen : VaultSeen = vault_of files old.is_begun c.put.new.self.faults in
    let puts : PutsByPlan (FailsNext old.plan) old_seen.held new_seen.held c.args.bytes.now c.from_residual.result = search rules in
    Adds-by_plan _ old_seen new_seen c.args.bytes.now c.from_residual.result puts
