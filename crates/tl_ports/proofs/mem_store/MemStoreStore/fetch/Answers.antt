use Rattle.std.proofs.Common.{rules, ◌≡◌, ℕ}
use Rattle.tl_ports.proofs.mem_store.MemStoreStore.fetch.Goals as goal

pub returns-clause-cause : goal.returns-clause-cause
returns-clause-cause c =
    let before : ℕ = c.args.self.now.plan.faults in
    let now : ℕ = c.next_fails.new.self.faults in
    let calm : now ≡ before = search rules in
    c.fetch.ensures.cause before now calm
