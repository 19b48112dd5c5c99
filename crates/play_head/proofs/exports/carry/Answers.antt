use Rattle.std.proofs.Common.{◌≡◌, ◌⊎◌, ℕ, List, [], Some, ◌∙◌, subst}
use Rattle.std.specs.Prelude.{IsTrue}
use Rattle.tl_ports.specs.Outside.{KeepsOthers}
use Rattle.play_head.specs.Carrying.{carried_as}
use Rattle.play_head.proofs.Carried.{carries_on, carries_refused}
use Rattle.play_head.proofs.exports.carry.Goals as goal

pub returns-in-Ok : goal.returns-in-Ok
returns-in-Ok g c =
    let V = g.V.Vault in
    let lib = g.M.Media.library c.args.media.now in
    let job = c.args.job.now in
    let name = c.as_str.ensures ∙ c.name.ensures in
    let mid = c.begin.new.self in
    carries_on (record { library = lib; rate = c.args.rate; tells = V.tells }) (V.seen c.args.vault.now) (V.seen mid) (V.seen c.carry_begun.new.vault) (carried_as job c.carry_begun.result)
    (subst (λ (n : List ℕ). IsTrue V.tells → (V.seen mid).file n ≡ Some []) name c.in-Ok.ensures.begun.1)
    (subst (KeepsOthers V.tells (V.seen c.args.vault.now) (V.seen mid)) name c.in-Ok.ensures.others)
    c.in-Ok.ensures.cause c.carry_begun.ensures

pub returns-in-Err : goal.returns-in-Err
returns-in-Err g c =
    let V = g.V.Vault in
    let lib = g.M.Media.library c.args.media.now in
    let job = c.args.job.now in
    let name = c.as_str.ensures ∙ c.name.ensures in
    let old = c.args.vault.now in
    let new = c.begin.new.self in
    carries_refused (record { library = lib; rate = c.args.rate; tells = V.tells }) (V.seen old) (V.seen new) (carried_as job c.ending_of.result) c.in-Err.fault
    c.ending_of.ensures c.in-Err.ensures.begun.0
    (subst (λ (n : List ℕ). IsTrue V.tells → ((V.seen new).file n ≡ (V.seen old).file n) ⊎ ((V.seen new).file n ≡ Some [])) name c.in-Err.ensures.begun.1)
    (subst (KeepsOthers V.tells (V.seen old) (V.seen new)) name c.in-Err.ensures.others)
    c.in-Err.ensures.cause
