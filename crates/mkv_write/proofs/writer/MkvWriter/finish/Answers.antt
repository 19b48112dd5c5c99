use Rattle.std.proofs.Common.{◌≡◌, ℕ, ◌++◌, List, length, sym, ap, ◌∙◌, subst}
use Rattle.mkv_elements.specs.declared.TheConstants.{CUES}
use Rattle.mkv_write.specs.File.{element, head, clusters, cluster_count, cue_points}
use Rattle.mkv_write.specs.Keeping.{lead_length, points_of}
use Rattle.mkv_write.specs.Writing.{Writing, file_of, IsPrefix}
use Rattle.mkv_write.proofs.Files.{file_of-is, no_cues-prefix, puts_err}
use Rattle.mkv_write.proofs.Prefix.{prefix_trans}
use Rattle.mkv_write.proofs.writer.MkvWriter.finish.Goals as goal

-- what is held with the Cues
held_then : (w : Writing) (held bytes points : List ℕ) → held ≡ head w.private w.width w.height ++ clusters w.rate w.packets (cluster_count (length w.packets))
    → bytes ≡ element 4 CUES 8 points → points ≡ cue_points (lead_length w) w.rate w.packets (cluster_count (length w.packets)) → held ++ bytes ≡ file_of w
held_then w held bytes points held-is bytes-are points-are =
    let front : List ℕ = head w.private w.width w.height ++ clusters w.rate w.packets (cluster_count (length w.packets)) in
    ap (λ (x : List ℕ). x ++ bytes) held-is ∙ ap (λ (x : List ℕ). front ++ x) (bytes-are ∙ ap (element 4 CUES 8) points-are) ∙ sym (file_of-is w)

pub returns-in_err-all-clause-put : goal.returns-in_err-all-clause-put
returns-in_err-all-clause-put g c =
    puts_err _ _ _ _ c.from_residual.ensures.0 (λ t. prefix_trans _ _ _ (c.in_err-all.ensures.put t) (no_cues-prefix c.args.self))

pub returns-in_err-bytes-clause-put : goal.returns-in_err-bytes-clause-put
returns-in_err-bytes-clause-put g c =
    puts_err _ _ _ _ c.from_residual-in_err-bytes.ensures.0
    (λ t. subst (λ (x : List ℕ). IsPrefix x (file_of c.args.self)) (sym (c.in_ok-all.ensures.put t)) (no_cues-prefix c.args.self))

pub returns-in_err-put-clause-put : goal.returns-in_err-put-clause-put
returns-in_err-put-clause-put g c =
    let points : points_of c.deref.result.now ≡ points_of c.in_ok-all.all.items = ap points_of c.deref.ensures.value in
    puts_err _ _ _ _ c.from_residual-in_err-put.ensures.0
    (λ t. subst (λ (x : List ℕ). IsPrefix (g.V.Vault.seen c.put.new.vault).held x) (held_then c.args.self _ _ _ (c.in_ok-all.ensures.put t) (c.deref-2.ensures.value ∙ c.in_ok-bytes.ensures) (points ∙ c.in_ok-all.ensures.cues)) (c.in_err-put.ensures.put t))

pub returns-clause-put : goal.returns-clause-put
returns-clause-put g c =
    let points : points_of c.deref.result.now ≡ points_of c.in_ok-all.all.items = ap points_of c.deref.ensures.value in
    λ t. c.in_ok-put.ensures.put t ∙ held_then c.args.self _ _ _ (c.in_ok-all.ensures.put t) (c.deref-2.ensures.value ∙ c.in_ok-bytes.ensures) (points ∙ c.in_ok-all.ensures.cues)
