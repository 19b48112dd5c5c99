use Rattle.std.proofs.Common.{◌≡◌, ◌≢◌, ℕ, ◌%◌, ◌*◌, ◌/◌, ◌++◌, List, length, ap, ◌∙◌, subst}
use Rattle.mkv_write.specs.declared.cue.Cue.{Cue}
use Rattle.mkv_write.specs.declared.writer.MkvWriter.TheInside.{Inside}
use Rattle.mkv_write.specs.File.{frame_time, head, clusters, cluster_count, cluster_of, cue_points}
use Rattle.mkv_write.specs.History.{writing_of}
use Rattle.mkv_write.specs.Keeping.{Keeps, lead_length, points_of}
use Rattle.mkv_write.specs.Writing.{Writing, put_of, IsPrefix}
use Rattle.mkv_write.proofs.Files.{puts_err}
use Rattle.mkv_write.proofs.Kept.{put_of-rest, points_of-rest, points_of-push}
use Rattle.mkv_write.proofs.Prefix.{prefix_same}
use Rattle.mkv_write.proofs.writer.MkvWriter.put_last.Goals as goal

-- all but the Cues
no_cues : Writing → List ℕ
no_cues w = head w.private w.width w.height ++ clusters w.rate w.packets (cluster_count (length w.packets))

-- what is held after the last Cluster
held_then : (inside : Inside) (w : Writing) (time : ℕ) (held bytes : List ℕ) → writing_of inside.history inside.rate ≡ w
    → Keeps (writing_of inside.history inside.rate) inside.frames inside.place inside.gathered.items inside.cues.items
    → inside.frames % 25 ≢ 0 → time ≡ frame_time inside.rate (25 * (inside.frames / 25)) → bytes ≡ inside.gathered.items → held ≡ put_of w
    → held ++ cluster_of time bytes ≡ no_cues w
unfolding no_cues
held_then inside w time held bytes view keeps some time-is bytes-are held-is =
    let rest = put_of-rest (writing_of inside.history inside.rate) inside.frames inside.place inside.gathered.items inside.cues.items time keeps some time-is in
    let whole : put_of w ++ cluster_of time inside.gathered.items ≡ no_cues w = subst (λ (x : Writing). put_of x ++ cluster_of time inside.gathered.items ≡ no_cues x) view rest in
    ap (λ (x : List ℕ). x ++ cluster_of time bytes) held-is ∙ ap (λ (x : List ℕ). put_of w ++ cluster_of time x) bytes-are ∙ whole

pub returns-in_err-put_cluster-clause-put : goal.returns-in_err-put_cluster-clause-put
unfolding no_cues
returns-in_err-put_cluster-clause-put g c =
    puts_err _ _ _ _ c.from_residual.ensures.0
    (λ t. subst (λ (x : List ℕ). IsPrefix (g.V.Vault.seen c.put_cluster.new.vault).held x) (held_then c.self.inside c.args.self _ _ _ c.self.view_is c.self.invariant c.if-self-eq0.false c.cluster_time-time.ensures c.deref.ensures.value (c.requires.held t)) (c.in_err-put_cluster.ensures.put t))

pub returns-in_err-push-clause-put : goal.returns-in_err-push-clause-put
unfolding no_cues
returns-in_err-push-clause-put g c =
    puts_err _ _ _ _ c.from_residual-in_err-push.ensures.0
    (λ t. prefix_same _ _ (c.in_ok-put_cluster.ensures.put t ∙ held_then c.self.inside c.args.self _ _ _ c.self.view_is c.self.invariant c.if-self-eq0.false c.cluster_time-time.ensures c.deref.ensures.value (c.requires.held t)))

pub returns-clause-cues : goal.returns-clause-cues
returns-clause-cues g c =
    let inside = c.self.inside in
    let time : ℕ = c.cluster_time-time.result in
    let cue : Cue = record { time = time; place = inside.place } in
    let added = points_of-push inside.cues.items c.push.new.self.items cue c.in_ok-push.ensures.items in
    let rest = points_of-rest (writing_of inside.history inside.rate) inside.frames inside.place inside.gathered.items inside.cues.items c.push.new.self.items time c.self.invariant c.if-self-eq0.false added c.cluster_time-time.ensures in
    subst (λ (x : Writing). points_of c.push.new.self.items ≡ cue_points (lead_length x) x.rate x.packets (cluster_count (length x.packets))) c.self.view_is rest

pub returns-clause-put : goal.returns-clause-put
unfolding no_cues
returns-clause-put g c =
    λ t. c.in_ok-put_cluster.ensures.put t ∙ held_then c.self.inside c.args.self _ _ _ c.self.view_is c.self.invariant c.if-self-eq0.false c.cluster_time-time.ensures c.deref.ensures.value (c.requires.held t)
