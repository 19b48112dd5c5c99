use Rattle.std.proofs.Common.{◌≡◌, ℕ, ◌+◌, ◌-◌, ◌*◌, ◌/◌, ◌%◌, ◌<◌, ◌++◌, ◌∷◌, [], List, length, map, sym, ap, ◌∙◌, subst, arith}
use Rattle.mkv_write.specs.declared.cue.Cue.{Cue}
use Rattle.mkv_write.specs.declared.writer.MkvWriter.TheInside.{Inside}
use Rattle.mkv_write.specs.File.{cue_point, cluster_of, simple_block, frame_time}
use Rattle.mkv_write.specs.History.{packet_of, writing_of}
use Rattle.mkv_write.specs.Keeping.{Keeps, points_of}
use Rattle.mkv_write.specs.Writing.{Writing, with_packet, put_of, IsPrefix}
use Rattle.mkv_write.proofs.Files.{puts_err, unput}
use Rattle.mkv_write.proofs.Kept.{keeps_ended, next_block, put_of-ended, points_of-push, packets-push}
use Rattle.mkv_write.proofs.writer.MkvWriter.end_cluster.Goals as goal

-- what is held after the Cluster
held_then : (inside : Inside) (w : Writing) (time block : ℕ) (held packet : List ℕ) → writing_of inside.history inside.rate ≡ w
    → Keeps (writing_of inside.history inside.rate) inside.frames inside.place inside.gathered.items inside.cues.items
    → length w.packets % 25 + 1 ≡ 25 → time ≡ frame_time inside.rate (25 * (inside.frames / 25))
    → block ≡ frame_time inside.rate inside.frames - frame_time inside.rate (25 * (inside.frames / 25)) → held ≡ put_of w
    → held ++ cluster_of time (inside.gathered.items ++ simple_block block packet) ≡ put_of (with_packet w packet)
held_then inside w time block held packet view keeps last time-is block-is held-is =
    let v : Writing = writing_of inside.history inside.rate in
    let piece : List ℕ = cluster_of time (inside.gathered.items ++ simple_block block packet) in
    let same : length v.packets ≡ length w.packets = ap (λ (x : Writing). length x.packets) view in
    let last_v : length v.packets % 25 ≡ 24 = omega arith in
    let all = put_of-ended v inside.frames inside.place inside.gathered.items inside.cues.items packet time block keeps last_v time-is block-is in
    ap (λ (x : List ℕ). x ++ piece) held-is ∙ subst (λ (x : Writing). put_of x ++ piece ≡ put_of (with_packet x packet)) view all

pub returns-in_err-reserve-clause-put : goal.returns-in_err-reserve-clause-put
returns-in_err-reserve-clause-put g c =
    puts_err _ _ _ _ c.from_residual.ensures.0 (λ t. unput _ c.args.self.now c.args.packet.now (c.requires.held t))

pub returns-in_err-reserve-2-clause-put : goal.returns-in_err-reserve-2-clause-put
returns-in_err-reserve-2-clause-put g c =
    puts_err _ _ _ _ c.from_residual-in_err-reserve-2.ensures.0 (λ t. unput _ c.args.self.now c.args.packet.now (c.requires.held t))

pub returns-in_err-given-clause-put : goal.returns-in_err-given-clause-put
returns-in_err-given-clause-put g c =
    puts_err _ _ _ _ c.from_residual-in_err-given.ensures.0
    (λ t. subst (λ (x : List ℕ). IsPrefix (g.V.Vault.seen c.put_full_cluster.new.vault).held x) (held_then c.self.inside c.args.self.now _ _ _ c.args.packet.now c.self.view_is c.self.invariant c.requires.last c.cluster_time-time.ensures c.block_time-block_time.ensures (c.requires.held t)) (c.in_err-given.ensures.put t))

pub invariant_of-self-2 : goal.invariant_of-self-2
invariant_of-self-2 g c =
    let inside = c.self.inside in
    let v : Writing = writing_of inside.history inside.rate in
    let packet : List ℕ = c.args.packet.now in
    let view : length v.packets ≡ length c.args.self.now.packets = ap (λ (x : Writing). length x.packets) c.self.view_is in
    let last : length v.packets % 25 ≡ 24 = omega (arith, c.requires.last) in
    let frames_are : inside.frames ≡ length v.packets = c.self.invariant.frames_are in
    let added = packets-push inside.history.packets.items c.push_reserved-2.new.self.items c.in_ok-given.given packet (c.push_reserved-2.ensures.items ∙ ap (λ (x : List _). x ++ c.in_ok-given.given ∷ []) c.in_ok-reserve.ensures.items) c.in_ok-given.ensures.given in
    let before : List ℕ = inside.gathered.items in
    let after = c.put_full_cluster.new.blocks in
    let grown : after.items ≡ before ++ next_block inside.rate inside.frames packet = c.in_ok-given.ensures.ok ∙ ap (λ (k : ℕ). before ++ simple_block k packet) c.block_time-block_time.ensures in
    let len : c.len.result ≡ length after.items = omega (arith, after.ok.0, c.len.ensures) in
    let place : inside.place + (22 + c.len.result) ≡ inside.place + (22 + length (before ++ next_block inside.rate inside.frames packet)) = ap (λ (k : ℕ). inside.place + (22 + k)) (len ∙ ap length grown) in
    let cue : Cue = record { time = c.cluster_time-time.result; place = inside.place } in
    let cues = points_of-push inside.cues.items c.push_reserved.new.self.items cue (c.push_reserved.ensures.items ∙ ap (λ (x : List Cue). x ++ cue ∷ []) c.in_ok-reserve-2.ensures.items) ∙ ap (λ (k : ℕ). points_of inside.cues.items ++ cue_point k inside.place) c.cluster_time-time.ensures in
    let early : inside.frames < 1000000 = omega (arith, c.requires.frames) in
    let kept = keeps_ended v inside.frames inside.place (inside.place + (22 + c.len.result)) before inside.cues.items c.push_reserved.new.self.items packet c.self.invariant early c.requires.size last place cues in
    let with_packets = subst (λ (packets : List (List ℕ)). Keeps (record v { packets = packets }) (inside.frames + 1) (inside.place + (22 + c.len.result)) [] c.push_reserved.new.self.items) (sym added) kept in
    subst (λ (bytes : List ℕ). Keeps (record v { packets = map packet_of c.push_reserved-2.new.self.items }) (inside.frames + 1) (inside.place + (22 + c.len.result)) bytes c.push_reserved.new.self.items) (sym c.clear.ensures.items) with_packets

pub returns-clause-put : goal.returns-clause-put
returns-clause-put g c =
    λ t. c.in_ok-given.ensures.put t ∙ held_then c.self.inside c.args.self.now _ _ _ c.args.packet.now c.self.view_is c.self.invariant c.requires.last c.cluster_time-time.ensures c.block_time-block_time.ensures (c.requires.held t)
