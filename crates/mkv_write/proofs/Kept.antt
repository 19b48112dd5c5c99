-- What a writer keeps, from one packet to the next.
use Rattle.std.proofs.Common.{◌≡◌, ◌≢◌, ℕ, suc, ◌+◌, ◌-◌, ◌*◌, ◌/◌, ◌%◌, ◌^◌, ◌<◌, ◌≤◌, List, [], ◌∷◌, ◌++◌, length, map, refl, sym, ap, ◌∙◌, append_assoc, arith, length-append}
use Rattle.std.proofs.lemmas.List.{length_push, map_push, flat_map_more}
use Rattle.mkv_write.specs.declared.cue.Cue.{Cue}
use Rattle.mkv_write.specs.declared.history.Given.{Given}
use Rattle.mkv_write.specs.History.{packet_of}
use Rattle.mkv_write.specs.File.{frame_time, head, lead, blocks, simple_block, cluster_of, cluster, clusters, cluster_count, cluster_place, cue_point, cue_points}
use Rattle.mkv_write.specs.Writing.{Writing, nothing_yet, with_packet, put_of}
use Rattle.mkv_write.specs.Keeping.{Keeps, open_blocks, lead_length, points_of}
use Rattle.mkv_write.proofs.Clusters.{open_at, open_at-push, open_at-none, cluster-last, clusters-append, cluster_place-append, cue_points-append}
use Rattle.mkv_write.proofs.Lengths.{length-simple_block, length-cluster_of, length-lead}

-- the block of a frame in the open Cluster
abbrev pub next_block : (rate frame : ℕ) (packet : List ℕ) → List ℕ
next_block rate frame packet = simple_block (frame_time rate frame - frame_time rate (25 * (frame / 25))) packet

open_at-next : (rate : ℕ) (packets : List (List ℕ)) (packet : List ℕ) → open_at rate (packets ++ packet ∷ []) (length packets / 25) ≡ open_at rate packets (length packets / 25) ++ next_block rate (length packets) packet
open_at-next rate packets packet = open_at-push rate packets (length packets / 25) packet (omega arith)

open_blocks-is : (w : Writing) → open_blocks w ≡ open_at w.rate w.packets (length w.packets / 25)
unfolding open_at
open_blocks-is w = refl

-- a packet that isn't the last of its Cluster
pub keeps_gathered : (w : Writing) (frames place : ℕ) (bytes bytes' : List ℕ) (cues : List Cue) (packet : List ℕ) → Keeps w frames place bytes cues → frames < 1000000 → length packet ≤ 2 ^ 40 → length w.packets % 25 < 24 → bytes' ≡ bytes ++ next_block w.rate frames packet → Keeps (with_packet w packet) (frames + 1) place bytes' cues
keeps_gathered w frames place bytes bytes' cues packet keeps room size early e =
    let n : ℕ = length w.packets / 25 in
    let all : List (List ℕ) = w.packets ++ packet ∷ [] in
    let len : length all ≡ length w.packets + 1 = length_push w.packets packet in
    let same : n ≡ length all / 25 = omega arith in
    let full : 25 * n ≤ length w.packets = omega arith in
    let block_length = length-simple_block (frame_time w.rate frames - frame_time w.rate (25 * (frames / 25))) packet in
    let bytes_length : length bytes' ≡ length bytes + length (next_block w.rate frames packet) = ap length e ∙ length-append bytes (next_block w.rate frames packet) in
    let frames_are : frames ≡ length w.packets = keeps.frames_are in
    let bytes_limit : place + length bytes ≤ 2 ^ 17 + frames * 2 ^ 41 = keeps.bytes_limit in
    record {
      rate = keeps.rate;
      frames_are = omega arith;
      frames_limit = omega arith;
      open_are = e ∙ ap (λ (k : ℕ). bytes ++ next_block w.rate k packet) frames_are ∙ ap (λ (x : List ℕ). x ++ next_block w.rate (length w.packets) packet) (keeps.open_are ∙ open_blocks-is w) ∙ sym (open_at-next w.rate w.packets packet) ∙ ap (open_at w.rate all) same ∙ sym (open_blocks-is (with_packet w packet));
      cues_are = keeps.cues_are ∙ sym (cue_points-append (lead_length w) w.rate w.packets (packet ∷ []) n full) ∙ ap (cue_points (lead_length w) w.rate all) same;
      place_is = keeps.place_is ∙ sym (cluster_place-append (lead_length w) w.rate w.packets (packet ∷ []) n full) ∙ ap (cluster_place (lead_length w) w.rate all) same;
      bytes_limit = omega arith;
    }

-- the Cluster of which a packet is the last
pub last_cluster : (w : Writing) (packet : List ℕ) → length w.packets % 25 ≡ 24 → cluster w.rate (w.packets ++ packet ∷ []) (length w.packets / 25) ≡ cluster_of (frame_time w.rate (25 * (length w.packets / 25))) (open_blocks w ++ next_block w.rate (length w.packets) packet)
last_cluster w packet last =
    let n : ℕ = length w.packets / 25 in
    let all : List (List ℕ) = w.packets ++ packet ∷ [] in
    let len : length all ≡ length w.packets + 1 = length_push w.packets packet in
    cluster-last w.rate all n (omega arith) ∙ ap (cluster_of (frame_time w.rate (25 * n))) (open_at-next w.rate w.packets packet ∙ ap (λ (x : List ℕ). x ++ next_block w.rate (length w.packets) packet) (sym (open_blocks-is w)))

-- what is put with it
pub put_of-last : (w : Writing) (packet : List ℕ) → length w.packets % 25 ≡ 24 → put_of (with_packet w packet) ≡ put_of w ++ cluster_of (frame_time w.rate (25 * (length w.packets / 25))) (open_blocks w ++ next_block w.rate (length w.packets) packet)
unfolding clusters
put_of-last w packet last =
    let n : ℕ = length w.packets / 25 in
    let all : List (List ℕ) = w.packets ++ packet ∷ [] in
    let front : List ℕ = head w.private w.width w.height in
    let len : length all ≡ length w.packets + 1 = length_push w.packets packet in
    let next : length all / 25 ≡ suc n = omega arith in
    let this : List ℕ = cluster_of (frame_time w.rate (25 * n)) (open_blocks w ++ next_block w.rate (length w.packets) packet) in
    ap (λ (k : ℕ). front ++ clusters w.rate all k) next ∙ ap (λ (x : List ℕ). front ++ (x ++ cluster w.rate all n)) (clusters-append w.rate w.packets (packet ∷ []) n (omega arith)) ∙ ap (λ (x : List ℕ). front ++ (clusters w.rate w.packets n ++ x)) (last_cluster w packet last) ∙ sym (append_assoc front (clusters w.rate w.packets n) this)

pub keeps_ended : (w : Writing) (frames place place' : ℕ) (bytes : List ℕ) (cues cues' : List Cue) (packet : List ℕ) → Keeps w frames place bytes cues → frames < 1000000 → length packet ≤ 2 ^ 40 → length w.packets % 25 ≡ 24 → place' ≡ place + (22 + length (bytes ++ next_block w.rate frames packet)) → points_of cues' ≡ points_of cues ++ cue_point (frame_time w.rate (25 * (frames / 25))) place → Keeps (with_packet w packet) (frames + 1) place' [] cues'
unfolding cue_points cluster_place clusters
keeps_ended w frames place place' bytes cues cues' packet keeps room size last place'-is cues'-are =
    let n : ℕ = length w.packets / 25 in
    let all : List (List ℕ) = w.packets ++ packet ∷ [] in
    let lead : ℕ = lead_length w in
    let len : length all ≡ length w.packets + 1 = length_push w.packets packet in
    let next : suc n ≡ length all / 25 = omega arith in
    let full : 25 * n ≤ length w.packets = omega arith in
    let frames_are : frames ≡ length w.packets = keeps.frames_are in
    let bytes_limit : place + length bytes ≤ 2 ^ 17 + frames * 2 ^ 41 = keeps.bytes_limit in
    let block_length = length-simple_block (frame_time w.rate frames - frame_time w.rate (25 * (frames / 25))) packet in
    let bytes_length : length (bytes ++ next_block w.rate frames packet) ≡ length bytes + length (next_block w.rate frames packet) = length-append bytes (next_block w.rate frames packet) in
    let place_before : place ≡ cluster_place lead w.rate all n = keeps.place_is ∙ sym (cluster_place-append lead w.rate w.packets (packet ∷ []) n full) in
    let points_before : points_of cues ≡ cue_points lead w.rate all n = keeps.cues_are ∙ sym (cue_points-append lead w.rate w.packets (packet ∷ []) n full) in
    let content : List ℕ = open_blocks w ++ next_block w.rate (length w.packets) packet in
    let content-is : bytes ++ next_block w.rate frames packet ≡ content = ap (λ (x : List ℕ). x ++ next_block w.rate frames packet) keeps.open_are ∙ ap (λ (k : ℕ). open_blocks w ++ next_block w.rate k packet) frames_are in
    let this : length (cluster w.rate all n) ≡ length content + 22 = ap length (last_cluster w packet last) ∙ length-cluster_of (frame_time w.rate (25 * n)) content in
    let both : length (clusters w.rate all n ++ cluster w.rate all n) ≡ length (clusters w.rate all n) + length (cluster w.rate all n) = length-append (clusters w.rate all n) (cluster w.rate all n) in
    let content_length : length (bytes ++ next_block w.rate frames packet) ≡ length content = ap length content-is in
    let place_after : place' ≡ cluster_place lead w.rate all (suc n) = omega arith in
    record {
      rate = keeps.rate;
      frames_are = omega arith;
      frames_limit = omega arith;
      open_are = sym (open_at-none w.rate all (length all / 25) (omega arith)) ∙ sym (open_blocks-is (with_packet w packet));
      cues_are = cues'-are ∙ ap (λ (x : List ℕ). x ++ cue_point (frame_time w.rate (25 * (frames / 25))) place) points_before ∙ ap (λ (k : ℕ). cue_points lead w.rate all n ++ cue_point (frame_time w.rate (25 * (k / 25))) place) frames_are ∙ ap (λ (k : ℕ). cue_points lead w.rate all n ++ cue_point (frame_time w.rate (25 * n)) k) place_before ∙ ap (cue_points lead w.rate all) next;
      place_is = place_after ∙ ap (cluster_place lead w.rate all) next;
      bytes_limit = omega arith;
    }

-- one more packet in the history
pub packets-push : (givens givens' : List Given) (given : Given) (packet : List ℕ) → givens' ≡ givens ++ given ∷ [] → packet_of given ≡ packet → map packet_of givens' ≡ map packet_of givens ++ packet ∷ []
packets-push givens givens' given packet added is =
    ap (map packet_of) added ∙ map_push packet_of givens given ∙ ap (λ (x : List ℕ). map packet_of givens ++ x ∷ []) is

pub put_of-ended : (w : Writing) (frames place : ℕ) (bytes : List ℕ) (cues : List Cue) (packet : List ℕ) (time block_time : ℕ) → Keeps w frames place bytes cues → length w.packets % 25 ≡ 24 → time ≡ frame_time w.rate (25 * (frames / 25)) → block_time ≡ frame_time w.rate frames - frame_time w.rate (25 * (frames / 25)) → put_of w ++ cluster_of time (bytes ++ simple_block block_time packet) ≡ put_of (with_packet w packet)
put_of-ended w frames place bytes cues packet time block_time keeps last time-is block_time-is =
    let frames_are : frames ≡ length w.packets = keeps.frames_are in
    let front : List ℕ = put_of w in
    ap (λ (k : ℕ). front ++ cluster_of time (bytes ++ simple_block k packet)) block_time-is ∙ ap (λ (k : ℕ). front ++ cluster_of k (bytes ++ next_block w.rate frames packet)) time-is ∙ ap (λ (x : List ℕ). front ++ cluster_of (frame_time w.rate (25 * (frames / 25))) (x ++ next_block w.rate frames packet)) keeps.open_are ∙ ap (λ (k : ℕ). front ++ cluster_of (frame_time w.rate (25 * (k / 25))) (open_blocks w ++ next_block w.rate k packet)) frames_are ∙ sym (put_of-last w packet last)

-- one more Cue
pub points_of-push : (cues cues' : List Cue) (cue : Cue) → cues' ≡ cues ++ cue ∷ [] → points_of cues' ≡ points_of cues ++ cue_point cue.time cue.place
points_of-push cues cues' cue added =
    let spelled : Cue → List ℕ = λ cue. cue_point cue.time cue.place in
    ap points_of added ∙ sym (flat_map_more spelled [] cues cue)

-- a packet that isn't the last of its Cluster puts nothing
pub put_of-gathered : (w : Writing) (packet : List ℕ) → length w.packets % 25 < 24 → put_of w ≡ put_of (with_packet w packet)
put_of-gathered w packet early =
    let n : ℕ = length w.packets / 25 in
    let all : List (List ℕ) = w.packets ++ packet ∷ [] in
    let front : List ℕ = head w.private w.width w.height in
    let len : length all ≡ length w.packets + 1 = length_push w.packets packet in
    let same : n ≡ length all / 25 = omega arith in
    ap (λ (x : List ℕ). front ++ x) (sym (clusters-append w.rate w.packets (packet ∷ []) n (omega arith))) ∙ ap (λ (k : ℕ). front ++ clusters w.rate all k) same

-- the Cluster that isn't full, at the end
pub put_of-rest : (w : Writing) (frames place : ℕ) (bytes : List ℕ) (cues : List Cue) (time : ℕ) → Keeps w frames place bytes cues → frames % 25 ≢ 0 → time ≡ frame_time w.rate (25 * (frames / 25)) → put_of w ++ cluster_of time bytes ≡ head w.private w.width w.height ++ clusters w.rate w.packets (cluster_count (length w.packets))
unfolding clusters
put_of-rest w frames place bytes cues time keeps some time-is =
    let n : ℕ = length w.packets / 25 in
    let front : List ℕ = head w.private w.width w.height in
    let full : List ℕ = clusters w.rate w.packets n in
    let frames_are : frames ≡ length w.packets = keeps.frames_are in
    let rest : 0 < frames % 25 = omega arith in
    let count : suc n ≡ cluster_count (length w.packets) = omega arith in
    let this : cluster w.rate w.packets n ≡ cluster_of (frame_time w.rate (25 * n)) (open_blocks w) = cluster-last w.rate w.packets n (omega arith) ∙ ap (cluster_of (frame_time w.rate (25 * n))) (sym (open_blocks-is w)) in
    ap (λ (k : ℕ). (front ++ full) ++ cluster_of k bytes) time-is ∙ ap (λ (x : List ℕ). (front ++ full) ++ cluster_of (frame_time w.rate (25 * (frames / 25))) x) keeps.open_are ∙ ap (λ (k : ℕ). (front ++ full) ++ cluster_of (frame_time w.rate (25 * (k / 25))) (open_blocks w)) frames_are ∙ ap (λ (x : List ℕ). (front ++ full) ++ x) (sym this) ∙ append_assoc front full (cluster w.rate w.packets n) ∙ ap (λ (k : ℕ). front ++ clusters w.rate w.packets k) count

pub points_of-rest : (w : Writing) (frames place : ℕ) (bytes : List ℕ) (cues cues' : List Cue) (time : ℕ) → Keeps w frames place bytes cues → frames % 25 ≢ 0 → points_of cues' ≡ points_of cues ++ cue_point time place → time ≡ frame_time w.rate (25 * (frames / 25)) → points_of cues' ≡ cue_points (lead_length w) w.rate w.packets (cluster_count (length w.packets))
unfolding cue_points
points_of-rest w frames place bytes cues cues' time keeps some added time-is =
    let n : ℕ = length w.packets / 25 in
    let lead : ℕ = lead_length w in
    let full : List ℕ = cue_points lead w.rate w.packets n in
    let frames_are : frames ≡ length w.packets = keeps.frames_are in
    let rest : 0 < frames % 25 = omega arith in
    let count : suc n ≡ cluster_count (length w.packets) = omega arith in
    added ∙ ap (λ (k : ℕ). points_of cues ++ cue_point k place) time-is ∙ ap (λ (x : List ℕ). x ++ cue_point (frame_time w.rate (25 * (frames / 25))) place) keeps.cues_are ∙ ap (λ (k : ℕ). full ++ cue_point (frame_time w.rate (25 * (k / 25))) place) frames_are ∙ ap (λ (k : ℕ). full ++ cue_point (frame_time w.rate (25 * n)) k) keeps.place_is ∙ ap (cue_points lead w.rate w.packets) count

-- before the first packet
pub keeps_nothing : (private : List ℕ) (width height rate place : ℕ) → 1 ≤ rate → rate ≤ 240 → length private ≤ 65536 → place ≡ length (lead private width height) → Keeps (nothing_yet private width height rate) 0 place [] []
unfolding blocks clusters cluster_place cue_points
keeps_nothing private width height rate place above limit size place-is =
    let bytes = length-lead private width height in
    record {
      rate = (above, limit);
      frames_are = refl;
      frames_limit = omega arith;
      open_are = refl;
      cues_are = refl;
      place_is = omega arith;
      bytes_limit = omega arith;
    }
