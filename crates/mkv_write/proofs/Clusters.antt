-- Clusters, as packets are added.
use Rattle.std.proofs.Common.{◌≡◌, ℕ, zero, suc, ◌+◌, ◌-◌, ◌*◌, ◌≤◌, List, [], ◌∷◌, ◌++◌, length, take, drop, refl, sym, ap, ◌∙◌, inl, inr, append_assoc, arith, length-append, length-drop}
use Rattle.std.proofs.lemmas.Bool.{cases_lt}
use Rattle.std.proofs.lemmas.List.{append-nil, drop-append-le, drop_all, take-append-le, take_all}
use Rattle.std.specs.Int.{bytes_high_first}
use Rattle.mkv_elements.specs.declared.TheConstants.{CLUSTER, TIMESTAMP}
use Rattle.mkv_write.specs.File.{frame_time, size, element, number, simple_block, blocks, cluster_of, cluster, clusters, cluster_place, cue_points}
use Rattle.mkv_write.specs.Writing.{IsPrefix}
use Rattle.mkv_write.proofs.Lengths.{length-element}
use Rattle.mkv_write.proofs.Octets.{length-bytes_high_first}
use Rattle.mkv_write.proofs.Prefix.{prefix_same, prefix_append}

-- a number of 8 octets with an id of one takes 10 bytes
length-number : (id value : ℕ) → length (number 1 id 8 value) ≡ 10
unfolding number
length-number id value = omega (arith, length-element 1 id 1 (bytes_high_first 8 value), length-bytes_high_first 8 value)

-- the head of a Cluster, and then its blocks
pub cluster_of_parts : (time : ℕ) (content : List ℕ) → cluster_of time content ≡ ((bytes_high_first 4 CLUSTER ++ size 8 (length content + 10)) ++ number 1 TIMESTAMP 8 time) ++ content
unfolding cluster_of element
cluster_of_parts time content =
    let len : length (number 1 TIMESTAMP 8 time ++ content) ≡ length content + 10 = omega (arith, length-append (number 1 TIMESTAMP 8 time) content, length-number TIMESTAMP time) in
    ap (λ (n : ℕ). (bytes_high_first 4 CLUSTER ++ size 8 n) ++ (number 1 TIMESTAMP 8 time ++ content)) len ∙ sym (append_assoc (bytes_high_first 4 CLUSTER ++ size 8 (length content + 10)) (number 1 TIMESTAMP 8 time) content)

-- one more packet is one more block
blocks-push : (rate time frame : ℕ) (packets : List (List ℕ)) (packet : List ℕ) → blocks rate time frame (packets ++ packet ∷ []) ≡ blocks rate time frame packets ++ simple_block (frame_time rate (frame + length packets) - time) packet
unfolding blocks
blocks-push rate time frame [] packet =
    append-nil (simple_block (frame_time rate frame - time) packet) ∙ ap (λ (n : ℕ). simple_block (frame_time rate n - time) packet) (omega arith)
blocks-push rate time frame (first ∷ packets) packet =
    let block : List ℕ = simple_block (frame_time rate frame - time) first in
    let rest : List ℕ = blocks rate time (frame + 1) packets in
    ap (λ (x : List ℕ). block ++ x) (blocks-push rate time (frame + 1) packets packet) ∙ sym (append_assoc block rest (simple_block (frame_time rate (frame + 1 + length packets) - time) packet)) ∙ ap (λ (n : ℕ). (block ++ rest) ++ simple_block (frame_time rate n - time) packet) (omega arith)

-- the blocks of all packets after the first Clusters
unfoldable pub open_at : (rate : ℕ) (packets : List (List ℕ)) (count : ℕ) → List ℕ
open_at rate packets count = blocks rate (frame_time rate (25 * count)) (25 * count) (drop (25 * count) packets)

pub open_at-push : (rate : ℕ) (packets : List (List ℕ)) (count : ℕ) (packet : List ℕ) → 25 * count ≤ length packets → open_at rate (packets ++ packet ∷ []) count ≡ open_at rate packets count ++ simple_block (frame_time rate (length packets) - frame_time rate (25 * count)) packet
unfolding open_at
open_at-push rate packets count packet within =
    let time = frame_time rate (25 * count) in
    let rest : List (List ℕ) = drop (25 * count) packets in
    let number : 25 * count + length rest ≡ length packets = omega (arith, length-drop (25 * count) packets) in
    ap (blocks rate time (25 * count)) (drop-append-le (25 * count) packets (packet ∷ []) within) ∙ blocks-push rate time (25 * count) rest packet ∙ ap (λ (n : ℕ). blocks rate time (25 * count) rest ++ simple_block (frame_time rate n - time) packet) number

pub open_at-none : (rate : ℕ) (packets : List (List ℕ)) (count : ℕ) → length packets ≤ 25 * count → open_at rate packets count ≡ []
unfolding open_at blocks
open_at-none rate packets count past = ap (blocks rate (frame_time rate (25 * count)) (25 * count)) (drop_all (25 * count) packets past)

-- a Cluster that holds all packets after the earlier ones
pub cluster-last : (rate : ℕ) (packets : List (List ℕ)) (index : ℕ) → length packets ≤ 25 * index + 25 → cluster rate packets index ≡ cluster_of (frame_time rate (25 * index)) (open_at rate packets index)
unfolding cluster open_at
cluster-last rate packets index few =
    let time = frame_time rate (25 * index) in
    ap (λ (x : List (List ℕ)). cluster_of time (blocks rate time (25 * index) x)) (take_all 25 (drop (25 * index) packets) (omega (arith, length-drop (25 * index) packets)))

-- more packets change no full Cluster
cluster-append : (rate : ℕ) (packets more : List (List ℕ)) (index : ℕ) → 25 * index + 25 ≤ length packets → cluster rate (packets ++ more) index ≡ cluster rate packets index
unfolding cluster
cluster-append rate packets more index full =
    let first = 25 * index in
    let time = frame_time rate first in
    let rest : List (List ℕ) = drop first packets in
    let front : take 25 (rest ++ more) ≡ take 25 rest = take-append-le 25 rest more (omega (arith, length-drop first packets)) in
    ap (λ (x : List (List ℕ)). cluster_of time (blocks rate time first x)) (ap (take 25) (drop-append-le first packets more (omega arith)) ∙ front)

pub clusters-append : (rate : ℕ) (packets more : List (List ℕ)) (count : ℕ) → 25 * count ≤ length packets → clusters rate (packets ++ more) count ≡ clusters rate packets count
unfolding clusters
clusters-append rate packets more zero full = refl
clusters-append rate packets more (suc index) full =
    let earlier = clusters-append rate packets more index (omega arith) in
    let this = cluster-append rate packets more index (omega arith) in
    rw (earlier, this) refl

pub cluster_place-append : (lead_length rate : ℕ) (packets more : List (List ℕ)) (index : ℕ) → 25 * index ≤ length packets → cluster_place lead_length rate (packets ++ more) index ≡ cluster_place lead_length rate packets index
unfolding cluster_place
cluster_place-append lead_length rate packets more index full =
    ap (λ (x : List ℕ). lead_length + length x) (clusters-append rate packets more index full)

pub cue_points-append : (lead_length rate : ℕ) (packets more : List (List ℕ)) (count : ℕ) → 25 * count ≤ length packets → cue_points lead_length rate (packets ++ more) count ≡ cue_points lead_length rate packets count
unfolding cue_points
cue_points-append lead_length rate packets more zero full = refl
cue_points-append lead_length rate packets more (suc index) full =
    let earlier = cue_points-append lead_length rate packets more index (omega arith) in
    let place = cluster_place-append lead_length rate packets more index (omega arith) in
    rw (earlier, place) refl

-- fewer Clusters are a prefix of more
pub clusters-le : (rate : ℕ) (packets : List (List ℕ)) (fewer more : ℕ) → fewer ≤ more → IsPrefix (clusters rate packets fewer) (clusters rate packets more)
unfolding clusters
clusters-le rate packets fewer zero le =
    let e : fewer ≡ 0 = omega arith in
    prefix_same (clusters rate packets fewer) [] (ap (clusters rate packets) e)
clusters-le rate packets fewer (suc more) le = elim (cases_lt more fewer) [
  | inl all ↦
      let e : fewer ≡ suc more = omega arith in
      prefix_same (clusters rate packets fewer) (clusters rate packets more ++ cluster rate packets more) (ap (clusters rate packets) e)
  | inr some ↦
      prefix_append (clusters rate packets fewer) (clusters rate packets more) (cluster rate packets more) (clusters-le rate packets fewer more some)
]
