-- How many bytes elements take.
use Rattle.std.proofs.Common.{◌≡◌, ℕ, ◌+◌, ◌*◌, ◌^◌, List, ◌∷◌, ◌++◌, length, codes, refl, arith, length-append}
use Rattle.std.specs.Int.{bytes_high_first}
use Rattle.mkv_write.specs.File.{size, element, number, simple_block, cluster_of, info, video, track, lead}
use Rattle.mkv_elements.specs.declared.TheConstants.{CLUSTER, TIMESTAMP, TRACKS, TRACK_ENTRY, CODEC_PRIVATE, CODEC_ID, TRACK_NUMBER, TRACK_UID, TRACK_TYPE, FLAG_LACING}
use Rattle.mkv_write.proofs.Octets.{length-bytes_high_first}

pub length-element : (id_octets id size_octets : ℕ) (content : List ℕ) → length (element id_octets id size_octets content) ≡ id_octets + size_octets + length content
unfolding element size
length-element id_octets id size_octets content =
    let a = length-bytes_high_first id_octets id in
    let b = length-bytes_high_first size_octets (2 ^ (7 * size_octets) + length content) in
    simp length-append (omega arith)

pub length-simple_block : (time : ℕ) (packet : List ℕ) → length (simple_block time packet) ≡ length packet + 13
unfolding simple_block
length-simple_block time packet = omega (arith, length-element 1 163 8 (129 ∷ bytes_high_first 2 time ++ 128 ∷ packet))

pub length-cluster_of : (time : ℕ) (content : List ℕ) → length (cluster_of time content) ≡ length content + 22
unfolding cluster_of number
length-cluster_of time content =
    let stamp : List ℕ = element 1 TIMESTAMP 1 (bytes_high_first 8 time) in
    let a : length stamp ≡ 10 = omega (arith, length-element 1 TIMESTAMP 1 (bytes_high_first 8 time), length-bytes_high_first 8 time) in
    let b : length (stamp ++ content) ≡ length stamp + length content = length-append stamp content in
    omega (arith, length-element 4 CLUSTER 8 (stamp ++ content))

length-info : length info ≡ 44
unfolding info element number size
length-info = refl

pub length-video : (width height : ℕ) → length (video width height) ≡ 10
unfolding video element number size
length-video width height = refl

length-front : length (number 1 TRACK_NUMBER 1 1 ++ number 2 TRACK_UID 1 1 ++ number 1 TRACK_TYPE 1 1 ++ number 1 FLAG_LACING 1 0 ++ element 1 CODEC_ID 1 (codes "V_FFV1")) ≡ 21
unfolding element number size
length-front = refl

pub length-track : (private : List ℕ) (width height : ℕ) → length (track private width height) ≡ length private + 37
unfolding track
length-track private width height =
    let front : List ℕ = number 1 TRACK_NUMBER 1 1 ++ number 2 TRACK_UID 1 1 ++ number 1 TRACK_TYPE 1 1 ++ number 1 FLAG_LACING 1 0 ++ element 1 CODEC_ID 1 (codes "V_FFV1") in
    let record_part : List ℕ = element 2 CODEC_PRIVATE 4 private in
    let a : length record_part ≡ 6 + length private = length-element 2 CODEC_PRIVATE 4 private in
    let b : length ((front ++ record_part) ++ video width height) ≡ length (front ++ record_part) + length (video width height) = length-append (front ++ record_part) (video width height) in
    let d : length (front ++ record_part) ≡ length front + length record_part = length-append front record_part in
    omega (arith, length-front, length-video width height, a, b, d)

-- Info and Tracks, so that the first Cluster begins at place 94 and the length of the record in the Segment's content
pub length-lead : (private : List ℕ) (width height : ℕ) → length (lead private width height) ≡ length private + 94
unfolding lead
length-lead private width height =
    let entry : List ℕ = element 1 TRACK_ENTRY 4 (track private width height) in
    let a : length entry ≡ 5 + length (track private width height) = length-element 1 TRACK_ENTRY 4 (track private width height) in
    let b : length (element 4 TRACKS 4 entry) ≡ 8 + length entry = length-element 4 TRACKS 4 entry in
    omega (arith, length-append info (element 4 TRACKS 4 entry), length-info, length-track private width height, a, b)
