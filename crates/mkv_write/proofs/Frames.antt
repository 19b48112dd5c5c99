-- The blocks that are read of what was written of packets.
use Rattle.std.proofs.Common.{◌≡◌, ℕ, zero, suc, false, ◌+◌, ◌-◌, ◌*◌, ◌/◌, ◌%◌, ◌^◌, ◌<◌, ◌≤◌, List, [], ◌∷◌, ◌++◌, length, take, drop, Option, Some, refl, sym, ap, subst, ◌∙◌, length-append, arith}
use Rattle.std.proofs.Math.Nat.{mul-le-mul_left, div-mul-le_self}
use Rattle.std.proofs.lemmas.List.{append-nil, length-take, take-take, drop-take, take-append-drop}
use Rattle.std.specs.Int.{byte_at, bytes_high_first}
use Rattle.std.specs.List.{flat_map, AllByRecursion}
use Rattle.ebml_core.specs.declared.vint.Size.TheVariants.{Known}
use Rattle.ebml_core.specs.declared.element.Element.{Element}
use Rattle.ebml_core.specs.Spelling.{IsSize, Piece, IsPiece, spelling, element_of, elements_from}
use Rattle.ebml_core.specs.Listing.{Listing, whole}
use Rattle.ebml_core.proofs.Headers.{size_at-again}
use Rattle.mkv_elements.specs.declared.TheConstants.{SEGMENT, CLUSTER, TIMESTAMP, SIMPLE_BLOCK}
use Rattle.mkv_elements.specs.declared.table.Kind.TheVariants as kinds
use Rattle.mkv_elements.specs.Table.{kind_in}
use Rattle.mkv_read.specs.declared.block.Head.{Head}
use Rattle.mkv_read.specs.declared.block.Block.{Block}
use Rattle.mkv_read.specs.Elements.{content_of}
use Rattle.mkv_read.specs.Elements.{elements_in, first, number_of}
use Rattle.mkv_read.specs.Faults.{head_at, of_size}
use Rattle.mkv_read.specs.Blocks.{time_in}
use Rattle.mkv_write.proofs.Standing.{Stands, Stands-front, Stands-back, Stands-content, content_place, content_of-spelled, elements_in-spelled}
use Rattle.mkv_write.proofs.Gathering.{Reads, ReadsOne, Reads-ends, Reads-gives, Reads-append, ReadsOne-master, ReadsOne-block, headed}
use Rattle.mkv_write.proofs.Finding.{finds, number_of-spelled, IsLeaf, ReadsOne-leaf, elements_from-append, flat_map-append, AllPieces-append}
use Rattle.mkv_write.specs.File.{frame_time, size, element, number, simple_block, blocks, cluster_of, cluster, clusters}
use Rattle.mkv_write.proofs.Octets.{length-bytes_high_first}
use Rattle.mkv_write.proofs.Lengths.{length-element, length-simple_block}
use Rattle.mkv_write.proofs.Spelled.{IsMarked, IsSize-size, unsigned_of-high_first, written, written_number, spelling-written, IsPiece-written}
use Rattle.mkv_write.proofs.Times.{frame_time-le, frame_time-lt}

-- ---- one block

abbrev block_content : (time : ℕ) (packet : List ℕ) → List ℕ
block_content time packet = 129 ∷ (bytes_high_first 2 time ++ (128 ∷ packet))

abbrev block_piece : (time : ℕ) (packet : List ℕ) → Piece
block_piece time packet = written 1 SIMPLE_BLOCK 8 (block_content time packet)

track_size : IsSize (129 ∷ []) (Known 1)
unfolding size
track_size = IsSize-size 1 1 (omega arith) (omega arith) (omega arith)

abbrev head_with : (time from len : ℕ) → Head
head_with time from len = record { track = 1; time = time; flags = 128; packet = record { from = from; len = len } }

abbrev some_head : Head → Option Head
some_head head = Some head

-- a time of two octets, which isn't negative
time_back : (time : ℕ) → time < 32768 → (256 * (time / 256 ^ 1 % 256) + time % 256 + 32768) % 65536 ≡ time + 32768
time_back time small = omega arith

head_at-written : (place time : ℕ) (packet : List ℕ) → time < 32768 → head_at place (block_content time packet) ≡ some_head (head_with (time + 32768) (place + 4) (length packet))
unfolding head_at
head_at-written place time packet small =
    ap (of_size place (block_content time packet)) (size_at-again (129 ∷ []) (bytes_high_first 2 time ++ (128 ∷ packet)) (Known 1) track_size)
    ∙ ap (λ (t : ℕ). some_head (head_with t (place + 1 + 3) (length packet))) (time_back time small)
    ∙ ap (λ (from : ℕ). some_head (head_with (time + 32768) from (length packet))) (omega arith)

kind-simple_block : kind_in CLUSTER SIMPLE_BLOCK ≡ Some kinds.Block
unfolding kind_in
kind-simple_block = refl

-- ---- the blocks of a Cluster

-- A packet of a frame, as it is read.
pub record IsFrame (bytes : List ℕ) (rate frame : ℕ) (packet : List ℕ) (block : Block) : Type 0 where
  pub unlaced : block.laced ≡ false
  pub time : block.time ≡ frame_time rate frame + 32768
  pub stands : Stands bytes block.packet.from packet
  pub len : block.packet.len ≡ length packet

-- Packets of frames from one on, as they are read.
abbrev pub AreFrames : List ℕ → ℕ → ℕ → List (List ℕ) → List Block → Type 0
AreFrames bytes rate frame [] bs = bs ≡ []
AreFrames bytes rate frame (packet ∷ packets) [] = ⊥
AreFrames bytes rate frame (packet ∷ packets) (b ∷ bs) = IsFrame bytes rate frame packet b × AreFrames bytes rate (frame + 1) packets bs

pub record Frames (levels : ℕ) (bytes : List ℕ) (parent time : ℕ) (es : Listing) (rate frame : ℕ) (packets : List (List ℕ)) : Type 0 where
  pub found : List Block
  pub reads : Reads levels bytes parent time es found
  pub are : AreFrames bytes rate frame packets found

abbrev pub AreShort : List (List ℕ) → Type 0
AreShort packets = AllByRecursion (λ packet. length packet ≤ 2 ^ 40) packets

abbrev block_pieces : (rate time frame : ℕ) (packets : List (List ℕ)) → List Piece
block_pieces rate time frame [] = []
block_pieces rate time frame (packet ∷ packets) = block_piece (frame_time rate frame - time) packet ∷ block_pieces rate time (frame + 1) packets

spelling-blocks : (rate time frame : ℕ) (packets : List (List ℕ)) → flat_map spelling (block_pieces rate time frame packets) ≡ blocks rate time frame packets
unfolding blocks simple_block
spelling-blocks rate time frame [] = refl
spelling-blocks rate time frame (packet ∷ packets) =
    ap (λ (x : List ℕ). x ++ flat_map spelling (block_pieces rate time (frame + 1) packets)) (spelling-written 1 SIMPLE_BLOCK 8 (block_content (frame_time rate frame - time) packet))
    ∙ ap (λ (x : List ℕ). element 1 SIMPLE_BLOCK 8 (block_content (frame_time rate frame - time) packet) ++ x) (spelling-blocks rate time (frame + 1) packets)

marked-block : IsMarked 1 SIMPLE_BLOCK
marked-block = record { some = omega arith; low = omega arith; high = omega arith }

ArePieces-blocks : (rate time frame : ℕ) (packets : List (List ℕ)) → AreShort packets → AllByRecursion IsPiece (block_pieces rate time frame packets)
ArePieces-blocks rate time frame [] short = tt
ArePieces-blocks rate time frame (packet ∷ packets) short = (
  IsPiece-written 1 SIMPLE_BLOCK 8 (block_content (frame_time rate frame - time) packet) (omega arith) marked-block (omega arith) (omega arith) (omega (arith, short.0)),
  ArePieces-blocks rate time (frame + 1) packets short.1,
)

length-blocks : (rate time frame : ℕ) (packets : List (List ℕ)) → AreShort packets → length (blocks rate time frame packets) ≤ length packets * 2 ^ 41
unfolding blocks
length-blocks rate time frame [] short = omega arith
length-blocks rate time frame (packet ∷ packets) short =
    let rest = length-blocks rate time (frame + 1) packets short.1 in
    let len = length-append (simple_block (frame_time rate frame - time) packet) (blocks rate time (frame + 1) packets) in
    omega (arith, rest, len, short.0, length-simple_block (frame_time rate frame - time) packet)

frames-blocks : (levels : ℕ) (bytes : List ℕ) (start rate early frame : ℕ) (packets : List (List ℕ)) → 1 ≤ rate → early ≤ frame → frame + length packets ≤ early + 25
    → Stands bytes start (flat_map spelling (block_pieces rate (frame_time rate early) frame packets))
    → Frames (suc levels) bytes CLUSTER (frame_time rate early) (whole (elements_from start (block_pieces rate (frame_time rate early) frame packets))) rate frame packets
frames-blocks levels bytes start rate early frame [] above later near h = record { found = []; reads = Reads-ends levels bytes CLUSTER (frame_time rate early); are = refl }
frames-blocks levels bytes start rate early frame (packet ∷ packets) above later near h =
    let time = frame_time rate early in
    let after = frame_time rate frame - time in
    let p = block_piece after packet in
    let others = block_pieces rate time (frame + 1) packets in
    let here = Stands-front bytes start (spelling p) (flat_map spelling others) h in
    let place = content_place start p in
    let small : after < 32768 = omega (arith, frame_time-lt rate early frame above (omega arith)) in
    let read : head_at place (content_of bytes (element_of start p)) ≡ some_head (head_with (after + 32768) (place + 4) (length packet)) = ap (head_at place) (content_of-spelled bytes start p here) ∙ head_at-written place after packet small in
    let one = ReadsOne-block levels bytes CLUSTER time (element_of start p) (head_with (after + 32768) (place + 4) (length packet)) refl kind-simple_block read refl in
    let rest = frames-blocks levels bytes (start + length (spelling p)) rate early (frame + 1) packets above (omega arith) (omega arith) (Stands-back bytes start (spelling p) (flat_map spelling others) h) in
    record {
      found = headed start time (head_with (after + 32768) (place + 4) (length packet)) ∷ rest.found;
      reads = Reads-gives levels bytes CLUSTER time (element_of start p) (whole (elements_from (start + length (spelling p)) others)) _ rest.found one rest.reads;
      are = (
        record {
          unlaced = refl;
          time = omega (arith, frame_time-le rate early frame above later);
          stands = Stands-back bytes place (129 ∷ byte_at 1 after ∷ byte_at 0 after ∷ 128 ∷ []) packet (Stands-content bytes start p here);
          len = refl;
        },
        rest.are,
      );
    }

-- ---- a Cluster

kind-cluster : kind_in SEGMENT CLUSTER ≡ Some kinds.Master
unfolding kind_in
kind-cluster = refl

leaf-timestamp : (time : ℕ) → IsLeaf CLUSTER (written_number 1 TIMESTAMP 8 time)
unfolding kind_in
leaf-timestamp time = omega (arith, length-bytes_high_first 8 time)

abbrev cluster_content : (rate early : ℕ) (packets : List (List ℕ)) → List ℕ
cluster_content rate early packets = number 1 TIMESTAMP 8 (frame_time rate early) ++ blocks rate (frame_time rate early) early packets

abbrev cluster_children : (rate early : ℕ) (packets : List (List ℕ)) → List Piece
cluster_children rate early packets = written_number 1 TIMESTAMP 8 (frame_time rate early) ∷ block_pieces rate (frame_time rate early) early packets

abbrev pub cluster_piece : (rate early : ℕ) (packets : List (List ℕ)) → Piece
cluster_piece rate early packets = written 4 CLUSTER 8 (cluster_content rate early packets)

spelling-cluster : (rate early : ℕ) (packets : List (List ℕ)) → spelling (cluster_piece rate early packets) ≡ cluster_of (frame_time rate early) (blocks rate (frame_time rate early) early packets)
unfolding cluster_of
spelling-cluster rate early packets = spelling-written 4 CLUSTER 8 (cluster_content rate early packets)

content-cluster : (rate early : ℕ) (packets : List (List ℕ)) → cluster_content rate early packets ≡ flat_map spelling (cluster_children rate early packets)
unfolding number
content-cluster rate early packets =
    let time = frame_time rate early in
    let all = blocks rate time early packets in
    ap (λ (x : List ℕ). x ++ all) (sym (spelling-written 1 TIMESTAMP 1 (bytes_high_first 8 time))) ∙ ap (λ (x : List ℕ). spelling (written_number 1 TIMESTAMP 8 time) ++ x) (sym (spelling-blocks rate time early packets))

length-cluster : (rate early : ℕ) (packets : List (List ℕ)) → AreShort packets → length (cluster_content rate early packets) ≤ 10 + length packets * 2 ^ 41
unfolding number
length-cluster rate early packets short =
    let time = frame_time rate early in
    let all = blocks rate time early packets in
    omega (arith, length-append (element 1 TIMESTAMP 1 (bytes_high_first 8 time)) all, length-element 1 TIMESTAMP 1 (bytes_high_first 8 time), length-bytes_high_first 8 time, length-blocks rate time early packets short)

pub IsPiece-cluster : (rate early : ℕ) (packets : List (List ℕ)) → length packets ≤ 25 → AreShort packets → IsPiece (cluster_piece rate early packets)
IsPiece-cluster rate early packets few short =
    IsPiece-written 4 CLUSTER 8 (cluster_content rate early packets) (omega arith) (record { some = omega arith; low = omega arith; high = omega arith }) (omega arith) (omega arith) (omega (arith, length-cluster rate early packets short))

ArePieces-cluster : (rate early : ℕ) (packets : List (List ℕ)) → AreShort packets → AllByRecursion IsPiece (cluster_children rate early packets)
ArePieces-cluster rate early packets short = (
  IsPiece-written 1 TIMESTAMP 1 (bytes_high_first 8 (frame_time rate early)) (omega arith) (record { some = omega arith; low = omega arith; high = omega arith }) (omega arith) (omega arith) (omega (arith, length-bytes_high_first 8 (frame_time rate early))),
  ArePieces-blocks rate (frame_time rate early) early packets short,
)

-- a Cluster's time
time_in-cluster : (bytes : List ℕ) (start rate early : ℕ) (packets : List (List ℕ)) → AreShort packets → frame_time rate early < 256 ^ 8 → Stands bytes start (spelling (cluster_piece rate early packets)) → time_in bytes 0 (element_of start (cluster_piece rate early packets)) ≡ frame_time rate early
time_in-cluster bytes start rate early packets short fits h =
    let p = cluster_piece rate early packets in
    let children = cluster_children rate early packets in
    let stamp = written_number 1 TIMESTAMP 8 (frame_time rate early) in
    let place = content_place start p in
    let inside = elements_in-spelled bytes start p children (ArePieces-cluster rate early packets short) (content-cluster rate early packets) h in
    let there = subst (λ (text : List ℕ). Stands bytes place text) (content-cluster rate early packets) (Stands-content bytes start p h) in
    let f = finds bytes place children TIMESTAMP stamp there refl in
    ap (λ (w : Listing). number_of bytes (first TIMESTAMP w)) inside
    ∙ ap (number_of bytes) f.found
    ∙ number_of-spelled bytes f.place stamp f.stands (omega (arith, length-bytes_high_first 8 (frame_time rate early)))
    ∙ unsigned_of-high_first 8 (frame_time rate early) fits

-- What is read of a Cluster.
pub record FramesOne (levels : ℕ) (bytes : List ℕ) (parent time : ℕ) (e : Element) (rate frame : ℕ) (packets : List (List ℕ)) : Type 0 where
  pub found : List Block
  pub reads : ReadsOne levels bytes parent time e found
  pub are : AreFrames bytes rate frame packets found

frames-cluster : (levels : ℕ) (bytes : List ℕ) (start rate early : ℕ) (packets : List (List ℕ)) → 1 ≤ rate → length packets ≤ 25 → AreShort packets → frame_time rate early < 256 ^ 8 → Stands bytes start (spelling (cluster_piece rate early packets)) → FramesOne (suc levels) bytes SEGMENT 0 (element_of start (cluster_piece rate early packets)) rate early packets
frames-cluster levels bytes start rate early packets above few short fits h =
    let p = cluster_piece rate early packets in
    let e = element_of start p in
    let time = frame_time rate early in
    let stamp = written_number 1 TIMESTAMP 8 time in
    let place = content_place start p in
    let inside = elements_in-spelled bytes start p (cluster_children rate early packets) (ArePieces-cluster rate early packets short) (content-cluster rate early packets) h in
    let there = subst (λ (text : List ℕ). Stands bytes place text) (content-cluster rate early packets) (Stands-content bytes start p h) in
    let later = place + length (spelling stamp) in
    let frames = frames-blocks levels bytes later rate early early packets above (omega arith) (omega arith) (Stands-back bytes place (spelling stamp) (flat_map spelling (block_pieces rate time early packets)) there) in
    let all = Reads-gives levels bytes CLUSTER time (element_of place stamp) (whole (elements_from later (block_pieces rate time early packets))) [] frames.found (ReadsOne-leaf levels bytes CLUSTER time place stamp (leaf-timestamp time)) frames.reads in
    let timed : Reads (suc levels) bytes CLUSTER (time_in bytes 0 e) (whole (elements_from place (cluster_children rate early packets))) frames.found = subst (λ (t : ℕ). Reads (suc levels) bytes CLUSTER t (whole (elements_from place (cluster_children rate early packets))) frames.found) (sym (time_in-cluster bytes start rate early packets short fits h)) all in
    let in_place : Reads (suc levels) bytes CLUSTER (time_in bytes 0 e) (elements_in bytes e) frames.found = subst (λ (w : Listing). Reads (suc levels) bytes CLUSTER (time_in bytes 0 e) w frames.found) (sym inside) timed in
    record {
      found = frames.found;
      reads = ReadsOne-master (suc levels) bytes SEGMENT 0 e frames.found refl kind-cluster in_place;
      are = frames.are;
    }

-- ---- the Clusters

AreShort-take : (n : ℕ) (packets : List (List ℕ)) → AreShort packets → AreShort (take n packets)
AreShort-take zero packets short = tt
AreShort-take (suc n) [] short = tt
AreShort-take (suc n) (packet ∷ packets) short = (short.0, AreShort-take n packets short.1)

AreShort-drop : (n : ℕ) (packets : List (List ℕ)) → AreShort packets → AreShort (drop n packets)
AreShort-drop zero packets short = short
AreShort-drop (suc n) [] short = tt
AreShort-drop (suc n) (packet ∷ packets) short = AreShort-drop n packets short.1

AreFrames-append : (bytes : List ℕ) (rate frame : ℕ) (ps qs : List (List ℕ)) (bs cs : List Block) → AreFrames bytes rate frame ps bs → AreFrames bytes rate (frame + length ps) qs cs → AreFrames bytes rate frame (ps ++ qs) (bs ++ cs)
AreFrames-append bytes rate frame [] qs bs cs first second =
    let same : cs ≡ bs ++ cs = ap (λ (x : List Block). x ++ cs) (sym first) in
    subst (AreFrames bytes rate frame qs) same (subst (λ (n : ℕ). AreFrames bytes rate n qs cs) (omega arith) second)
AreFrames-append bytes rate frame (p ∷ ps) qs [] cs first second = absurd first
AreFrames-append bytes rate frame (p ∷ ps) qs (b ∷ bs) cs first second =
    (first.0, AreFrames-append bytes rate (frame + 1) ps qs bs cs first.1 (subst (λ (n : ℕ). AreFrames bytes rate n qs cs) (omega arith) second))

take-add : (m n : ℕ) (xs : List (List ℕ)) → take (m + n) xs ≡ take m xs ++ take n (drop m xs)
take-add m n xs =
    sym (take-append-drop m (take (m + n) xs)) ∙ ap (λ (x : List (List ℕ)). x ++ drop m (take (m + n) xs)) (take-take m (m + n) xs (omega arith)) ∙ ap (λ (x : List (List ℕ)). take m xs ++ x) (drop-take m n xs)

-- the packets of a Cluster
abbrev pub packets_of : List (List ℕ) → ℕ → List (List ℕ)
packets_of packets index = take 25 (drop (25 * index) packets)

abbrev pub cluster_pieces : (rate : ℕ) (packets : List (List ℕ)) (count : ℕ) → List Piece
cluster_pieces rate packets zero = []
cluster_pieces rate packets (suc index) = cluster_pieces rate packets index ++ cluster_piece rate (25 * index) (packets_of packets index) ∷ []

few_packets : (packets : List (List ℕ)) (index : ℕ) → length (packets_of packets index) ≤ 25
few_packets packets index = omega (arith, length-take 25 (drop (25 * index) packets))

pub spelling-clusters : (rate : ℕ) (packets : List (List ℕ)) (count : ℕ) → flat_map spelling (cluster_pieces rate packets count) ≡ clusters rate packets count
unfolding clusters cluster
spelling-clusters rate packets zero = refl
spelling-clusters rate packets (suc index) =
    let p = cluster_piece rate (25 * index) (packets_of packets index) in
    flat_map-append (cluster_pieces rate packets index) (p ∷ [])
    ∙ ap (λ (x : List ℕ). x ++ (spelling p ++ [])) (spelling-clusters rate packets index)
    ∙ ap (λ (x : List ℕ). clusters rate packets index ++ x) (append-nil (spelling p) ∙ spelling-cluster rate (25 * index) (packets_of packets index))

pub ArePieces-clusters : (rate : ℕ) (packets : List (List ℕ)) (count : ℕ) → AreShort packets → AllByRecursion IsPiece (cluster_pieces rate packets count)
ArePieces-clusters rate packets zero short = tt
ArePieces-clusters rate packets (suc index) short =
    let these = AreShort-take 25 (drop (25 * index) packets) (AreShort-drop (25 * index) packets short) in
    AllPieces-append IsPiece (cluster_pieces rate packets index) (cluster_piece rate (25 * index) (packets_of packets index) ∷ []) (ArePieces-clusters rate packets index short) (IsPiece-cluster rate (25 * index) (packets_of packets index) (few_packets packets index) these, tt)

-- a time fits into 8 octets
time_fits : (rate frame : ℕ) → 1 ≤ rate → rate ≤ 240 → frame ≤ 1000000 → frame_time rate frame < 256 ^ 8
unfolding frame_time
time_fits rate frame above most limit =
    let whole : (1000 * frame + rate / 2) / rate * 1 ≤ (1000 * frame + rate / 2) / rate * rate = mul-le-mul_left ((1000 * frame + rate / 2) / rate) above in
    omega (arith, whole, div-mul-le_self (1000 * frame + rate / 2) rate)

pub frames-clusters : (levels : ℕ) (bytes : List ℕ) (start rate : ℕ) (packets : List (List ℕ)) (count : ℕ) → 1 ≤ rate → rate ≤ 240 → length packets ≤ 1000000 → 25 * count ≤ length packets + 24 → AreShort packets
    → Stands bytes start (flat_map spelling (cluster_pieces rate packets count))
    → Frames (suc (suc levels)) bytes SEGMENT 0 (whole (elements_from start (cluster_pieces rate packets count))) rate 0 (take (25 * count) packets)
frames-clusters levels bytes start rate packets zero above most limit counts short h = record { found = []; reads = Reads-ends (suc levels) bytes SEGMENT 0; are = refl }
frames-clusters levels bytes start rate packets (suc index) above most limit counts short h =
    let ps = cluster_pieces rate packets index in
    let these = packets_of packets index in
    let p = cluster_piece rate (25 * index) these in
    let later = start + length (flat_map spelling ps) in
    let split = subst (λ (text : List ℕ). Stands bytes start text) (flat_map-append ps (p ∷ [])) h in
    let here = Stands-front bytes later (spelling p) [] (Stands-back bytes start (flat_map spelling ps) (spelling p ++ []) split) in
    let front = frames-clusters levels bytes start rate packets index above most limit (omega arith) short (Stands-front bytes start (flat_map spelling ps) (spelling p ++ []) split) in
    let one = frames-cluster levels bytes later rate (25 * index) these above (few_packets packets index) (AreShort-take 25 (drop (25 * index) packets) (AreShort-drop (25 * index) packets short)) (time_fits rate (25 * index) above most (omega arith)) here in
    let last : Reads (suc (suc levels)) bytes SEGMENT 0 (whole (elements_from later (p ∷ []))) (one.found ++ []) = Reads-gives (suc levels) bytes SEGMENT 0 (element_of later p) (whole []) one.found [] one.reads (Reads-ends (suc levels) bytes SEGMENT 0) in
    let both = Reads-append (suc levels) bytes SEGMENT 0 (elements_from start ps) (elements_from later (p ∷ [])) front.found (one.found ++ []) front.reads last in
    let plain : front.found ++ (one.found ++ []) ≡ front.found ++ one.found = ap (λ (x : List Block). front.found ++ x) (append-nil one.found) in
    let parted : take (25 * suc index) packets ≡ take (25 * index) packets ++ these = ap (λ (n : ℕ). take n packets) (omega arith) ∙ take-add (25 * index) 25 packets in
    let before : 25 * index ≡ 0 + length (take (25 * index) packets) = omega (arith, length-take (25 * index) packets) in
    let frames = AreFrames-append bytes rate 0 (take (25 * index) packets) these front.found one.found front.are (subst (λ (n : ℕ). AreFrames bytes rate n these one.found) before one.are) in
    record {
      found = front.found ++ one.found;
      reads = subst (λ (bs : List Block). Reads (suc (suc levels)) bytes SEGMENT 0 (whole (elements_from start (ps ++ p ∷ []))) bs) plain (subst (λ (es : List Element). Reads (suc (suc levels)) bytes SEGMENT 0 (whole es) (front.found ++ (one.found ++ []))) (sym (elements_from-append start ps (p ∷ []))) both);
      are = subst (λ (xs : List (List ℕ)). AreFrames bytes rate 0 xs (front.found ++ one.found)) (sym parted) frames;
    }
