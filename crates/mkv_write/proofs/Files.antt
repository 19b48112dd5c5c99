-- What was put against the whole file.
use Rattle.std.proofs.Common.{◌≡◌, ℕ, ◌/◌, ◌≤◌, List, [], ◌∷◌, ◌++◌, length, refl, sym, subst, arith, length-append}
use Rattle.std.proofs.lemmas.Bool.{false≢true}
use Rattle.std.specs.Prelude.{Bool, IsTrue, Result, Ok, Err, IsErr}
use Rattle.mkv_write.specs.declared.fault.WriteFault.{WriteFault}
use Rattle.mkv_elements.specs.declared.TheConstants.{CUES}
use Rattle.mkv_write.specs.File.{mkv, ebml_header, segment_head, element, head, lead, clusters, cluster_count, cue_points, cues}
use Rattle.std.proofs.lemmas.List.{append-nil}
use Rattle.mkv_write.specs.Writing.{Writing, nothing_yet, with_packet, put_of, file_of, IsPrefix, Puts}
use Rattle.mkv_write.proofs.Clusters.{clusters-append, clusters-le}
use Rattle.mkv_write.proofs.Prefix.{prefix_append, prefix_trans, prefix_under}

-- fewer Clusters than the file has
pub some_clusters : (w : Writing) (count : ℕ) → count ≤ cluster_count (length w.packets) → IsPrefix (head w.private w.width w.height ++ clusters w.rate w.packets count) (file_of w)
unfolding mkv
some_clusters w count few =
    let total = cluster_count (length w.packets) in
    let front : List ℕ = head w.private w.width w.height in
    prefix_append (front ++ clusters w.rate w.packets count) (front ++ clusters w.rate w.packets total) (cues (length (lead w.private w.width w.height)) w.rate w.packets total)
    (prefix_under front (clusters w.rate w.packets count) (clusters w.rate w.packets total) (clusters-le w.rate w.packets count total few))

-- more packets only add to what was put
put_of-more : (w : Writing) (more : List (List ℕ)) → IsPrefix (put_of w) (put_of (record w { packets = w.packets ++ more }))
put_of-more w more =
    let all : List (List ℕ) = w.packets ++ more in
    let count : ℕ = length w.packets / 25 in
    let same : clusters w.rate all count ≡ clusters w.rate w.packets count = clusters-append w.rate w.packets more count (omega arith) in
    let few : count ≤ length all / 25 = omega (arith, length-append w.packets more) in
    let front : List ℕ = head w.private w.width w.height in
    subst (λ (x : List ℕ). IsPrefix (front ++ x) (put_of (record w { packets = all }))) same
    (prefix_under front (clusters w.rate all count) (clusters w.rate all (length all / 25)) (clusters-le w.rate all count (length all / 25) few))

pub put_of-prefix : (w : Writing) (more : List (List ℕ)) → IsPrefix (put_of w) (file_of (record w { packets = w.packets ++ more }))
put_of-prefix w more =
    let then_all : Writing = record w { packets = w.packets ++ more } in
    prefix_trans (put_of w) (put_of then_all) (file_of then_all) (put_of-more w more) (some_clusters then_all (length then_all.packets / 25) (omega arith))

-- after a fault
pub puts_err : {T : Type 0} (tells : Bool) (held whole : List ℕ) (result : Result T WriteFault) → IsErr result → (IsTrue tells → IsPrefix held whole) → Puts tells held whole result
puts_err tells held whole (Ok value) fails is = absurd (false≢true fails)
puts_err tells held whole (Err fault) fails is = is

-- a fault before anything was put
pub unput : (held : List ℕ) (w : Writing) (packet : List ℕ) → held ≡ put_of w → IsPrefix held (put_of (with_packet w packet))
unput held w packet e =
    subst (λ (x : List ℕ). IsPrefix x (put_of (with_packet w packet))) (sym e) (put_of-more w (packet ∷ []))

pub file_of-is : (w : Writing) → file_of w ≡ (head w.private w.width w.height ++ clusters w.rate w.packets (cluster_count (length w.packets))) ++ element 4 CUES 8 (cue_points (length (lead w.private w.width w.height)) w.rate w.packets (cluster_count (length w.packets)))
unfolding mkv cues
file_of-is w = refl

-- all but the Cues
pub no_cues-prefix : (w : Writing) → IsPrefix (head w.private w.width w.height ++ clusters w.rate w.packets (cluster_count (length w.packets))) (file_of w)
no_cues-prefix w = some_clusters w (cluster_count (length w.packets)) (omega arith)

-- all that stands before the first Cluster
pub put_of-nothing : (private : List ℕ) (width height rate : ℕ) → (ebml_header ++ segment_head) ++ lead private width height ≡ put_of (nothing_yet private width height rate)
unfolding head clusters
put_of-nothing private width height rate = sym (append-nil ((ebml_header ++ segment_head) ++ lead private width height))
