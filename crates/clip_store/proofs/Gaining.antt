-- One more clip behind those of a shelf.
use Rattle.std.proofs.Common.{◌≡◌, ℕ, get_or, ◌<◌, suc, zero, ◌+◌, ◌≤◌, List, [], ◌∷◌, ◌++◌, length, Result, Ok, Err, drop, length-drop, ap, sym, subst, arith, inl, inr}
use Rattle.std.proofs.lemmas.Bool.{cases_lt, lt-ltb}
use Rattle.std.proofs.lemmas.List.{length-append, length-take-le}
use Rattle.std.proofs.lemmas.List.Elements.{All-push}
use Rattle.tl_limits.specs.Limits.{max_total_bytes}
use Rattle.clip_store.specs.declared.fault.LoadFault.{LoadFault}
use Rattle.clip_store.specs.declared.fault.LoadFault.TheVariants as faults
use Rattle.ffv1_record.specs.declared.fault.RecordFault.TheVariants as faults_of_record
use Rattle.ffv1_record.specs.Parameters.{Parameters}
use Rattle.ffv1_record.specs.Reading.{parameters}
use Rattle.clip_store.specs.Clip.{ClipOf, FileOf, IsClip, IsClipOf, piece}
use Rattle.clip_store.specs.Loading.{total, HasRoom, Puts, Loads, AreClips}

pub total_put : (clips : List ClipOf) (clip : ClipOf) → total (clips ++ clip ∷ []) ≡ total clips + length clip.bytes
total_put [] clip = omega arith
total_put (first ∷ clips) clip = omega (arith, total_put clips clip)

-- a clip's file by itself
pub file_within : (clips : List ClipOf) (n : ℕ) (other : ClipOf) → n < length clips → length (get_or clips n other).bytes ≤ total clips
file_within [] n other lt = absurd (omega arith)
file_within (clip ∷ clips) zero other lt = omega arith
file_within (clip ∷ clips) (suc n) other lt = omega (arith, file_within clips n other (omega arith))

-- A record has at least 6 bytes, and so has the file that it lies in.
record_long : (bytes : List ℕ) (p : Parameters) → parameters bytes ≡ Ok p → 6 ≤ length bytes
unfolding parameters
record_long bytes p read =
    elim (cases_lt (length bytes) 6) [
      | inl short ↦ let none : Err faults_of_record.Short ≡ Ok p = rw (lt-ltb _ _ short) at read in absurd (cc none)
      | inr long ↦ long
    ]

file_long : (clip : ClipOf) → IsClip clip → 2 ≤ length clip.bytes
file_long clip sound =
    let place = clip.index.private in
    omega (
      arith,
      record_long (piece clip.bytes place) clip.parameters sound.read,
      length-take-le place.len (drop place.from clip.bytes) (omega (arith, length-drop place.from clip.bytes, sound.index.private)),
      length-drop place.from clip.bytes,
      sound.index.private,
    )

pub are_clips_put : (clips : List ClipOf) (clip : ClipOf) → AreClips clips → IsClip clip → total clips + length clip.bytes ≤ max_total_bytes → AreClips (clips ++ clip ∷ [])
are_clips_put clips clip are sound room =
    let more : total (clips ++ clip ∷ []) ≡ total clips + length clip.bytes = total_put clips clip in
    let some : 2 ≤ length clip.bytes = file_long clip sound in
    let one_more : length (clips ++ clip ∷ []) ≡ length clips + 1 = length-append clips (clip ∷ []) in
    record { each = All-push IsClip clips clip are.each sound; bytes = omega (arith, more, room); few = omega (arith, more, some, one_more, are.few) }

pub loads_put : (clips : List ClipOf) (file : FileOf) (clip : ClipOf) (result : Result ℕ LoadFault) (after : List ClipOf) → HasRoom clips file → IsClipOf file clip → Puts clips clip result after → Loads clips file result after
loads_put clips file clip (Ok number) after room read puts = record { room = room; last = puts.0; clip = clip; read = read; put = puts.1 }
loads_put clips file clip (Err faults.NoMemory) after room read puts = (tt, puts)
loads_put clips file clip (Err faults.SameName) after room read puts = absurd puts
loads_put clips file clip (Err faults.Total) after room read puts = absurd puts
loads_put clips file clip (Err (faults.Clip fault)) after room read puts = absurd puts
loads_put clips file clip (Err (faults.Record fault)) after room read puts = absurd puts
loads_put clips file clip (Err faults.Slices) after room read puts = absurd puts

-- as the code has it: `seen` is the clip with the fields of `clip`, and `stored` is the total so far
pub keeps : (now clips after : List ClipOf) (clip seen : ClipOf) (stored len : ℕ) → clips ≡ now → clip ≡ seen → after ≡ clips ++ seen ∷ [] → AreClips clips → stored ≡ total clips → IsClip seen → total now + length seen.bytes ≤ max_total_bytes → len ≡ length clip.bytes → AreClips after × (stored + len ≡ total after)
keeps now clips after clip seen stored len view same put are summed sound room long =
    let fits : total clips + length seen.bytes ≤ max_total_bytes = omega (arith, room, ap total view) in
    let bytes : length clip.bytes ≡ length seen.bytes = ap (λ (c : ClipOf). length c.bytes) same in
    (subst AreClips (sym put) (are_clips_put clips seen are sound fits), omega (arith, ap total put, total_put clips seen, summed, long, bytes))
