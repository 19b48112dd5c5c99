-- Reading a file once over gives its clip.
use Rattle.std.proofs.Common.{◌≡◌, ℕ, suc, ◌+◌, ◌<◌, ◌≤◌, Bool, true, false, cond, ltb, List, [], ◌∷◌, ◌++◌, length, map, Option, Some, None, Result, Ok, Err, refl, sym, ap, subst, ◌∙◌, append_assoc, arith}
use Rattle.std.proofs.lemmas.Bool.{ltb-false}
use Rattle.std.proofs.lemmas.Bool.Decides.{nat_tests}
use Rattle.std.proofs.lemmas.List.{length-append, append-nil}
use Rattle.ebml_core.specs.Reading.{◌>>=◌}
use Rattle.mkv_elements.specs.declared.TheConstants.{EBML}
use Rattle.mkv_elements.specs.declared.table.TheConstants.{FILE}
use Rattle.mkv_read.specs.declared.clip.Place.{Place}
use Rattle.mkv_read.specs.declared.clip.ClipIndex.{ClipIndex}
use Rattle.mkv_read.specs.declared.block.Block.{Block}
use Rattle.mkv_read.specs.declared.fault.ClipFault.{ClipFault}
use Rattle.mkv_read.specs.declared.fault.ClipFault.TheVariants as faults
use Rattle.mkv_read.specs.declared.fault.Which.TheVariants as limits
use Rattle.mkv_read.specs.declared.track.Track.{Track}
use Rattle.mkv_read.specs.Elements.{elements}
use Rattle.mkv_read.specs.Faults.{fault_in}
use Rattle.mkv_read.specs.Blocks.{blocks_in, block_fault, else_fault, fault_after}
use Rattle.mkv_read.specs.Tracks.{track_of}
use Rattle.mkv_read.specs.Taking.{Gives, Taken, nothing_taken, counted, kept, taken_after, take, take_all, outcome, finished_as, finished, number_in, read}
use Rattle.mkv_read.specs.Clip.{segment_of, file_of, begins_with, fault_of, is_matroska, packed, clip_with, unless_faulty, require, clip_of}
use Rattle.mkv_read.specs.Limits.{max_frames, depth}

abbrev packet_of : Block → Place
packet_of block = block.packet

-- ---- how many

take-count : (b : Block) (t : Taken) → (take b t).count ≡ counted t.count
unfolding take
take-count b t = by_faults t.fault (block_fault t.last b)
  where
    by_faults : (before now : Option ClipFault) → (taken_after b t before now).count ≡ counted t.count
    by_faults (Some f) now = refl
    by_faults None (Some f) = refl
    by_faults None None = refl

one_more : (n m : ℕ) → ltb max_frames (counted n + m) ≡ ltb max_frames (n + suc m)
one_more n m = grind (arith, nat_tests)

too_many : (bs : List Block) (t : Taken) → ltb max_frames (take_all bs t).count ≡ ltb max_frames (t.count + length bs)
unfolding take_all
too_many [] t = ap (ltb max_frames) (omega arith)
too_many (b ∷ bs) t = too_many bs (take b t) ∙ ap (λ (n : ℕ). ltb max_frames (n + length bs)) (take-count b t) ∙ one_more t.count (length bs)

-- ---- the first fault

take-faulty : (b : Block) (t : Taken) (f : ClipFault) → t.fault ≡ Some f → (take b t).fault ≡ Some f
unfolding take
take-faulty b t f is = ap (λ (o : Option ClipFault). (taken_after b t o (block_fault t.last b)).fault) is ∙ is

stays_faulty : (bs : List Block) (t : Taken) (f : ClipFault) → t.fault ≡ Some f → (take_all bs t).fault ≡ Some f
unfolding take_all
stays_faulty [] t f is = is
stays_faulty (b ∷ bs) t f is = stays_faulty bs (take b t) f (take-faulty b t f is)

take-breaks : (b : Block) (t : Taken) (f : ClipFault) → t.fault ≡ None → block_fault t.last b ≡ Some f → (take b t).fault ≡ Some f
unfolding take
take-breaks b t f sound is = rw (sound, is) refl

take-on : (b : Block) (t : Taken) → t.fault ≡ None → block_fault t.last b ≡ None → take b t ≡ record { count = counted t.count; packets = kept t.packets b.packet; last = b.time; fault = None }
unfolding take
take-on b t sound is = rw (sound, is) refl

fault_of_taken : (bs : List Block) (t : Taken) → t.fault ≡ None → (take_all bs t).fault ≡ fault_after t.last bs
unfolding take_all fault_after
fault_of_taken [] t sound = sound
fault_of_taken (b ∷ bs) t sound = by_fault (block_fault t.last b) refl (λ u sound. fault_of_taken bs u sound)
  where
    by_fault : (now : Option ClipFault) → block_fault t.last b ≡ now → ((u : Taken) → u.fault ≡ None → (take_all bs u).fault ≡ fault_after u.last bs) → (take_all bs (take b t)).fault ≡ else_fault now (fault_after b.time bs)
    by_fault (Some f) is later = stays_faulty bs (take b t) f (take-breaks b t f sound is)
    by_fault None is later =
        let on = take-on b t sound is in
        later (take b t) (ap (λ (u : Taken). u.fault) on) ∙ ap (λ (u : Taken). fault_after u.last bs) on

-- ---- the packets

no_fault_parts : (now later : Option ClipFault) → else_fault now later ≡ None → (now ≡ None) × (later ≡ None)
no_fault_parts (Some f) later h = absurd cc
no_fault_parts None later h = (refl, h)

kept_room : (packets : List Place) (packet : Place) → length packets < max_frames → kept packets packet ≡ packets ++ packet ∷ []
kept_room packets packet room = grind (arith, nat_tests, room)

packets_of_taken : (bs : List Block) (t : Taken) → t.fault ≡ None → fault_after t.last bs ≡ None → length t.packets + length bs ≤ max_frames → (take_all bs t).packets ≡ t.packets ++ map packet_of bs
unfolding take_all fault_after
packets_of_taken [] t sound none few = sym (append-nil t.packets)
packets_of_taken (b ∷ bs) t sound none few =
    let parts = no_fault_parts (block_fault t.last b) (fault_after b.time bs) none in
    let on = take-on b t sound parts.0 in
    let packets : (take b t).packets ≡ t.packets ++ b.packet ∷ [] = ap (λ (u : Taken). u.packets) on ∙ kept_room t.packets b.packet (omega (arith, few)) in
    let later : fault_after (take b t).last bs ≡ None = ap (λ (u : Taken). fault_after u.last bs) on ∙ parts.1 in
    packets_of_taken bs (take b t) (ap (λ (u : Taken). u.fault) on) later (omega (arith, few, ap length packets, length-append t.packets (b.packet ∷ []))) ∙ ap (λ (ps : List Place). ps ++ map packet_of bs) packets ∙ append_assoc t.packets (b.packet ∷ []) (map packet_of bs)

-- ---- what they give in the end

as_packed : (track : Track) (t : Taken) (bs : List Block) → finished_as track t None (map packet_of bs) ≡ packed track bs None
as_packed track t [] = refl
as_packed track t (b ∷ bs) = refl

finished-taken : (track : Track) (bs : List Block) → finished track (take_all bs nothing_taken) ≡ clip_with track bs
unfolding clip_with
finished-taken track bs = by_many (ltb max_frames (length bs)) refl
  where
    by_fault : (now : Option ClipFault) → fault_after 0 bs ≡ now → ltb max_frames (length bs) ≡ false → finished_as track (take_all bs nothing_taken) (take_all bs nothing_taken).fault (take_all bs nothing_taken).packets ≡ packed track bs now
    by_fault (Some f) is few = rw (fault_of_taken bs nothing_taken refl ∙ is) refl
    by_fault None is few =
        rw (fault_of_taken bs nothing_taken refl ∙ is, packets_of_taken bs nothing_taken refl is (omega (arith, ltb-false max_frames (length bs) few))) (as_packed track (take_all bs nothing_taken) bs)

    by_many : (many : Bool) → ltb max_frames (length bs) ≡ many → finished track (take_all bs nothing_taken) ≡ cond (ltb max_frames (length bs)) (Err (faults.Limit limits.Frames)) (packed track bs (fault_after 0 bs))
    by_many true is = rw (too_many bs nothing_taken ∙ ap (ltb max_frames) (omega arith) ∙ is, is) refl
    by_many false is = rw (too_many bs nothing_taken ∙ ap (ltb max_frames) (omega arith) ∙ is, is) (by_fault (fault_after 0 bs) refl is)

same_reading : (header matroska : Bool) (fault : Option ℕ) (track : Result Track ClipFault) (blocks : Option ℕ → List Block)
    → cond header (outcome fault (blocks (number_in track)) nothing_taken >>= λ taken. require matroska faults.DocType >>= λ m. track >>= λ t. finished t taken) (Err (faults.Ebml 0))
    ≡ (unless_faulty (cond header fault (Some 0)) >>= λ sound. require matroska faults.DocType >>= λ m. track >>= λ t. clip_with t (blocks (Some t.number)))
same_reading false matroska fault track blocks = refl
same_reading true matroska (Some at) track blocks = refl
same_reading true false None track blocks = refl
same_reading true true None (Err f) blocks = refl
same_reading true true None (Ok t) blocks = finished-taken t (blocks (Some t.number))

pub read-clip : (bytes : List ℕ) → read bytes ≡ clip_of bytes
unfolding read clip_of fault_of
read-clip bytes =
    same_reading (begins_with EBML (elements bytes 0 (length bytes))) (is_matroska bytes) (fault_in depth bytes FILE (file_of bytes)) (track_of bytes (segment_of bytes)) (λ number. blocks_in depth bytes number FILE 0 (file_of bytes))

pub read_gives : (bytes : List ℕ) (r : Result ClipIndex ClipFault) → Gives (λ clip. clip) r (read bytes) → Gives (λ clip. clip) r (clip_of bytes)
read_gives bytes r gives = subst (λ (x : Result ClipIndex ClipFault). Gives (λ (clip : ClipIndex). clip) r x) (read-clip bytes) gives
