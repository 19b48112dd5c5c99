-- Packets that a writer was given, one more, and all.
use Rattle.std.proofs.Common.{◌≡◌, ℕ, ◌+◌, ◌<◌, ◌≤◌, List, [], ◌∷◌, ◌++◌, length, refl, sym, ◌∙◌, ap, subst, arith, inl, inr}
use Rattle.std.specs.Prelude.{slice_index_or}
use Rattle.std.proofs.lemmas.Bool.{cases_lt}
use Rattle.std.proofs.lemmas.List.{length-append, get_or_append_left, get_or_push}
use Rattle.ffv1_record.specs.Spelling.{record_bytes}
use Rattle.ffv1_record.specs.Suits.{Suits}
use Rattle.mkv_write.specs.Writing.{Writing, nothing_yet, with_packet, file_of}
use Rattle.work_gen.specs.Picture.{clip_shape}
use Rattle.work_gen.specs.Clip.{clip_record, IsPacket, ArePackets, IsClip}
use Rattle.work_gen.specs.Given.{clip_with, IsGiven, AddsFrame}

-- the slices reach the ends of the planes
pub suits : Suits clip_record clip_shape
suits = record { chroma = refl; columns = omega arith; rows = omega arith; reaches = (refl, refl) }

-- ---- packets
pub none_given : (writer : Writing) → writer ≡ nothing_yet (record_bytes clip_record) 64 48 25 → IsGiven 0 writer
none_given writer is = record { packets = []; count = refl; each = λ frame lt. absurd (omega arith); all = is }

packets_more : (packets : List (List ℕ)) (packet : List ℕ) → ArePackets packets → IsPacket (length packets) packet → ArePackets (packets ++ packet ∷ [])
packets_more packets packet are here frame lt =
    elim (cases_lt frame (length packets)) [
      | inl before ↦ subst (IsPacket frame) (sym (get_or_append_left packets (packet ∷ []) [] frame before)) (are frame before)
      | inr after ↦
          let at : length packets ≡ frame = omega (arith, length-append packets (packet ∷ [])) in
          subst (IsPacket frame) (sym (get_or_push packets packet [] frame at)) (subst (λ (k : ℕ). IsPacket k packet) at here)
    ]

pub one_given : (frame : ℕ) (old new : Writing) → IsGiven frame old → AddsFrame frame old new → IsGiven (frame + 1) new
one_given frame old new given (packet, is, added) = record {
  packets = given.packets ++ packet ∷ [];
  count = length-append given.packets (packet ∷ []) ∙ ap (λ n. n + 1) given.count;
  each = packets_more given.packets packet given.each (subst (λ (k : ℕ). IsPacket k packet) (sym given.count) is);
  all = added ∙ ap (λ (w : Writing). with_packet w packet) given.all;
}

pub given_count : (frames : ℕ) (writer : Writing) → IsGiven frames writer → length writer.packets ≡ frames
given_count frames writer given = ap (λ (w : Writing). length w.packets) given.all ∙ given.count

pub all_given : (frames : ℕ) (writer : Writing) (held : List ℕ) → IsGiven frames writer → held ≡ file_of writer → IsClip frames held
all_given frames writer held given is = record {
  packets = given.packets;
  count = given.count;
  each = given.each;
  whole = is ∙ ap file_of given.all;
}
