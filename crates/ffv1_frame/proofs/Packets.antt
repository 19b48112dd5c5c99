-- Slices one after the other, and the contents of the cells of a grid.
use Rattle.std.proofs.Common.{◌≡◌, ℕ, zero, suc, ◌+◌, ◌-◌, ◌*◌, ◌<◌, ◌≤◌, Bool, true, false, List, [], ◌∷◌, ◌++◌, length, take, drop, refl, sym, ◌∙◌, ap, subst, arith, append_assoc, inl, inr}
use Rattle.std.specs.Prelude.{slice_index_or}
use Rattle.std.proofs.lemmas.Bool.{cases_lt}
use Rattle.std.proofs.lemmas.List.{append-nil, length-append, drop_at, take_all, get_or_append_left, get_or_push}
use Rattle.std.proofs.lemmas.List.Elements.{All-push}
use Rattle.std.proofs.lemmas.Grind.{flat_map-append}
use Rattle.byteorder.specs.Endian.{big_bytes}
use Rattle.tl_base.specs.Parity.{parity}
use Rattle.tl_limits.specs.Limits.{max_slice_bytes}
use Rattle.pic_planes.specs.Picture.{Image}
use Rattle.ffv1_record.specs.Parameters.{Parameters}
use Rattle.ffv1_golomb.specs.Writing as rice
use Rattle.ffv1_range.specs.Writing.{Writing, part, with_sentinel}
use Rattle.ffv1_slice.specs.Slice as slices
use Rattle.ffv1_frame.specs.Packet.{bytes_of}
use Rattle.ffv1_frame.specs.Written.{IsContent, IsRangeContent, IsRiceContent, WritesContent, AreContents, IsPacket, footer_of, slice_of, packet_of}

-- ---- a slice more
pub plain_slice : (ec : Bool) (packet content size first second : List ℕ) → ec ≡ false → first ≡ packet ++ content → size ≡ big_bytes 3 (length content) → second ≡ first ++ size
    → second ≡ packet ++ bytes_of (slice_of ec content)
unfolding footer_of
plain_slice ec packet content size first second without put is last =
    rw without (last ∙ ap (λ (l : List ℕ). l ++ size) put ∙ ap (λ (l : List ℕ). (packet ++ content) ++ l) is ∙ append_assoc packet content (big_bytes 3 (length content)))

-- what stands behind a packet
behind : (packet others whole : List ℕ) (start n : ℕ) → start ≡ length packet → n ≡ length whole → whole ≡ packet ++ others → take (n - start) (drop start whole) ≡ others
behind packet others whole start n at all is =
    let dropped : drop start whole ≡ others = ap (drop start) is ∙ drop_at packet others start (sym at) in
    ap (take (n - start)) dropped ∙ take_all (n - start) others (omega (arith, length-append packet others, ap length is))

pub checked_slice : (ec : Bool) (packet content size code first second third fourth : List ℕ) (start n : ℕ) → ec ≡ true → start ≡ length packet → first ≡ packet ++ content → size ≡ big_bytes 3 (length content) → second ≡ first ++ size
    → third ≡ second ++ 0 ∷ [] → n ≡ length third → code ≡ big_bytes 4 (parity (take (n - start) (drop start third))) → fourth ≡ third ++ code → fourth ≡ packet ++ bytes_of (slice_of ec content)
unfolding footer_of
checked_slice ec packet content size code first second third fourth start n with_code at put is size_put zero_put all code_is last =
    let front : List ℕ = big_bytes 3 (length content) ++ 0 ∷ [] in
    let whole : third ≡ packet ++ (content ++ front) =
    zero_put ∙ ap (λ (l : List ℕ). l ++ 0 ∷ []) (size_put ∙ ap (λ (l : List ℕ). l ++ size) put ∙ ap (λ (l : List ℕ). (packet ++ content) ++ l) is ∙ append_assoc packet content (big_bytes 3 (length content)))
    ∙ append_assoc packet (content ++ big_bytes 3 (length content)) (0 ∷ []) ∙ ap (λ (l : List ℕ). packet ++ l) (append_assoc content (big_bytes 3 (length content)) (0 ∷ [])) in
    let code_of : code ≡ big_bytes 4 (parity (content ++ front)) = code_is ∙ ap (λ (l : List ℕ). big_bytes 4 (parity l)) (behind packet (content ++ front) third start n at all whole) in
    rw with_code (last ∙ ap (λ (l : List ℕ). l ++ code) whole ∙ ap (λ (l : List ℕ). (packet ++ (content ++ front)) ++ l) code_of
    ∙ append_assoc packet (content ++ front) (big_bytes 4 (parity (content ++ front))) ∙ ap (λ (l : List ℕ). packet ++ l) (append_assoc content front (big_bytes 4 (parity (content ++ front)))))

pub packet_more : (ec : Bool) (contents : List (List ℕ)) (content packet next : List ℕ) → packet ≡ packet_of ec contents → next ≡ packet ++ bytes_of (slice_of ec content) → next ≡ packet_of ec (contents ++ content ∷ [])
packet_more ec contents content packet next before is =
    is ∙ ap (λ (l : List ℕ). l ++ bytes_of (slice_of ec content)) before
    ∙ ap (λ (l : List ℕ). packet_of ec contents ++ l) (sym (append-nil (bytes_of (slice_of ec content))))
    ∙ sym (flat_map-append (λ (c : List ℕ). bytes_of (slice_of ec c)) contents (content ∷ []))

-- ---- a content by its coder
pub by_range : (coder : ℕ) (slice : slices.Slice) (image : Image) (header : Writing) (content : List ℕ) → (coder ≡ 0 → ⊥) → IsRangeContent slice image header content → IsContent coder slice image header content
by_range zero slice image header content some is = absurd (some refl)
by_range (suc coder) slice image header content some is = is

pub by_rice : (coder : ℕ) (slice : slices.Slice) (image : Image) (header : Writing) (content : List ℕ) → coder ≡ 0 → IsRiceContent slice image header content → IsContent coder slice image header content
by_rice zero slice image header content none is = is
by_rice (suc coder) slice image header content none is = absurd (omega arith)

-- a content as a writer of bits gives it
pub rice_is : (slice wanted : slices.Slice) (image : Image) (header wanted_header : Writing) (start bits front samples lent content : List ℕ) → slice ≡ wanted → header ≡ wanted_header → start ≡ []
    → rice.WritesSlice slice image start bits → front ≡ part (with_sentinel header) → samples ≡ rice.packed bits → lent ≡ samples → content ≡ front ++ lent → IsRiceContent wanted image wanted_header content
rice_is slice wanted image header wanted_header start bits front samples lent content is header_is none written front_is packed lent_is joined =
    let From : List ℕ → Type 0 = λ l. rice.WritesSlice slice image l bits in
    let Of : slices.Slice → Type 0 = λ s. rice.WritesSlice s image [] bits in
    record {
      bits = bits;
      samples = subst Of is (subst From none written);
      joined = joined ∙ ap (λ (l : List ℕ). front ++ l) (lent_is ∙ packed) ∙ ap (λ (l : List ℕ). l ++ rice.packed bits) (front_is ∙ ap (λ (w : Writing). part (with_sentinel w)) header_is);
    }

-- ---- the contents of the first cells
-- A packet with the slices of the first cells.
pub record ArePut (p : Parameters) (image : Image) (packet : List ℕ) (cell : ℕ) : Type 0 where
  pub contents : List (List ℕ)
  pub are : AreContents p image contents
  pub count : length contents ≡ cell
  pub bytes : packet ≡ packet_of p.ec contents

pub none_put : (p : Parameters) (image : Image) (packet : List ℕ) → packet ≡ [] → ArePut p image packet 0
none_put p image packet is = record {
  contents = [];
  are = record { each = λ cell lt. absurd (omega arith); short = λ i d lt. absurd (omega arith) };
  count = refl;
  bytes = is;
}

pub contents_more : (p : Parameters) (image : Image) (contents : List (List ℕ)) (content : List ℕ) → AreContents p image contents → WritesContent p image (length contents) content → length content ≤ max_slice_bytes
    → AreContents p image (contents ++ content ∷ [])
contents_more p image contents content are here small = record {
  each = λ cell lt. each_of p image contents content are here cell lt;
  short = All-push (λ (c : List ℕ). length c ≤ max_slice_bytes) contents content are.short small;
}
  where
    each_of : (p : Parameters) (image : Image) (contents : List (List ℕ)) (content : List ℕ) → AreContents p image contents → WritesContent p image (length contents) content
        → (cell : ℕ) → cell < length (contents ++ content ∷ []) → WritesContent p image cell (slice_index_or (contents ++ content ∷ []) cell [])
    each_of p image contents content are here cell lt =
        elim (cases_lt cell (length contents)) [
          | inl before ↦ subst (λ (c : List ℕ). WritesContent p image cell c) (sym (get_or_append_left contents (content ∷ []) [] cell before)) (are.each cell before)
          | inr after ↦
              let at : length contents ≡ cell = omega (arith, length-append contents (content ∷ [])) in
              subst (λ (c : List ℕ). WritesContent p image cell c) (sym (get_or_push contents content [] cell at)) (subst (λ (k : ℕ). WritesContent p image k content) at here)
        ]

pub one_put : (p : Parameters) (image : Image) (packet next content : List ℕ) (cell : ℕ) (ec : Bool) → ArePut p image packet cell → ec ≡ p.ec → WritesContent p image cell content → length content ≤ max_slice_bytes
    → next ≡ packet ++ bytes_of (slice_of ec content) → ArePut p image next (cell + 1)
one_put p image packet next content cell ec put same here small is = record {
  contents = put.contents ++ content ∷ [];
  are = contents_more p image put.contents content put.are (subst (λ (k : ℕ). WritesContent p image k content) (sym put.count) here) small;
  count = length-append put.contents (content ∷ []) ∙ ap (λ n. n + 1) put.count;
  bytes = packet_more p.ec put.contents content packet next put.bytes (is ∙ ap (λ (b : Bool). packet ++ bytes_of (slice_of b content)) same);
}

pub all_put : (p : Parameters) (image : Image) (packet : List ℕ) (cell : ℕ) → ArePut p image packet cell → cell ≡ p.columns * p.rows → IsPacket p image packet
all_put p image packet cell put all = record { contents = put.contents; are = put.are; all = put.count ∙ all; bytes = put.bytes }
