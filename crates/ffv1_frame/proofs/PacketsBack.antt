-- The slices of a packet that was written are found, with their parities, and their headers cover each cell once.
use Rattle.std.proofs.Common.{◌≡◌, ◌≢◌, ℕ, zero, suc, ◌+◌, ◌*◌, ◌/◌, ◌%◌, ◌^◌, ◌<◌, ◌≤◌, Bool, true, false, cond, ltb, List, [], ◌∷◌, ◌++◌, length, map, reverse, refl, sym, ◌∙◌, ap, subst, arith, append_assoc, inl, inr}
use Rattle.std.specs.Prelude.{All, slice_index_or, count_by, nat_le, nat_lt, ◌&&◌}
use Rattle.std.specs.List.{flat_map}
use Rattle.std.specs.Int.{byte_at}
use Rattle.std.specs.Int.Bits.{bit_xor, xor_self, xor_assoc, xor_zero_l, xor_zero_r}
use Rattle.std.proofs.Math.Nat.{div-add-mod}
use Rattle.std.proofs.lemmas.Nat.{mod_below, xor_block, pow_pos}
use Rattle.std.proofs.lemmas.Bool.{cases_lt, cases_order, cases_Bool, lt-ltb, le-ltb, le-leb, lt-leb}
use Rattle.std.proofs.lemmas.List.{append-nil, length-append, reverse-append, reverse-reverse, get_or_append_left, get_or_push}
use Rattle.std.proofs.lemmas.List.Elements.{All-map}
use Rattle.std.proofs.lemmas.List.Sums.{fold-append}
use Rattle.std.proofs.lemmas.Grind.{flat_map-append}
use Rattle.byteorder.specs.Endian.{big_number, big_bytes}
use Rattle.byteorder.specs.Numbers.{length-bytes_high_first}
use Rattle.tl_base.specs.Parity.{parity, times}
use Rattle.tl_base.proofs.Remainders.{parity-lt, parity-word, times-xor}
use Rattle.tl_limits.specs.Limits.{max_slice_bytes}
use Rattle.ffv1_range.proofs.Part.{byte_at-is}
use Rattle.ffv1_slice.specs.declared.header.Header.{Header}
use Rattle.ffv1_frame.specs.Packet.{Slice, bytes_of, footer_length, IsSlice, EndsWith, HasParity, no_slice}
use Rattle.ffv1_frame.specs.Frame.{HaveParities, no_header}
use Rattle.ffv1_frame.specs.Cover.{has_cell, AreCovered}
use Rattle.ffv1_frame.specs.Written.{cell_header, footer_of, slice_of, packet_of}
use Rattle.ffv1_frame.proofs.Chains.{All-reverse}

-- ---- the parity of bytes that end with theirs
-- numbers without a common bit
joined : (k high low : ℕ) → low < 2 ^ k → high * 2 ^ k + low ≡ bit_xor (high * 2 ^ k) low
joined k high low small =
    let whole : bit_xor (high * 2 ^ k + 0) (0 * 2 ^ k + low) ≡ bit_xor high 0 * 2 ^ k + bit_xor 0 low = xor_block k high 0 0 low (pow_pos k) small in
    ap (λ n. n * 2 ^ k + low) (sym (xor_zero_r high)) ∙ ap (λ n. bit_xor high 0 * 2 ^ k + n) (sym (xor_zero_l low)) ∙ sym whole
    ∙ ap (λ n. bit_xor n (0 * 2 ^ k + low)) {x = high * 2 ^ k + 0} {y = high * 2 ^ k} (omega arith) ∙ ap (λ n. bit_xor (high * 2 ^ k) n) {x = 0 * 2 ^ k + low} {y = low} (omega arith)

-- a number of 32 bits by its bytes
by_bytes : (r a b c d : ℕ) → r ≡ a * 2 ^ 24 + (b * 2 ^ 16 + (c * 2 ^ 8 + d)) → b < 256 → c < 256 → d < 256
    → bit_xor (bit_xor (bit_xor (bit_xor r (a * 2 ^ 24)) (b * 2 ^ 16)) (c * 2 ^ 8)) d ≡ bit_xor r r
by_bytes r a b c d is hb hc hd =
    let whole : r ≡ bit_xor (a * 2 ^ 24) (bit_xor (b * 2 ^ 16) (bit_xor (c * 2 ^ 8) d)) =
    is ∙ joined 24 a (b * 2 ^ 16 + (c * 2 ^ 8 + d)) (omega arith)
    ∙ ap (λ n. bit_xor (a * 2 ^ 24) n) (joined 16 b (c * 2 ^ 8 + d) (omega arith) ∙ ap (λ n. bit_xor (b * 2 ^ 16) n) (joined 8 c d (omega arith))) in
    xor_assoc (bit_xor (bit_xor r (a * 2 ^ 24)) (b * 2 ^ 16)) (c * 2 ^ 8) d
    ∙ xor_assoc (bit_xor r (a * 2 ^ 24)) (b * 2 ^ 16) (bit_xor (c * 2 ^ 8) d)
    ∙ xor_assoc r (a * 2 ^ 24) (bit_xor (b * 2 ^ 16) (bit_xor (c * 2 ^ 8) d))
    ∙ ap (λ n. bit_xor r n) (sym whole)

byte_small : (k n : ℕ) → byte_at k n < 256
byte_small k n = rw (byte_at-is k n) (mod_below (n / 256 ^ k) 256 (omega arith))

bytes_whole : (r : ℕ) → r < 2 ^ 32 → r ≡ byte_at 3 r * 2 ^ 24 + (byte_at 2 r * 2 ^ 16 + (byte_at 1 r * 2 ^ 8 + byte_at 0 r))
bytes_whole r small = rw (byte_at-is 3 r, byte_at-is 2 r, byte_at-is 1 r, byte_at-is 0 r) (omega arith)

pub parity-own : (bytes : List ℕ) → parity (bytes ++ big_bytes 4 (parity bytes)) ≡ 0
parity-own bytes =
    let r : ℕ = parity bytes in
    let small : r < 2 ^ 32 = parity-lt bytes in
    parity-word bytes (byte_at 3 r) (byte_at 2 r) (byte_at 1 r) (byte_at 0 r) (byte_small 3 r) (byte_small 2 r) (byte_small 1 r) (byte_small 0 r)
    ∙ ap (times 32) (by_bytes r (byte_at 3 r) (byte_at 2 r) (byte_at 1 r) (byte_at 0 r) (bytes_whole r small) (byte_small 2 r) (byte_small 1 r) (byte_small 0 r))
    ∙ times-xor 32 r r small small
    ∙ xor_self (times 32 r)

-- ---- a slice
-- a number in bytes is read again
abbrev pub AreNumbers : Type 0
AreNumbers = (count n : ℕ) (rest : List ℕ) → n < 256 ^ count → big_number count (big_bytes count n ++ rest) ≡ n

footer-length : (ec : Bool) (content : List ℕ) → length (footer_of ec content) ≡ footer_length ec
unfolding footer_of
footer-length false content = length-bytes_high_first 3 (length content)
footer-length true content =
    let size : List ℕ = big_bytes 3 (length content) in
    let front : List ℕ = size ++ 0 ∷ [] in
    let code : List ℕ = big_bytes 4 (parity (content ++ front)) in
    omega (arith, length-append front code, length-append size (0 ∷ []), length-bytes_high_first 3 (length content), length-bytes_high_first 4 (parity (content ++ front)))

pub slice_is : (numbers : AreNumbers) (ec : Bool) (content : List ℕ) → length content ≤ max_slice_bytes → IsSlice ec (slice_of ec content)
unfolding footer_of
slice_is numbers false content short =
    let size : List ℕ = big_bytes 3 (length content) in
    record { footer = footer-length false content; size = ap (big_number 3) (sym (append-nil size)) ∙ numbers 3 (length content) [] (omega arith) }
slice_is numbers true content short =
    let size : List ℕ = big_bytes 3 (length content) in
    let code : List ℕ = big_bytes 4 (parity (content ++ (size ++ 0 ∷ []))) in
    record { footer = footer-length true content; size = ap (big_number 3) (append_assoc size (0 ∷ []) code) ∙ numbers 3 (length content) ((0 ∷ []) ++ code) (omega arith) }

footer_few : (ec : Bool) → (3 ≤ footer_length ec) × (footer_length ec ≤ 8)
footer_few false = (omega arith, omega arith)
footer_few true = (omega arith, omega arith)

pub slice_parity : (content : List ℕ) → HasParity (slice_of true content)
unfolding footer_of
slice_parity content =
    let front : List ℕ = big_bytes 3 (length content) ++ 0 ∷ [] in
    ap parity (sym (append_assoc content front (big_bytes 4 (parity (content ++ front))))) ∙ parity-own (content ++ front)

-- ---- the chain
abbrev pub slices_of : Bool → List (List ℕ) → List Slice
slices_of ec contents = map (slice_of ec) contents

chain_of : (ec : Bool) (slices : List Slice) → All (IsSlice ec) slices → EndsWith ec (flat_map bytes_of (reverse slices)) slices
chain_of ec [] are = refl
chain_of ec (s ∷ slices) are = (
  flat_map bytes_of (reverse slices),
  ap (flat_map bytes_of) (reverse-append (s ∷ []) slices) ∙ flat_map-append bytes_of (reverse slices) (s ∷ []) ∙ ap (λ (l : List ℕ). flat_map bytes_of (reverse slices) ++ l) (append-nil (bytes_of s)),
  are 0 s (omega arith),
  chain_of ec slices (λ i d lt. are (suc i) d (omega arith)),
)

bytes-slices : (ec : Bool) (contents : List (List ℕ)) → flat_map bytes_of (slices_of ec contents) ≡ packet_of ec contents
bytes-slices ec [] = refl
bytes-slices ec (content ∷ more) = ap (λ (l : List ℕ). bytes_of (slice_of ec content) ++ l) (bytes-slices ec more)

abbrev pub AreShort : List (List ℕ) → Type 0
AreShort contents = All (λ content. length content ≤ max_slice_bytes) contents

pub chain : (numbers : AreNumbers) (ec : Bool) (contents : List (List ℕ)) → AreShort contents → EndsWith ec (packet_of ec contents) (reverse (slices_of ec contents))
chain numbers ec contents short =
    let slices : List Slice = slices_of ec contents in
    let are : All (IsSlice ec) slices = All-map (IsSlice ec) (slice_of ec) contents (λ i d lt. slice_is numbers ec _ (short i d lt)) in
    let backwards : All (IsSlice ec) (reverse slices) = All-reverse (IsSlice ec) no_slice slices (reverse slices) refl are in
    subst (λ (b : List ℕ). EndsWith ec b (reverse slices)) (ap (flat_map bytes_of) (reverse-reverse slices) ∙ bytes-slices ec contents) (chain_of ec (reverse slices) backwards)

pub parities : (ec : Bool) (contents : List (List ℕ)) → HaveParities ec (slices_of ec contents)
parities false contents = tt
parities true contents = All-map HasParity (slice_of true) contents (λ i d lt. slice_parity _)

pub some_bytes : (ec : Bool) (contents : List (List ℕ)) → 0 < length contents → packet_of ec contents ≢ []
some_bytes ec [] some is = absurd (omega arith)
some_bytes ec (content ∷ more) some is =
    let s : Slice = slice_of ec content in
    omega (arith, ap length is, length-append (bytes_of s) (packet_of ec more), length-append content s.footer, footer-length ec content, footer_few ec)

pub few_bytes : (ec : Bool) (contents : List (List ℕ)) → AreShort contents → length (packet_of ec contents) ≤ 16777223 * length contents
few_bytes ec [] short = omega arith
few_bytes ec (content ∷ more) short =
    let s : Slice = slice_of ec content in
    let rest = few_bytes ec more (λ i d lt. short (suc i) d (omega arith)) in
    let here : length content ≤ max_slice_bytes = short 0 content (omega arith) in
    omega (arith, length-append (bytes_of s) (packet_of ec more), length-append content s.footer, footer-length ec content, footer_few ec)

-- ---- the headers
-- the headers of the first cells
abbrev pub headers_of : ℕ → ℕ → List Header
headers_of columns zero = []
headers_of columns (suc n) = headers_of columns n ++ cell_header columns n ∷ []

pub length-headers : (columns n : ℕ) → length (headers_of columns n) ≡ n
length-headers columns zero = refl
length-headers columns (suc n) = length-append (headers_of columns n) (cell_header columns n ∷ []) ∙ omega (arith, length-headers columns n)

pub header_at : (columns n i : ℕ) → i < n → slice_index_or (headers_of columns n) i no_header ≡ cell_header columns i
header_at columns zero i lt = absurd (omega arith)
header_at columns (suc n) i lt =
    let before : List Header = headers_of columns n in
    elim (cases_lt i n) [
      | inl less ↦ get_or_append_left before (cell_header columns n ∷ []) no_header i (omega (arith, length-headers columns n)) ∙ header_at columns n i less
      | inr more ↦
          let at : n ≡ i = omega arith in
          get_or_push before (cell_header columns n) no_header i (length-headers columns n ∙ at) ∙ ap (cell_header columns) at
    ]

-- ---- the cover
second_false : (a b : Bool) → b ≡ false → (a && b) ≡ false
second_false true b is = is
second_false false b is = refl

first_false : (a b : Bool) → a ≡ false → (a && b) ≡ false
first_false a b is = rw is refl

has_own : (columns cell : ℕ) → has_cell (cell % columns) (cell / columns) (cell_header columns cell) ≡ true
has_own columns cell =
    let x : ℕ = cell % columns in
    let y : ℕ = cell / columns in
    rw (le-leb x x (omega arith), lt-ltb x (x + 1) (omega arith), le-leb y y (omega arith), lt-ltb y (y + 1) (omega arith)) refl

has_not : (columns cell other : ℕ) → cell ≢ other → has_cell (cell % columns) (cell / columns) (cell_header columns other) ≡ false
has_not columns cell other ne =
    let x : ℕ = cell % columns in
    let y : ℕ = cell / columns in
    let left : ℕ = other % columns in
    let top : ℕ = other / columns in
    let across : Bool = nat_le left x && nat_lt x (left + 1) in
    let down : Bool = nat_le top y && nat_lt y (top + 1) in
    elim (cases_order x left) [
      | inr (inl less) ↦ first_false across down (first_false (nat_le left x) (nat_lt x (left + 1)) (lt-leb left x less))
      | inr (inr more) ↦ first_false across down (second_false (nat_le left x) (nat_lt x (left + 1)) (le-ltb x (left + 1) (omega arith)))
      | inl same ↦
          second_false across down (elim (cases_order y top) [
            | inr (inl less) ↦ first_false (nat_le top y) (nat_lt y (top + 1)) (lt-leb top y less)
            | inr (inr more) ↦ second_false (nat_le top y) (nat_lt y (top + 1)) (le-ltb y (top + 1) (omega arith))
            | inl at ↦ absurd (ne (sym (div-add-mod cell columns) ∙ ap (λ n. columns * n + x) at ∙ ap (λ n. columns * top + n) same ∙ div-add-mod other columns))
          ])
    ]

once : Bool → ℕ
once true = 1
once false = 0

once_true : (b : Bool) → b ≡ true → once b ≡ 1
unfolding once
once_true b is = ap once is

once_false : (b : Bool) → b ≡ false → once b ≡ 0
unfolding once
once_false b is = ap once is

count-push : (p : Header → Bool) (xs : List Header) (x : Header) → count_by p (xs ++ x ∷ []) ≡ count_by p xs + once (p x)
unfolding once
count-push p xs x =
    fold-append (λ (n : ℕ) (h : Header). n + cond {A = ℕ} (p h) 1 0) 0 xs (x ∷ []) ∙ elim (cases_Bool (p x)) [ inl there ↦ rw there refl | inr missing ↦ rw missing refl ]

counted : (columns cell n : ℕ) → count_by (has_cell (cell % columns) (cell / columns)) (headers_of columns n) ≡ once (ltb cell n)
counted columns cell zero = sym (once_false (ltb cell 0) (le-ltb cell 0 (omega arith)))
counted columns cell (suc n) =
    let has : Header → Bool = has_cell (cell % columns) (cell / columns) in
    let step = count-push has (headers_of columns n) (cell_header columns n) in
    let before = counted columns cell n in
    elim (cases_order cell n) [
      | inl same ↦
          let own : has (cell_header columns n) ≡ true = subst (λ (k : ℕ). has (cell_header columns k) ≡ true) same (has_own columns cell) in
          omega (arith, step, before, once_true (has (cell_header columns n)) own, once_false (ltb cell n) (le-ltb cell n (omega arith)), once_true (ltb cell (suc n)) (lt-ltb cell (suc n) (omega arith)))
      | inr (inl less) ↦
          omega (arith, step, before, once_false (has (cell_header columns n)) (has_not columns cell n (λ e. omega arith)), once_true (ltb cell n) (lt-ltb cell n less), once_true (ltb cell (suc n)) (lt-ltb cell (suc n) (omega arith)))
      | inr (inr more) ↦
          omega (arith, step, before, once_false (has (cell_header columns n)) (has_not columns cell n (λ e. omega arith)), once_false (ltb cell n) (le-ltb cell n (omega arith)), once_false (ltb cell (suc n)) (le-ltb cell (suc n) (omega arith)))
    ]

pub covered : (columns n : ℕ) → AreCovered columns (headers_of columns n) n
covered columns n cell lt = counted columns cell n ∙ once_true (ltb cell n) (lt-ltb cell n lt)
