-- The bytes of what was written, as a number.
use Rattle.std.proofs.Common.{◌≡◌, ℕ, zero, suc, ◌+◌, ◌-◌, ◌*◌, ◌/◌, ◌%◌, ◌^◌, ◌<◌, ◌≤◌, min, Bool, true, false, ltb, leb, List, [], ◌∷◌, ◌++◌, cond, length, refl, sym, ap, ◌∙◌, subst, arith, append-nil, inl, inr}
use Rattle.std.specs.Prelude.{slice_index}
use Rattle.std.specs.Int.{byte_at, bytes_high_first}
use Rattle.std.proofs.Math.Nat.{pow-suc, pow-succ', one-le-pow, div-add-mod, add-mul-mod_self_left, mod-eq_of_lt}
use Rattle.std.proofs.Math.Seq.{get_or-append_right}
use Rattle.std.proofs.lemmas.Nat.{mod_below, mul-add-lt, div_below}
use Rattle.std.proofs.lemmas.Bool.{cases_lt, lt-ltb, le-ltb, lt-leb, cases_Bool}
use Rattle.ffv1_range.specs.Reading.{Reading, one_part, zero_part, opened, bit_of, narrowed, renewed, after_bit, after_bits}
use Rattle.ffv1_range.specs.Writing.{Writing, started, chosen, shifted, put, put_all, part, with_sentinel, AreStates}
use Rattle.ffv1_range.specs.Law.{states_of, written, ReadsBack, ReadsClosedMode, ReadsSentinel, ReadsSentinelMode, IsReadBack}
use Rattle.ffv1_range.proofs.Stream.{first_bytes, first_bytes-next, IsBytes, IsWithin, Tracks, one_part_lt, put-wide, ReadsOn, reads_on, tracks_opened, within_before}

-- ---- a number by its bytes
first_bytes-cons : (k b : ℕ) (bytes : List ℕ) → first_bytes (suc k) (b ∷ bytes) ≡ b * 256 ^ k + first_bytes k bytes
unfolding first_bytes
first_bytes-cons zero b bytes = omega arith
first_bytes-cons (suc k) b bytes =
    let before = first_bytes-cons k b bytes in
    rw pow-suc (omega (arith, before))

-- the lowest byte of the high part, and what is below it
pub mod-next : (n m : ℕ) → 0 < m → n % (256 * m) ≡ (n / m % 256) * m + n % m
mod-next n m some =
    let whole : m * (n / m) + n % m ≡ n = div-add-mod n m in
    let high : 256 * (n / m / 256) + n / m % 256 ≡ n / m = div-add-mod (n / m) 256 in
    let split = ap (λ x. m * x) high in
    let e : n ≡ ((n / m % 256) * m + n % m) + (256 * m) * (n / m / 256) = omega (arith, whole, split) in
    let low : (n / m % 256) * m + n % m < 256 * m = omega (arith, mul-add-lt (n / m % 256) m (n % m) 256 (mod_below (n / m) 256 (omega arith)) (mod_below n m some)) in
    ap (λ x. x % (256 * m)) e ∙ add-mul-mod_self_left ((n / m % 256) * m + n % m) (256 * m) (n / m / 256) ∙ mod-eq_of_lt low

pub byte_at-is : (k n : ℕ) → byte_at k n ≡ n / 256 ^ k % 256
byte_at-is zero n = omega arith
byte_at-is (suc k) n = refl

pub first_bytes-bytes : (k n : ℕ) (more : List ℕ) → first_bytes k (bytes_high_first k n ++ more) ≡ n % 256 ^ k
unfolding first_bytes
first_bytes-bytes zero n more = omega arith
first_bytes-bytes (suc k) n more =
    first_bytes-cons k (byte_at k n) (bytes_high_first k n ++ more)
    ∙ rw (byte_at-is k n, first_bytes-bytes k n more, pow-succ' 256 k) (sym (mod-next n (256 ^ k) (one-le-pow k 256 (omega arith))))

pub length-bytes : (k n : ℕ) → length (bytes_high_first k n) ≡ k
length-bytes zero n = refl
length-bytes (suc k) n = ap suc (length-bytes k n)

fits_cons : (b : ℕ) (bytes : List ℕ) → b < 256 → IsBytes bytes → IsBytes (b ∷ bytes)
fits_cons b bytes small fits zero = small
fits_cons b bytes small fits (suc k) = fits k

pub fits_bytes : (k n : ℕ) (more : List ℕ) → IsBytes more → IsBytes (bytes_high_first k n ++ more)
fits_bytes zero n more fits = fits
fits_bytes (suc k) n more fits = fits_cons (byte_at k n) (bytes_high_first k n ++ more) (rw byte_at-is (mod_below _ 256 (omega arith))) (fits_bytes k n more fits)

-- ---- what was written stays below the first range
pub record IsBounded (w : Writing) : Type 0 where
  pub counted : 2 ≤ w.count
  pub bound : w.low + w.range ≤ 255 * 256 ^ (w.count - 1)

pow_next : (n : ℕ) → 2 ≤ n → 256 ^ (n + 1 - 1) ≡ 256 * 256 ^ (n - 1)
pow_next n h = let e : n + 1 - 1 ≡ suc (n - 1) = omega arith in rw e (pow-succ' 256 (n - 1))

chosen-bounded : (w : Writing) (state : ℕ) (bit : Bool) → 256 ≤ w.range → 0 < state → state < 256 → IsBounded w → IsBounded (chosen w state bit)
unfolding chosen
chosen-bounded w state true wide some small h =
    let parts = one_part_lt w.range state wide some small in
    record { counted = h.counted; bound = omega (arith, h.bound, parts.0, parts.1) }
chosen-bounded w state false wide some small h =
    let parts = one_part_lt w.range state wide some small in
    record { counted = h.counted; bound = omega (arith, h.bound, parts.0, parts.1) }

shifted-bounded : (w : Writing) → IsBounded w → IsBounded (shifted w)
unfolding shifted
shifted-bounded w h =
    elim (cases_lt w.range 256) [
      | inl less ↦ rw (lt-ltb _ _ less) (record { counted = omega (arith, h.counted); bound = omega (arith, h.bound, pow_next w.count h.counted) })
      | inr more ↦ rw (le-ltb _ _ more) h
    ]

pub put-bounded : (w : Writing) (state : ℕ) (bit : Bool) → 256 ≤ w.range → 0 < state → state < 256 → IsBounded w → IsBounded (put w state bit)
unfolding put
put-bounded w state bit wide some small h = shifted-bounded (chosen w state bit) (chosen-bounded w state bit wide some small h)

pub record IsMade (w : Writing) : Type 0 where
  pub wide : 256 ≤ w.range
  pub bounded : IsBounded w

pub put_all-made : (w : Writing) (coded : List (ℕ × Bool)) → AreStates coded → IsMade w → IsMade (put_all w coded)
put_all-made w [] states h = h
put_all-made w (c ∷ coded) states h = put_all-made (put w c.0 c.1) coded states.1 (record { wide = put-wide w c.0 c.1 h.wide states.0.0 states.0.1; bounded = put-bounded w c.0 c.1 h.wide states.0.0 states.0.1 h.bounded })

pub started-made : (table : List ℕ) → IsMade (started table)
unfolding started
started-made table = record { wide = omega arith; bounded = record { counted = omega arith; bound = omega arith } }

-- the number of the part's bytes and one that follows
pub first_bytes-part : (w : Writing) (more : List ℕ) → IsMade w → first_bytes w.count (part w ++ more) ≡ 256 * ((w.low + 255) / 256) + slice_index more 0
unfolding part
first_bytes-part w more h =
    let k = w.count - 1 in
    let n = (w.low + 255) / 256 in
    let bytes = bytes_high_first k n in
    let counted : w.count ≡ k + 1 = omega (arith, h.bounded.counted) in
    let small : n < 256 ^ k = div_below (w.low + 255) 256 (256 ^ k) (omega arith) (omega (arith, h.bounded.bound, h.wide)) in
    let last : slice_index (bytes ++ more) k ≡ slice_index more 0 =
    get_or-append_right bytes more k 0 (omega (arith, length-bytes k n)) ∙ ap (slice_index more) (omega (arith, length-bytes k n)) in
    let number : first_bytes k (bytes ++ more) ≡ n = first_bytes-bytes k n more ∙ mod-eq_of_lt small in
    ap (λ j. first_bytes j (bytes ++ more)) counted ∙ first_bytes-next k (bytes ++ more) ∙ rw (number, last) refl

pub fits_part : (w : Writing) (more : List ℕ) → IsBytes more → IsBytes (part w ++ more)
unfolding part
fits_part w more fits = fits_bytes (w.count - 1) ((w.low + 255) / 256) more fits

pub with_sentinel-made : (w : Writing) → IsMade w → IsMade (with_sentinel w)
unfolding with_sentinel
with_sentinel-made w h = record { wide = put-wide w 129 false h.wide (omega arith) (omega arith); bounded = put-bounded w 129 false h.wide (omega arith) (omega arith) h.bounded }

-- ---- the law
pub closed_within : (w : Writing) → IsMade w → IsWithin (part w ++ []) w
closed_within w h =
    let e = first_bytes-part w [] h in
    record { from = omega (arith, e); below = omega (arith, e, h.wide) }

no_bytes : IsBytes []
no_bytes k = omega arith

pub reads_back : (table bytes : List ℕ) (coded : List (ℕ × Bool)) → IsBytes bytes → AreStates coded → IsWithin bytes (written table coded) → ReadsOn bytes (opened table bytes) (started table) coded
reads_back table bytes coded fits states within =
    let made = started-made table in
    let tracks = tracks_opened table bytes fits (within_before bytes (started table) coded fits made.wide states within) in
    reads_on bytes (opened table bytes) (started table) coded fits tracks made.wide states within

pub closed_read : ReadsClosedMode
closed_read table coded states =
    let w = written table coded in
    let made = put_all-made (started table) coded states (started-made table) in
    let all = append-nil (part w) in
    let read = reads_back table (part w) coded (subst (λ (b : List ℕ). IsBytes b) all (fits_part w [] no_bytes)) states (subst (λ (b : List ℕ). IsWithin b w) all (closed_within w made)) in
    record { bits = read.bits; taken = read.after.taken }

-- ---- the sentinel, whatever follows
after_bits-last : (p : Reading) (states : List ℕ) (state : ℕ) → after_bits p (states ++ state ∷ []) ≡ after_bit (after_bits p states) state
after_bits-last p [] state = refl
after_bits-last p (s ∷ states) state = after_bits-last (after_bit p s) states state

-- how far the bytes of a part with the sentinel are from what was written before it
pub sentinel_within : (w : Writing) (bytes : List ℕ) → IsBytes bytes → 256 ≤ w.range → (with_sentinel w).low ≤ first_bytes (with_sentinel w).count bytes → first_bytes (with_sentinel w).count bytes ≤ (with_sentinel w).low + 510 → IsWithin bytes w
unfolding with_sentinel put chosen shifted
sentinel_within w bytes fits wide from below =
    let next = first_bytes-next w.count bytes in
    let small = fits w.count in
    elim (cases_lt (zero_part w.range 129) 256) [
      | inl less ↦
          let shifts = lt-ltb _ _ less in
          let from_there : 256 * w.low ≤ first_bytes (w.count + 1) bytes = rw shifts at from in
          let below_there : first_bytes (w.count + 1) bytes ≤ 256 * w.low + 510 = rw shifts at below in
          record { from = omega arith; below = omega arith }
      | inr more ↦
          let stays = le-ltb _ _ more in
          let from_there : w.low ≤ first_bytes w.count bytes = rw stays at from in
          let below_there : first_bytes w.count bytes ≤ w.low + 510 = rw stays at below in
          record { from = omega arith; below = omega arith }
    ]

-- Reading the sentinel takes as many bytes, whichever bit it gives.
pub sentinel_taken : (w : Writing) (bytes : List ℕ) (p : Reading) → IsBytes bytes → 256 ≤ w.range → (with_sentinel w).low ≤ first_bytes (with_sentinel w).count bytes → first_bytes (with_sentinel w).count bytes ≤ (with_sentinel w).low + 510 → Tracks bytes p w → (after_bit p 129).taken ≡ min (with_sentinel w).count (2 ^ 64 - 1)
unfolding with_sentinel put chosen shifted after_bit narrowed renewed bit_of
sentinel_taken w bytes p fits wide from below h =
    let next = first_bytes-next w.count bytes in
    let small = fits w.count in
    let e = ap (λ r. zero_part r 129) h.range in
    let f = ap (λ r. one_part r 129) h.range in
    elim (cases_lt (zero_part w.range 129) 256) [
      | inl less ↦
          let shifts = lt-ltb _ _ less in
          let below_there : first_bytes (w.count + 1) bytes ≤ 256 * w.low + 510 = rw shifts at below in
          let reads_zero : leb (zero_part p.range 129) p.low ≡ false = lt-leb _ _ (omega (arith, h.low, h.range)) in
          let again : ltb (zero_part p.range 129) 256 ≡ true = lt-ltb _ _ (omega (arith, e)) in
          rw (shifts, reads_zero, again) (omega (arith, h.taken))
      | inr more ↦
          let stays = le-ltb _ _ more in
          let zero_stays : ltb (zero_part p.range 129) 256 ≡ false = le-ltb _ _ (omega (arith, e)) in
          let one_stays : ltb (one_part p.range 129) 256 ≡ false = le-ltb _ _ (omega (arith, f)) in
          rw stays (elim (cases_Bool (leb (zero_part p.range 129) p.low)) [
            | inl reads_one ↦ rw (reads_one, one_stays) h.taken
            | inr reads_zero ↦ rw (reads_zero, zero_stays) h.taken
          ])
    ]

length-part : (w : Writing) → IsMade w → length (part w) + 1 ≡ w.count
unfolding part
length-part w h = omega (arith, length-bytes (w.count - 1) ((w.low + 255) / 256), h.bounded.counted)

pub sentinel_read : ReadsSentinelMode
sentinel_read table coded more states fits_more =
    let w = written table coded in
    let last = with_sentinel w in
    let bytes = part last ++ more in
    let made = put_all-made (started table) coded states (started-made table) in
    let last_made = with_sentinel-made w made in
    let fits = fits_part last more fits_more in
    let number = first_bytes-part last more last_made in
    let from : last.low ≤ first_bytes last.count bytes = omega (arith, number) in
    let below : first_bytes last.count bytes ≤ last.low + 510 = omega (arith, number, fits_more 0) in
    let read = reads_back table bytes coded fits states (sentinel_within w bytes fits made.wide from below) in
    record {
      before = record { bits = read.bits; taken = read.after.taken };
      taken = ap (λ (p : Reading). p.taken) (after_bits-last (opened table bytes) (states_of coded) 129)
          ∙ sentinel_taken w bytes (after_bits (opened table bytes) (states_of coded)) fits made.wide from below read.after
          ∙ ap (λ n. min n (2 ^ 64 - 1)) (sym (length-part last last_made));
    }

-- ---- the bytes of a writing are read again in its mode
in_closed_mode : (w : Writing) (coded : List (ℕ × Bool)) → AreStates coded → w ≡ written w.table coded → ReadsBack w.table (part w) coded (length (part w) + 1)
in_closed_mode w coded states is =
    let made : IsMade w = subst IsMade (sym is) (put_all-made (started w.table) coded states (started-made w.table)) in
    let read : ReadsBack w.table (part (written w.table coded)) coded (written w.table coded).count = closed_read w.table coded states in
    let here : ReadsBack w.table (part w) coded w.count = subst (λ (v : Writing). ReadsBack w.table (part v) coded v.count) (sym is) read in
    subst (λ n. ReadsBack w.table (part w) coded n) (sym (length-part w made)) here

pub is_read_back : (sentinel : Bool) (w : Writing) (bytes : List ℕ) → bytes ≡ part (cond sentinel (with_sentinel w) w) → IsReadBack sentinel w bytes
is_read_back true w bytes is = λ coded states made more fits.
    subst (λ (b : List ℕ). ReadsSentinel w.table coded b more) (sym is)
    (subst (λ (v : Writing). ReadsSentinel w.table coded (part (with_sentinel v)) more) (sym made) (sentinel_read w.table coded more states fits))
is_read_back false w bytes is = λ coded states made. subst (λ (b : List ℕ). ReadsBack w.table b coded (length b + 1)) (sym is) (in_closed_mode w coded states made)
