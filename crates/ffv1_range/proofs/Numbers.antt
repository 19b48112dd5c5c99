-- Bytes as one number, the highest first.
use Rattle.std.proofs.Common.{◌≡◌, ℕ, zero, suc, ◌+◌, ◌-◌, ◌*◌, ◌%◌, ◌^◌, ◌<◌, List, [], ◌∷◌, ◌++◌, length, set, take, refl, sym, ap, ◌∙◌, subst, arith, append-nil}
use Rattle.std.specs.Prelude.{slice_index}
use Rattle.std.specs.List.{fold}
use Rattle.std.specs.Int.{byte_at, bytes_high_first}
use Rattle.std.proofs.Math.Nat.{pow-suc, pow-succ', one-le-pow, mod-eq_of_lt}
use Rattle.std.proofs.lemmas.List.Sums.{fold-append}
use Rattle.std.proofs.Math.ListN.{length-set}
use Rattle.std.proofs.lemmas.Nat.{same_from_place, mul-add-lt}
use Rattle.ffv1_range.specs.Cursor.{number_of}
use Rattle.ffv1_range.proofs.Stream.{IsBytes}
use Rattle.ffv1_range.proofs.Part.{byte_at-is, mod-next, length-bytes, fits_bytes}

-- the number goes on from what stands before
fold-from : (n : ℕ) (bytes : List ℕ) → fold (λ n b. 256 * n + b) n bytes ≡ n * 256 ^ length bytes + number_of bytes
fold-from n [] = omega arith
fold-from n (b ∷ bytes) =
    let here = fold-from (256 * n + b) bytes in
    let there = fold-from (256 * 0 + b) bytes in
    let power = pow-succ' 256 (length bytes) in
    rw (here, there, power) (omega arith)

number_of-append : (xs ys : List ℕ) → number_of (xs ++ ys) ≡ number_of xs * 256 ^ length ys + number_of ys
number_of-append xs ys = fold-append (λ n b. 256 * n + b) 0 xs ys ∙ fold-from (number_of xs) ys

pub number_of-cons : (b : ℕ) (bytes : List ℕ) → number_of (b ∷ bytes) ≡ b * 256 ^ length bytes + number_of bytes
number_of-cons b bytes = fold-from (256 * 0 + b) bytes ∙ omega arith

pub number_of-lt : (bytes : List ℕ) → IsBytes bytes → number_of bytes < 256 ^ length bytes
number_of-lt [] fits = omega arith
number_of-lt (b ∷ bytes) fits =
    let below = number_of-lt bytes (λ k. fits (suc k)) in
    let place = mul-add-lt b (256 ^ length bytes) (number_of bytes) 256 (fits 0) below in
    rw (number_of-cons b bytes, pow-suc 256 (length bytes)) place

-- what a write to one byte adds
pub number_of-set : (bytes : List ℕ) (i v : ℕ) → i < length bytes → number_of (set bytes i v) + slice_index bytes i * 256 ^ (length bytes - 1 - i) ≡ number_of bytes + v * 256 ^ (length bytes - 1 - i)
number_of-set [] i v h = absurd (omega arith)
number_of-set (b ∷ bytes) zero v h =
    let e : suc (length bytes) - 1 - 0 ≡ length bytes = omega arith in
    rw (e, number_of-cons v bytes, number_of-cons b bytes) (omega arith)
number_of-set (b ∷ bytes) (suc i) v h =
    let inner = number_of-set bytes i v (omega arith) in
    let e : suc (length bytes) - 1 - suc i ≡ length bytes - 1 - i = omega arith in
    rw (e, number_of-cons b (set bytes i v), number_of-cons b bytes, length-set bytes i v) (omega (arith, inner))

number_of-bytes : (k n : ℕ) → number_of (bytes_high_first k n) ≡ n % 256 ^ k
number_of-bytes zero n = omega arith
number_of-bytes (suc k) n =
    number_of-cons (byte_at k n) (bytes_high_first k n)
    ∙ rw (length-bytes k n, byte_at-is k n, number_of-bytes k n, pow-succ' 256 k) (sym (mod-next n (256 ^ k) (one-le-pow k 256 (omega arith))))

-- bytes are known by their count and their number
same_number : (xs ys : List ℕ) → length xs ≡ length ys → IsBytes xs → IsBytes ys → number_of xs ≡ number_of ys → xs ≡ ys
same_number [] [] e fits fits' h = refl
same_number [] (y ∷ ys) e fits fits' h = absurd (omega (arith, e))
same_number (x ∷ xs) [] e fits fits' h = absurd (omega (arith, e))
same_number (x ∷ xs) (y ∷ ys) e fits fits' h =
    let lengths : length xs ≡ length ys = omega (arith, e) in
    let power = ap (λ n. 256 ^ n) lengths in
    let below_x = number_of-lt xs (λ k. fits (suc k)) in
    let below_y = number_of-lt ys (λ k. fits' (suc k)) in
    let parts = same_from_place x (number_of xs) y (number_of ys) (256 ^ length ys) (omega (arith, below_x, power)) below_y (omega (arith, number_of-cons x xs, number_of-cons y ys, h, ap (λ p. x * p) power)) in
    let rest = same_number xs ys lengths (λ k. fits (suc k)) (λ k. fits' (suc k)) parts.1 in
    cc (parts.0, rest)

fits_all : (k n : ℕ) → IsBytes (bytes_high_first k n)
fits_all k n = subst (λ (b : List ℕ). IsBytes b) (append-nil (bytes_high_first k n)) (fits_bytes k n [] (λ k. omega arith))

-- the bytes of the number that bytes make
pub bytes_high_first-number : (k n : ℕ) (bytes : List ℕ) → length bytes ≡ k → IsBytes bytes → number_of bytes ≡ n → bytes_high_first k n ≡ bytes
bytes_high_first-number k n bytes e fits h =
    let below : n < 256 ^ k = subst (λ (m : ℕ). m < 256 ^ k) h (subst (λ (j : ℕ). number_of bytes < 256 ^ j) e (number_of-lt bytes fits)) in
    same_number (bytes_high_first k n) bytes (length-bytes k n ∙ sym e) (fits_all k n) fits (number_of-bytes k n ∙ mod-eq_of_lt below ∙ sym h)

pub fits_take : (n : ℕ) (bytes : List ℕ) → IsBytes bytes → IsBytes (take n bytes)
fits_take zero bytes fits k = omega arith
fits_take (suc n) [] fits k = omega arith
fits_take (suc n) (b ∷ bytes) fits zero = fits 0
fits_take (suc n) (b ∷ bytes) fits (suc k) = fits_take n bytes (λ j. fits (suc j)) k
