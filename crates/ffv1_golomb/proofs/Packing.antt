-- Bits in bytes.
use Rattle.std.proofs.Common.{◌≡◌, ℕ, zero, suc, ◌+◌, ◌-◌, ◌*◌, ◌/◌, ◌%◌, ◌^◌, ◌<◌, List, [], ◌∷◌, ◌++◌, length, drop, replicate, refl, sym, ap, ◌∙◌, arith, length-append}
use Rattle.std.specs.Prelude.{slice_index}
use Rattle.std.proofs.lemmas.List.{length-replicate}
use Rattle.std.proofs.Math.Nat.{mod-eq_of_lt}
use Rattle.std.proofs.Math.Seq.{drop-append-add}
use Rattle.tl_base.specs.Parity.{bits_of}
use Rattle.ffv1_rice.specs.Bits.{bits_of_bytes, number_at}
use Rattle.ffv1_rice.proofs.BitLemmas.{length-bits_of_bytes, number_at-bits_of}
use Rattle.ffv1_golomb.specs.Writing.{packed_in}
use Rattle.ffv1_golomb.specs.Law.{PacksBits}

-- zeros at the end count for nothing
number-zeros : (n k : ℕ) → number_at n (replicate k 0) ≡ 0
number-zeros zero k = refl
number-zeros (suc n) zero = refl
number-zeros (suc n) (suc k) = ap (λ v. 0 * 2 ^ n + v) (number-zeros n k) ∙ omega arith

number-filled : (n k : ℕ) (bits : List ℕ) → number_at n (bits ++ replicate k 0) ≡ number_at n bits
number-filled zero k bits = refl
number-filled (suc n) k [] = number-zeros (suc n) k
number-filled (suc n) k (bit ∷ bits) = ap (λ v. bit * 2 ^ n + v) (number-filled n k bits)

drop-zeros : (n k : ℕ) → drop {A = ℕ} n (replicate k 0) ≡ replicate (k - n) 0
drop-zeros zero k = let e : k ≡ k - 0 = omega arith in ap (λ v. replicate v 0) e
drop-zeros (suc n) zero = let e : 0 ≡ 0 - suc n = omega arith in ap (λ v. replicate v 0) e
drop-zeros (suc n) (suc k) = let e : k - n ≡ suc k - suc n = omega arith in drop-zeros n k ∙ ap (λ v. replicate v 0) e

drop-filled : (n k : ℕ) (bits : List ℕ) → drop n (bits ++ replicate k 0) ≡ drop n bits ++ replicate (k - (n - length bits)) 0
drop-filled zero k bits = let e : k ≡ k - (0 - length bits) = omega arith in ap (λ v. bits ++ replicate v 0) e
drop-filled (suc n) k [] = let e : k - suc n ≡ k - (suc n - 0) = omega arith in drop-zeros (suc n) k ∙ ap (λ v. replicate v 0) e
drop-filled (suc n) k (bit ∷ bits) =
    let e : k - (n - length bits) ≡ k - (suc n - suc (length bits)) = omega arith in
    drop-filled n k bits ∙ ap (λ v. drop n bits ++ replicate v 0) e

packed-filled : (n k : ℕ) (bits : List ℕ) → packed_in n (bits ++ replicate k 0) ≡ packed_in n bits
unfolding packed_in
packed-filled zero k bits = refl
packed-filled (suc n) k bits =
    ap (λ v. v ∷ packed_in n (drop 8 (bits ++ replicate k 0))) (number-filled 8 k bits)
    ∙ ap (λ l. number_at 8 bits ∷ packed_in n l) (drop-filled 8 k bits)
    ∙ ap (λ l. number_at 8 bits ∷ l) (packed-filled n (k - (8 - length bits)) (drop 8 bits))

packed-bytes : (bytes : List ℕ) → ((k : ℕ) → slice_index bytes k < 256) → packed_in (length bytes) (bits_of_bytes bytes) ≡ bytes
unfolding packed_in
packed-bytes [] small = refl
packed-bytes (b ∷ bytes) small =
    ap (λ v. v ∷ packed_in (length bytes) (drop 8 (bits_of 8 b ++ bits_of_bytes bytes))) (number_at-bits_of 8 b (bits_of_bytes bytes) ∙ mod-eq_of_lt (small 0))
    ∙ ap (λ l. b ∷ packed_in (length bytes) l) (drop-append-add (bits_of 8 b) (bits_of_bytes bytes) 0)
    ∙ ap (λ l. b ∷ l) (packed-bytes bytes (λ k. small (suc k)))

pub packs_bits : PacksBits
packs_bits bytes bits small spelled =
    let k : ℕ = (8 - length bits % 8) % 8 in
    let all : length bits + k ≡ 8 * length bytes =
    sym (ap (λ v. length bits + v) (length-replicate k 0)) ∙ sym (length-append bits (replicate k 0)) ∙ sym (ap length spelled) ∙ length-bits_of_bytes bytes in
    let count : length bytes ≡ (length bits + 7) / 8 = omega (arith, all) in
    sym (packed-bytes bytes small) ∙ ap (packed_in (length bytes)) spelled ∙ packed-filled (length bytes) k bits ∙ ap (λ n. packed_in n bits) count
