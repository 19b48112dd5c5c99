-- A timecode's frame number has its bound, and so has a number.
use Rattle.std.proofs.Common.{◌≡◌, ℕ, ◌+◌, ◌-◌, ◌*◌, ◌<◌, ◌≤◌, Bool, true, false, ◌&&◌, nat_le, if◌then◌else◌, List, [], ◌∷◌, length, ◌==◌, Option, Some, None, IfSome, refl, arith}
use Rattle.std.proofs.lemmas.Bool.{leb-true}
use Rattle.std.proofs.Math.Nat.{mul-le-mul}
use Rattle.tl_limits.specs.Limits.{IsRate, timecode_frames}
use Rattle.text_words.specs.Number.{number, within, value_of, is_number}
use Rattle.text_words.specs.Timecode.{◌>>=◌, timecode, pair_of, frames_of, frame_number}

both : (a b : Bool) → (a && b) ≡ true → (a ≡ true) × (b ≡ true)
both true b e = (refl, e)
both false b e = absurd (cc)

kept_if : (P : ℕ → Type 0) (b : Bool) (x : Option ℕ) → (b ≡ true → IfSome x P) → IfSome (if b then x else None) P
kept_if P true x p = p refl
kept_if P false x p = tt

then_some : (P Q : ℕ → Type 0) (x : Option ℕ) (f : ℕ → Option ℕ) → IfSome x P → ((n : ℕ) → P n → IfSome (f n) Q) → IfSome (x >>= f) Q
then_some P Q (Some n) f p q = q n p
then_some P Q None f p q = tt

within_high : (low high n : ℕ) → IfSome (within low high n) (λ m. m ≤ high)
within_high low high n =
    kept_if (λ m. m ≤ high) (nat_le low n && nat_le n high) (Some n) (λ e. leb-true n high (both (nat_le low n) (nat_le n high) e).1)

pub number_high : (most low high : ℕ) (word : List ℕ) → IfSome (number most low high word) (λ n. n ≤ high)
unfolding number
number_high most low high word =
    kept_if (λ n. n ≤ high) (is_number most word) (within low high (value_of word)) (λ e. within_high low high (value_of word))

frames_high : (rate : ℕ) (digits : List ℕ) → IfSome (frames_of rate digits) (λ n. n ≤ rate - 1)
frames_high rate digits =
    kept_if (λ n. n ≤ rate - 1) (nat_le 2 (length digits)) (number 3 0 (rate - 1) digits) (λ e. number_high 3 0 (rate - 1) digits)

frame_below : (rate h m s n : ℕ) → IsRate rate → h ≤ 23 → m ≤ 59 → s ≤ 59 → n ≤ rate - 1 → frame_number rate h m s n < timecode_frames
frame_below rate h m s n bounds hours minutes seconds frames =
    let count : 3600 * h + 60 * m + s ≤ 86399 = omega arith in
    let high : rate ≤ 240 = bounds.1 in
    let most : (3600 * h + 60 * m + s) * rate ≤ 86399 * 240 = mul-le-mul count high in
    omega arith

pub timecode_below : (rate : ℕ) (word : List ℕ) → IsRate rate → IfSome (timecode rate word) (λ n. n < timecode_frames)
unfolding timecode
timecode_below rate (h ∷ o ∷ first ∷ m ∷ i ∷ second ∷ s ∷ e ∷ third ∷ digits) bounds =
    then_some (λ n. n ≤ 23) (λ n. n < timecode_frames) (pair_of 23 h o) _ (number_high 2 0 23 (h ∷ o ∷ [])) (λ hours hour.
    then_some (λ n. n ≤ 59) (λ n. n < timecode_frames) (pair_of 59 m i) _ (number_high 2 0 59 (m ∷ i ∷ [])) (λ minutes minute.
    then_some (λ n. n ≤ 59) (λ n. n < timecode_frames) (pair_of 59 s e) _ (number_high 2 0 59 (s ∷ e ∷ [])) (λ seconds second_.
    then_some (λ n. n ≤ rate - 1) (λ n. n < timecode_frames) (frames_of rate digits) _ (frames_high rate digits) (λ frames frame.
    kept_if (λ n. n < timecode_frames) ((first == 58 && second == 58) && third == 58) (Some (frame_number rate hours minutes seconds frames))
    (λ colons. frame_below rate hours minutes seconds frames bounds hour minute second_ frame)))))
timecode_below rate [] bounds = tt
timecode_below rate (a ∷ []) bounds = tt
timecode_below rate (a ∷ b ∷ []) bounds = tt
timecode_below rate (a ∷ b ∷ c ∷ []) bounds = tt
timecode_below rate (a ∷ b ∷ c ∷ d ∷ []) bounds = tt
timecode_below rate (a ∷ b ∷ c ∷ d ∷ e ∷ []) bounds = tt
timecode_below rate (a ∷ b ∷ c ∷ d ∷ e ∷ f ∷ []) bounds = tt
timecode_below rate (a ∷ b ∷ c ∷ d ∷ e ∷ f ∷ g ∷ []) bounds = tt
timecode_below rate (a ∷ b ∷ c ∷ d ∷ e ∷ f ∷ g ∷ h ∷ []) bounds = tt
