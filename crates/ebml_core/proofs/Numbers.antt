-- What octets stand for, and what the first of them tells.
use Rattle.std.proofs.Common.{◌≡◌, ℕ, zero, suc, ◌+◌, ◌*◌, ◌^◌, ◌<◌, ◌≤◌, List, [], ◌∷◌, length, take, drop, get_or, ◌∙◌, arith}
use Rattle.std.specs.List.{fold, AllByRecursion}
use Rattle.std.proofs.Math.Nat.{pow-suc, mul-le-mul_left}
use Rattle.ebml_core.specs.Spelling.{unsigned_of}

abbrev pub AreBytes : List ℕ → Type 0
AreBytes bytes = AllByRecursion (λ byte. byte < 256) bytes

-- the bytes of the code, whose range is known place by place
pub AreBytes-from_places : (bytes : List ℕ) → ((i : ℕ) → get_or bytes i 0 < 256) → AreBytes bytes
AreBytes-from_places [] fits = tt
AreBytes-from_places (byte ∷ bytes) fits = (fits 0, AreBytes-from_places bytes (λ i. fits (suc i)))

abbrev from_on : ℕ → List ℕ → ℕ
from_on n octets = fold (λ n octet. 256 * n + octet) n octets

from_on-cons : (n : ℕ) (octets : List ℕ) → from_on n octets ≡ n * 256 ^ length octets + from_on 0 octets
from_on-cons n [] = omega arith
from_on-cons n (octet ∷ octets) =
    let this = from_on-cons (256 * n + octet) octets in
    let zeroth = from_on-cons (256 * 0 + octet) octets in
    rw pow-suc (omega (arith, this, zeroth))

pub unsigned_of-cons : (octet : ℕ) (octets : List ℕ) → unsigned_of (octet ∷ octets) ≡ octet * 256 ^ length octets + unsigned_of octets
unfolding unsigned_of
unsigned_of-cons octet octets = from_on-cons (256 * 0 + octet) octets ∙ omega arith

pub unsigned_of-below : (octets : List ℕ) → AreBytes octets → unsigned_of octets < 256 ^ length octets
unfolding unsigned_of
unsigned_of-below [] fits = omega arith
unsigned_of-below (octet ∷ octets) fits =
    let rest = unsigned_of-below octets fits.1 in
    let first : 256 ^ length octets * suc octet ≤ 256 ^ length octets * 256 = mul-le-mul_left (256 ^ length octets) (omega (arith, fits.0)) in
    rw (unsigned_of-cons octet octets, pow-suc 256 (length octets)) (omega (arith, rest, first))

pub AreBytes-take : (n : ℕ) (bytes : List ℕ) → AreBytes bytes → AreBytes (take n bytes)
AreBytes-take zero bytes fits = tt
AreBytes-take (suc n) [] fits = tt
AreBytes-take (suc n) (byte ∷ bytes) fits = (fits.0, AreBytes-take n bytes fits.1)

pub AreBytes-drop : (n : ℕ) (bytes : List ℕ) → AreBytes bytes → AreBytes (drop n bytes)
AreBytes-drop zero bytes fits = fits
AreBytes-drop (suc n) [] fits = tt
AreBytes-drop (suc n) (byte ∷ bytes) fits = AreBytes-drop n bytes fits.1
