-- A variable size integer that is read is one, and one that stands at the front is read.
use Rattle.std.proofs.Common.{◌≡◌, ℕ, zero, suc, ◌+◌, ◌-◌, ◌*◌, ◌^◌, ◌<◌, ◌≤◌, Bool, cond, ltb, true, false, List, [], ◌∷◌, ◌++◌, length, take, drop, Result, Ok, Err, refl, sym, ap, subst, ◌∙◌, add-one, inl, inr, arith}
use Rattle.std.proofs.Math.Nat.{pow-suc, mul-le-mul_left}
use Rattle.std.proofs.lemmas.Bool.{cases_lt, le-ltb, ltb-false}
use Rattle.std.proofs.lemmas.Bool.Decides.{nat_tests}
use Rattle.std.proofs.lemmas.List.{length-append, length-take-le, take_at, take-append-drop}
use Rattle.ebml_core.specs.declared.vint.VintFault.{VintFault}
use Rattle.ebml_core.specs.declared.vint.VintFault.TheVariants.{Short, BadVint}
use Rattle.ebml_core.specs.Spelling.{unsigned_of, IsVint}
use Rattle.ebml_core.specs.Reading.{octet_count, vint_at}
use Rattle.ebml_core.proofs.Numbers.{AreBytes, AreBytes-take, unsigned_of-cons, unsigned_of-below}

-- The first octet of so many lies between two powers of 2.
pub record IsFirst (first count : ℕ) : Type 0 where
  pub low : 2 ^ (8 - count) ≤ first
  pub high : first < 2 * 2 ^ (8 - count)

-- the range of the first octet tells how many there are
octet_count-of : (first count : ℕ) → 1 ≤ count → count ≤ 8 → IsFirst first count → octet_count first ≡ count
unfolding octet_count
octet_count-of first zero some most h = absurd (omega arith)
octet_count-of first (suc zero) some most h = grind (arith, nat_tests, h.low, h.high)
octet_count-of first (suc (suc zero)) some most h = grind (arith, nat_tests, h.low, h.high)
octet_count-of first (suc (suc (suc zero))) some most h = grind (arith, nat_tests, h.low, h.high)
octet_count-of first (suc (suc (suc (suc zero)))) some most h = grind (arith, nat_tests, h.low, h.high)
octet_count-of first (suc (suc (suc (suc (suc zero))))) some most h = grind (arith, nat_tests, h.low, h.high)
octet_count-of first (suc (suc (suc (suc (suc (suc zero)))))) some most h = grind (arith, nat_tests, h.low, h.high)
octet_count-of first (suc (suc (suc (suc (suc (suc (suc zero))))))) some most h = grind (arith, nat_tests, h.low, h.high)
octet_count-of first (suc (suc (suc (suc (suc (suc (suc (suc zero)))))))) some most h = grind (arith, nat_tests, h.low, h.high)
octet_count-of first (suc (suc (suc (suc (suc (suc (suc (suc (suc count))))))))) some most h = absurd (omega arith)

-- how many octets there are where one that isn't 0 is the first
pub record Counts (first : ℕ) : Type 0 where
  pub count : ℕ
  pub some : 1 ≤ count
  pub most : count ≤ 8
  pub first_is : IsFirst first count

counted : (first : ℕ) → 1 ≤ first → first < 256 → Counts first
counted first some fits =
    elim (cases_lt first 128) [
      | inr high ↦ record { count = 1; some = omega arith; most = omega arith; first_is = record { low = high; high = fits } }
      | inl below ↦ elim (cases_lt first 64) [
        | inr high ↦ record { count = 2; some = omega arith; most = omega arith; first_is = record { low = high; high = below } }
        | inl below2 ↦ elim (cases_lt first 32) [
          | inr high ↦ record { count = 3; some = omega arith; most = omega arith; first_is = record { low = high; high = below2 } }
          | inl below3 ↦ elim (cases_lt first 16) [
            | inr high ↦ record { count = 4; some = omega arith; most = omega arith; first_is = record { low = high; high = below3 } }
            | inl below4 ↦ elim (cases_lt first 8) [
              | inr high ↦ record { count = 5; some = omega arith; most = omega arith; first_is = record { low = high; high = below4 } }
              | inl below5 ↦ elim (cases_lt first 4) [
                | inr high ↦ record { count = 6; some = omega arith; most = omega arith; first_is = record { low = high; high = below5 } }
                | inl below6 ↦ elim (cases_lt first 2) [
                  | inr high ↦ record { count = 7; some = omega arith; most = omega arith; first_is = record { low = high; high = below6 } }
                  | inl below7 ↦ record { count = 8; some = omega arith; most = omega arith; first_is = record { low = some; high = below7 } }
                ]
              ]
            ]
          ]
        ]
      ]
    ]

-- the marker's weight, by that of the octets behind the first
powers : (count : ℕ) → count ≤ 7 → 2 ^ (7 * suc count) ≡ 256 ^ count * 2 ^ (8 - suc count)
powers zero most = refl
powers (suc zero) most = refl
powers (suc (suc zero)) most = refl
powers (suc (suc (suc zero))) most = refl
powers (suc (suc (suc (suc zero)))) most = refl
powers (suc (suc (suc (suc (suc zero))))) most = refl
powers (suc (suc (suc (suc (suc (suc zero)))))) most = refl
powers (suc (suc (suc (suc (suc (suc (suc zero))))))) most = refl
powers (suc (suc (suc (suc (suc (suc (suc (suc count)))))))) most = absurd (omega arith)

pow_double : (n : ℕ) → 2 ^ (n + 1) ≡ 2 * 2 ^ n
pow_double n = rw (add-one, pow-suc) (omega arith)

-- the first octet's range is the number's
vint-from_first : (most first : ℕ) (tail : List ℕ) → AreBytes (first ∷ tail) → length tail ≤ 7 → suc (length tail) ≤ most → IsFirst first (suc (length tail)) → IsVint most (first ∷ tail)
vint-from_first most first tail fits short le h =
    let n = length tail in
    let u = unsigned_of tail in
    let number = unsigned_of-cons first tail in
    let rest : u < 256 ^ n = unsigned_of-below tail fits.1 in
    let weight = powers n short in
    let low : 256 ^ n * 2 ^ (8 - suc n) ≤ 256 ^ n * first = mul-le-mul_left (256 ^ n) h.low in
    let high : 256 ^ n * suc first ≤ 256 ^ n * (2 * 2 ^ (8 - suc n)) = mul-le-mul_left (256 ^ n) h.high in
    record {
      count = le;
      bytes = fits;
      marked = omega (arith, number, rest, weight, low);
      filled = rw (pow_double (7 * suc n)) (omega (arith, number, rest, weight, high));
    }

first-from_vint : (most first : ℕ) (tail : List ℕ) → most ≤ 8 → IsVint most (first ∷ tail) → IsFirst first (suc (length tail))
first-from_vint most first tail le v =
    let n = length tail in
    let p = 2 ^ (8 - suc n) in
    let number = unsigned_of-cons first tail in
    let rest : unsigned_of tail < 256 ^ n = unsigned_of-below tail v.bytes.1 in
    let weight = powers n (omega (arith, v.count)) in
    let filled : unsigned_of (first ∷ tail) < 2 * 2 ^ (7 * suc n) = rw (← pow_double (7 * suc n)) v.filled in
    record {
      low = elim (cases_lt first p) [
        | inr low ↦ low
        | inl below ↦
            let over : 256 ^ n * suc first ≤ 256 ^ n * p = mul-le-mul_left (256 ^ n) below in
            absurd (omega (arith, number, rest, weight, over, v.marked))
      ];
      high = elim (cases_lt first (2 * p)) [
        | inl high ↦ high
        | inr above ↦
            let under : 256 ^ n * (2 * p) ≤ 256 ^ n * first = mul-le-mul_left (256 ^ n) above in
            absurd (omega (arith, number, weight, under, filled))
      ];
    }

abbrev pub ok : List ℕ → Result (List ℕ) VintFault
ok octets = Ok octets

-- a test that let pass
pub passed : {A : Type 0} (b : Bool) (fault : VintFault) (r : Result A VintFault) (x : A) → cond b (Err fault) r ≡ Ok x → (b ≡ false) × (r ≡ Ok x)
passed true fault r x e = absurd cc
passed false fault r x e = (refl, e)

pub ok_is : (x y : List ℕ) → ok x ≡ ok y → x ≡ y
ok_is x y e = cc

-- What was read is a variable size integer at the front.
pub record TakesVint (most : ℕ) (bytes octets : List ℕ) : Type 0 where
  pub vint : IsVint most octets
  pub front : octets ≡ take (length octets) bytes
  pub long : length octets ≤ length bytes
  pub some : 1 ≤ length octets

vint_takes-at : (most count first : ℕ) (rest : List ℕ) → most ≤ 8 → AreBytes (first ∷ take count rest) → IsFirst first (suc count) → suc count ≤ most → suc count ≤ suc (length rest) → TakesVint most (first ∷ rest) (first ∷ take count rest)
vint_takes-at most count first rest le fits h few long =
    let len : length (take count rest) ≡ count = length-take-le count rest (omega arith) in
    let h' : IsFirst first (suc (length (take count rest))) = rw len h in
    record {
      vint = vint-from_first most first (take count rest) fits (omega (arith, len)) (omega (arith, len)) h';
      front = ap (λ (n : ℕ). first ∷ take n rest) (sym len);
      long = omega (arith, len);
      some = omega arith;
    }

-- Octets that are read are some of the text's.
pub vint_at-octets : (most : ℕ) (text octets : List ℕ) → vint_at most text ≡ Ok octets → (n : ℕ) × (take n text ≡ octets)
unfolding vint_at
vint_at-octets most [] octets e = absurd cc
vint_at-octets most (first ∷ rest) octets e =
    let a = passed (ltb most (octet_count first)) BadVint _ octets e in
    let b = passed (ltb (suc (length rest)) (octet_count first)) Short (Ok (take (octet_count first) (first ∷ rest))) octets a.1 in
    (octet_count first, ok_is _ octets b.1)

first_fits : (count first : ℕ) (rest : List ℕ) → 1 ≤ count → AreBytes (take count (first ∷ rest)) → first < 256
first_fits zero first rest some fits = absurd (omega arith)
first_fits (suc count) first rest some fits = fits.0

pub octet_count-some : (first : ℕ) → 1 ≤ octet_count first
unfolding octet_count
octet_count-some first = grind (arith, nat_tests)

-- What is read of bytes is a variable size integer; so it is where only the octets that are read are known to be bytes.
pub vint_takes : (most : ℕ) (text octets : List ℕ) → most ≤ 8 → AreBytes octets → vint_at most text ≡ Ok octets → TakesVint most text octets
unfolding vint_at octet_count
vint_takes most [] octets le fits e = absurd cc
vint_takes most (zero ∷ rest) octets le fits e =
    let a = passed (ltb most 9) BadVint _ octets e in
    absurd (omega (arith, ltb-false most 9 a.0))
vint_takes most (suc low ∷ rest) octets le fits e =
    let first = suc low in
    let a = passed (ltb most (octet_count first)) BadVint _ octets e in
    let b = passed (ltb (suc (length rest)) (octet_count first)) Short (Ok (take (octet_count first) (first ∷ rest))) octets a.1 in
    let read : AreBytes (take (octet_count first) (first ∷ rest)) = subst AreBytes (sym (ok_is _ octets b.1)) fits in
    let k = counted first (omega arith) (first_fits (octet_count first) first rest (octet_count-some first) read) in
    let n = k.count - 1 in
    let counts : octet_count first ≡ suc n = octet_count-of first k.count k.some k.most k.first_is ∙ omega (arith, k.some) in
    let few = ltb-false most (octet_count first) a.0 in
    let long = ltb-false (suc (length rest)) (octet_count first) b.0 in
    let h : IsFirst first (suc n) = subst (λ (m : ℕ). IsFirst first m) (omega (arith, k.some)) k.first_is in
    let octets_are : first ∷ take n rest ≡ octets = ap (λ (m : ℕ). take m (first ∷ rest)) (sym counts) ∙ ok_is _ octets b.1 in
    subst (λ (x : List ℕ). TakesVint most (first ∷ rest) x) octets_are (vint_takes-at most n first rest le (subst AreBytes (sym octets_are) fits) h (omega (arith, few, counts)) (omega (arith, long, counts)))

-- So it is where the whole text is known to be bytes.
pub vint_takes-bytes : (most : ℕ) (text octets : List ℕ) → most ≤ 8 → AreBytes text → vint_at most text ≡ Ok octets → TakesVint most text octets
vint_takes-bytes most text octets le fits e =
    let some = vint_at-octets most text octets e in
    vint_takes most text octets le (subst AreBytes some.1 (AreBytes-take some.0 text fits)) e

pub vint_again : (most : ℕ) (octets rest : List ℕ) → most ≤ 8 → IsVint most octets → vint_at most (octets ++ rest) ≡ Ok octets
unfolding vint_at unsigned_of
vint_again most [] rest le v = absurd (omega (arith, v.marked))
vint_again most (first ∷ tail) rest le v =
    let count : octet_count first ≡ suc (length tail) = octet_count-of first (suc (length tail)) (omega arith) (omega (arith, v.count)) (first-from_vint most first tail le v) in
    let allowed : ltb most (octet_count first) ≡ false = le-ltb _ _ (omega (arith, v.count)) in
    let long : ltb (suc (length (tail ++ rest))) (octet_count first) ≡ false = le-ltb _ _ (omega (arith, length-append tail rest)) in
    rw (allowed, long, count, take_at tail rest (length tail) refl) refl

-- Where nothing is read, no front of the text is a variable size integer.
pub vint_none : (most : ℕ) (text : List ℕ) (fault : VintFault) (len : ℕ) → most ≤ 8 → vint_at most text ≡ Err fault → IsVint most (take len text) → ⊥
vint_none most text fault len le failed v =
    ok_err (take len text) fault (sym (vint_again most (take len text) (drop len text) le v) ∙ ap (vint_at most) (take-append-drop len text) ∙ failed)
  where
    ok_err : (octets : List ℕ) (fault : VintFault) → ok octets ≡ Err fault → ⊥
    ok_err octets fault e = cc
