-- What is written of an element is a spelling of it.
use Rattle.std.proofs.Common.{◌≡◌, ◌≢◌, ℕ, zero, suc, ◌+◌, ◌-◌, ◌*◌, ◌/◌, ◌%◌, ◌^◌, ◌<◌, ◌≤◌, List, length, refl, sym, ◌∙◌, append_assoc, add-one, mod-eq_of_lt, pow-suc, mul_comm, arith}
use Rattle.std.proofs.Math.Nat.{pow-le-pow_right}
use Rattle.std.proofs.Math.Arith.{mod-mul}
use Rattle.std.proofs.lemmas.Bool.{ne_eqb}
use Rattle.std.proofs.lemmas.Nat.{mod_below}
use Rattle.std.specs.Int.{byte_at, bytes_high_first}
use Rattle.std.specs.List.{fold}
use Rattle.ebml_core.specs.declared.vint.Size.TheVariants.{Known}
use Rattle.ebml_core.specs.Spelling.{unsigned_of, size_of, IsVint, IsSize, Piece, IsPiece, spelling}
use Rattle.ebml_core.proofs.Numbers.{AreBytes}
use Rattle.mkv_write.specs.File.{size, element}
use Rattle.mkv_write.proofs.Octets.{length-bytes_high_first}

-- ---- octets of a number

byte_at-below : (k n : ℕ) → byte_at k n < 256
byte_at-below zero n = mod_below n 256 (omega arith)
byte_at-below (suc k) n = mod_below (n / 256 ^ suc k) 256 (omega arith)

pub AreBytes-high_first : (k n : ℕ) → AreBytes (bytes_high_first k n)
AreBytes-high_first zero n = tt
AreBytes-high_first (suc k) n = (byte_at-below k n, AreBytes-high_first k n)

-- one more octet in front of the lowest k
octet_on : (k n high : ℕ) → (256 * high + byte_at k n) * 256 ^ k + n % 256 ^ k ≡ high * 256 ^ suc k + n % 256 ^ suc k
octet_on zero n high = omega arith
octet_on (suc k) n high =
    let unit = 256 ^ suc k in
    let wider : 256 ^ suc (suc k) ≡ 256 * unit = pow-suc 256 (suc k) ∙ mul_comm unit 256 in
    let some : 0 < unit = pow-le-pow_right {n = 256} (omega arith) {i = 0} {j = suc k} (omega arith) in
    rw (wider, mod-mul n {m = 256} {c = unit} (omega arith) some) (omega arith)

octets_read : (k n high : ℕ) → fold (λ h octet. 256 * h + octet) high (bytes_high_first k n) ≡ high * 256 ^ k + n % 256 ^ k
octets_read zero n high = omega arith
octets_read (suc k) n high = octets_read k n (256 * high + byte_at k n) ∙ octet_on k n high

pub unsigned_of-high_first : (k n : ℕ) → n < 256 ^ k → unsigned_of (bytes_high_first k n) ≡ n
unfolding unsigned_of
unsigned_of-high_first k n fits = octets_read k n 0 ∙ omega (arith, mod-eq_of_lt fits)

-- ---- numbers of variable size

marked_fits : (k : ℕ) → 1 ≤ k → k ≤ 8 → 2 ^ (7 * k + 1) ≤ 256 ^ k
marked_fits zero some most = absurd (omega arith)
marked_fits (suc zero) some most = omega arith
marked_fits (suc (suc zero)) some most = omega arith
marked_fits (suc (suc (suc zero))) some most = omega arith
marked_fits (suc (suc (suc (suc zero)))) some most = omega arith
marked_fits (suc (suc (suc (suc (suc zero))))) some most = omega arith
marked_fits (suc (suc (suc (suc (suc (suc zero)))))) some most = omega arith
marked_fits (suc (suc (suc (suc (suc (suc (suc zero))))))) some most = omega arith
marked_fits (suc (suc (suc (suc (suc (suc (suc (suc zero)))))))) some most = omega arith
marked_fits (suc (suc (suc (suc (suc (suc (suc (suc (suc k))))))))) some most = absurd (omega arith)

-- a number with its marker
pub record IsMarked (octets marked : ℕ) : Type 0 where
  pub some : 1 ≤ octets
  pub low : 2 ^ (7 * octets) ≤ marked
  pub high : marked < 2 ^ (7 * octets + 1)

marked_value : (most k n : ℕ) → most ≤ 8 → k ≤ most → IsMarked k n → unsigned_of (bytes_high_first k n) ≡ n
marked_value most k n few le h = unsigned_of-high_first k n (omega (arith, marked_fits k h.some (omega arith), h.high))

pub IsVint-high_first : (most k n : ℕ) → most ≤ 8 → k ≤ most → IsMarked k n → IsVint most (bytes_high_first k n)
IsVint-high_first most k n few le h =
    let len = length-bytes_high_first k n in
    let value = marked_value most k n few le h in
    record {
      count = omega (arith, len);
      bytes = AreBytes-high_first k n;
      marked = rw (len, value) h.low;
      filled = rw (len, value) h.high;
    }

-- what a size stands for
size_of-known : (octets : List ℕ) (k n : ℕ) → length octets ≡ k → unsigned_of octets ≡ 2 ^ (7 * k) + n → n + 1 < 2 ^ (7 * k) → size_of octets ≡ Known n
unfolding size_of
size_of-known octets k n len value fits =
    let behind : 2 ^ (7 * k) + n - 2 ^ (7 * k) ≡ n = omega arith in
    let other : n ≢ 2 ^ (7 * k) - 1 = λ e. omega arith in
    rw (len, value, behind, ne_eqb n (2 ^ (7 * k) - 1) other) refl

double : (k : ℕ) → 2 ^ (7 * k + 1) ≡ 2 * 2 ^ (7 * k)
double k = rw (add-one, pow-suc) (omega arith)

pub IsSize-size : (k n : ℕ) → 1 ≤ k → k ≤ 8 → n + 1 < 2 ^ (7 * k) → IsSize (size k n) (Known n)
unfolding size
IsSize-size k n some most fits =
    let marked : IsMarked k (2 ^ (7 * k) + n) = record { some = some; low = omega arith; high = omega (arith, double k) } in
    (IsVint-high_first 8 k (2 ^ (7 * k) + n) (omega arith) most marked, sym (size_of-known (bytes_high_first k (2 ^ (7 * k) + n)) k n (length-bytes_high_first k (2 ^ (7 * k) + n)) (marked_value 8 k (2 ^ (7 * k) + n) (omega arith) most marked) fits))

-- ---- elements

-- an element as it is written
abbrev pub written : (id_octets id size_octets : ℕ) (content : List ℕ) → Piece
written id_octets id size_octets content = record {
  id_octets = bytes_high_first id_octets id;
  size_octets = size size_octets (length content);
  id = id;
  size = Known (length content);
  content = content;
}

abbrev pub written_number : (id_octets id octets value : ℕ) → Piece
written_number id_octets id octets value = written id_octets id 1 (bytes_high_first octets value)

pub spelling-written : (id_octets id size_octets : ℕ) (content : List ℕ) → spelling (written id_octets id size_octets content) ≡ element id_octets id size_octets content
unfolding element
spelling-written id_octets id size_octets content = sym (append_assoc (bytes_high_first id_octets id) (size size_octets (length content)) content)

pub IsPiece-written : (id_octets id size_octets : ℕ) (content : List ℕ) → id_octets ≤ 4 → IsMarked id_octets id → 1 ≤ size_octets → size_octets ≤ 8 → length content + 1 < 2 ^ (7 * size_octets) → IsPiece (written id_octets id size_octets content)
IsPiece-written id_octets id size_octets content few marked some most fits = record {
  id = (IsVint-high_first 4 id_octets id (omega arith) few marked, sym (marked_value 4 id_octets id (omega arith) few marked));
  size = IsSize-size size_octets (length content) some most fits;
  content = refl;
}
