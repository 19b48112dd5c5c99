use Rattle.std.proofs.Common.{◌≡◌, ℕ, List, ◌-◌, ◌+◌, ◌*◌, ◌/◌, ◌^◌, ◌<◌, ◌≤◌, ◌∙◌, ap, sym, subst, arith}
use Rattle.std.specs.Int.Count.{count_leading_zeros}
use Rattle.tl_base.specs.Parity.{bits_of}
use Rattle.ffv1_rice.specs.Bits.{zeros_at}
use Rattle.ffv1_rice.specs.Code.{coded_at, length_at}
use Rattle.ffv1_rice.specs.Window.{IsWindow}
use Rattle.ffv1_rice.proofs.CodeLemmas.{escape-number, escape-length, prefix-leading, prefix-read, prefix-number, prefix-length, window-self}
use Rattle.ffv1_rice.proofs.code.code_of.Goals as goal

-- what is counted and read behind a prefix, over plain numbers
counted : (word prefix : ℕ) (bits : List ℕ) → IsWindow word bits → prefix ≡ word / 2 ^ 52 → 0 < prefix →
    (count_leading_zeros 32 prefix ≡ zeros_at 12 bits + 20) × (zeros_at 12 bits < 12)
counted word prefix bits is e some =
    let both = prefix-leading word bits is (subst (λ (n : ℕ). 0 < n) e some) in
    (ap (count_leading_zeros 32) e ∙ both.0, both.1)

read_length : (word k lead read : ℕ) (bits : List ℕ) → IsWindow word bits → k ≤ 8 → lead ≡ zeros_at 12 bits + 20 → zeros_at 12 bits < 12 →
    lead - 20 + 1 + k ≡ length_at k bits
read_length word k lead read bits is small e few = ap (λ l. l - 20 + 1 + k) e ∙ omega arith ∙ prefix-length k bits few

same_zeros : (lead count : ℕ) → lead ≡ count + 20 → lead - 20 ≡ count
same_zeros lead count e = omega (arith, e)

read_number : (word k lead read one : ℕ) (bits : List ℕ) → IsWindow word bits → k ≤ 8 → lead ≡ zeros_at 12 bits + 20 → zeros_at 12 bits < 12 →
    read ≡ word / 2 ^ (64 - (lead - 20 + 1 + k)) → one ≡ 2 ^ k → read + (lead - 20) * one - one ≡ coded_at k bits
read_number word k lead read one bits is small e few r o =
    let z = same_zeros lead (zeros_at 12 bits) e in
    ap (λ (a : ℕ). a + (lead - 20) * one - one) (r ∙ ap (λ (n : ℕ). word / 2 ^ (64 - (n + 1 + k))) z)
    ∙ ap (λ (n : ℕ). word / 2 ^ (64 - (zeros_at 12 bits + 1 + k)) + n * one - one) z
    ∙ ap (λ (n : ℕ). word / 2 ^ (64 - (zeros_at 12 bits + 1 + k)) + zeros_at 12 bits * n - n) o
    ∙ prefix-number word k bits is small few

enough : (word k lead read one : ℕ) (bits : List ℕ) → IsWindow word bits → k ≤ 8 → lead ≡ zeros_at 12 bits + 20 → zeros_at 12 bits < 12 →
    read ≡ word / 2 ^ (64 - (lead - 20 + 1 + k)) → one ≡ 2 ^ k → one ≤ read + (lead - 20) * one
enough word k lead read one bits is small e few r o =
    let z = same_zeros lead (zeros_at 12 bits) e in
    let same = r ∙ ap (λ (n : ℕ). word / 2 ^ (64 - (n + 1 + k))) z ∙ prefix-read word k bits is small few in
    omega (arith, same, o)

pub returns-then-prefix-eq0-clause-number : goal.returns-then-prefix-eq0-clause-number
returns-then-prefix-eq0-clause-number c bits is =
    ap (λ n. n + 11) c.highest.ensures.number ∙ escape-number c.args.word c.args.k bits is (sym c.highest-prefix.ensures.number ∙ c.if-prefix-eq0.true)

pub returns-then-prefix-eq0-clause-length : goal.returns-then-prefix-eq0-clause-length
returns-then-prefix-eq0-clause-length c bits is = escape-length c.args.word c.args.k bits is (sym c.highest-prefix.ensures.number ∙ c.if-prefix-eq0.true)

pub overflow_sub-zeros : goal.overflow_sub-zeros
overflow_sub-zeros c =
    let is = window-self c.args.word c.ranges.word.fits in
    let both = counted c.args.word c.highest-prefix.result (bits_of 64 c.args.word) is c.highest-prefix.ensures.number (omega arith) in
    omega (arith, both.0)

pub overflow_sub-result : goal.overflow_sub-result
overflow_sub-result c =
    let is = window-self c.args.word c.ranges.word.fits in
    let both = counted c.args.word c.highest-prefix.result (bits_of 64 c.args.word) is c.highest-prefix.ensures.number (omega arith) in
    enough c.args.word c.args.k (count_leading_zeros 32 c.highest-prefix.result) c.leading.result c.power-one.result (bits_of 64 c.args.word) is c.requires both.0 both.1 c.leading.ensures.number c.power-one.ensures

pub returns-clause-number : goal.returns-clause-number
returns-clause-number c bits is =
    let both = counted c.args.word c.highest-prefix.result bits is c.highest-prefix.ensures.number (omega arith) in
    read_number c.args.word c.args.k (count_leading_zeros 32 c.highest-prefix.result) c.leading.result c.power-one.result bits is c.requires both.0 both.1 c.leading.ensures.number c.power-one.ensures

pub returns-clause-length : goal.returns-clause-length
returns-clause-length c bits is =
    let both = counted c.args.word c.highest-prefix.result bits is c.highest-prefix.ensures.number (omega arith) in
    read_length c.args.word c.args.k (count_leading_zeros 32 c.highest-prefix.result) c.leading.result bits is c.requires both.0 both.1
