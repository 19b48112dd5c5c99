use Rattle.std.proofs.Common.{◌≡◌, ℕ, List, ◌+◌, ◌-◌, ◌*◌, ◌/◌, ◌%◌, ◌^◌, ◌≤◌, ◌∙◌, ap, drop, arith}
use Rattle.ffv1_rice.specs.Bits.{bits_of_bytes, number_at}
use Rattle.ffv1_rice.proofs.BitLemmas.{window-number, drop-more, are_bits-drop, are_bits-bytes}
use Rattle.ffv1_rice.proofs.reader.window.Goals as goal

highest_bits : (bytes : List ℕ) (p word n : ℕ) → word ≡ number_at 64 (drop (8 * (p / 8)) (bits_of_bytes bytes)) → n ≤ 57 →
    word * 2 ^ (p % 8) % 2 ^ 64 / 2 ^ (64 - n) ≡ number_at n (drop p (bits_of_bytes bytes))
highest_bits bytes p word n is h =
    let bits = bits_of_bytes bytes in
    let start = drop (8 * (p / 8)) bits in
    let r = p % 8 in
    let m = 64 - n - r in
    let e : n + m + r ≡ 64 = omega arith in
    let f : 64 - n ≡ m + r = omega arith in
    let g : 8 * (p / 8) + r ≡ p = omega arith in
    let place = drop-more (8 * (p / 8)) r bits ∙ ap (λ k. drop k bits) g in
    ap (λ x. x * 2 ^ r % 2 ^ 64 / 2 ^ (64 - n)) is
    ∙ ap (λ k. number_at 64 start * 2 ^ r % 2 ^ 64 / 2 ^ k) f
    ∙ window-number 64 n r m start (are_bits-drop (8 * (p / 8)) bits (are_bits-bytes bytes)) e
    ∙ ap (number_at n) place

pub returns : goal.returns
returns c = record {
  are_bits = are_bits-drop c.args.position (bits_of_bytes c.args.bytes.now) (are_bits-bytes c.args.bytes.now);
  highest = λ n h. highest_bits c.args.bytes.now c.args.position c.word_at-word.result n c.word_at-word.ensures h;
}
