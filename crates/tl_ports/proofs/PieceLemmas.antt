-- Pieces that lie one after the other are cut where they end.
use Rattle.std.proofs.Common.{◌≡◌, ℕ, ◌+◌, ◌-◌, ◌≤◌, List, [], ◌∷◌, ◌++◌, length, take, drop, sum, refl, sym, ap, ◌∙◌, arith}
use Rattle.std.specs.List.{concat}
use Rattle.std.proofs.lemmas.List.{take_all, take-append-le, drop-append-le, take-append-drop, length-append, length-drop}
use Rattle.std.proofs.lemmas.List.Sums.{sum_by-cons}
use Rattle.tl_ports.specs.Pieces.{cut}

sum-cons : (n : ℕ) (lens : List ℕ) → sum (n ∷ lens) ≡ n + sum lens
sum-cons n lens = sum_by-cons (λ (x : ℕ). x) n lens

-- One more piece at the end.
cut-append : (bytes lens piece : List ℕ) → sum lens ≡ length bytes → cut (bytes ++ piece) (lens ++ length piece ∷ []) ≡ cut bytes lens ++ piece ∷ []
cut-append [] [] piece whole = ap (λ (p : List ℕ). p ∷ []) (take_all (length piece) piece (omega arith))
cut-append (byte ∷ bytes) [] piece whole = absurd (omega arith)
cut-append bytes (n ∷ lens) piece whole =
    let all : n + sum lens ≡ length bytes = sym (sum-cons n lens) ∙ whole in
    let fits : n ≤ length bytes = omega (arith, all) in
    let rest : sum lens ≡ length (drop n bytes) = omega (arith, all, length-drop n bytes) in
    ap (λ (p : List ℕ). p ∷ cut (drop n (bytes ++ piece)) (lens ++ length piece ∷ [])) (take-append-le n bytes piece fits)
    ∙ ap (λ (b : List ℕ). take n bytes ∷ cut b (lens ++ length piece ∷ [])) (drop-append-le n bytes piece fits)
    ∙ ap (λ (ps : List (List ℕ)). take n bytes ∷ ps) (cut-append (drop n bytes) lens piece rest)

-- The same, by what the bytes and the lengths became.
pub cut-added : (before after lens more piece : List ℕ) (n : ℕ) → sum lens ≡ length before → after ≡ before ++ piece → more ≡ lens ++ n ∷ [] → n ≡ length after - length before
    → cut after more ≡ cut before lens ++ piece ∷ []
cut-added before after lens more piece n whole bytes_are lens_are n_is =
    let len : n ≡ length piece = omega (arith, n_is, ap length bytes_are, length-append before piece) in
    ap (λ (b : List ℕ). cut b more) bytes_are ∙ ap (cut (before ++ piece)) (lens_are ∙ ap (λ (m : ℕ). lens ++ m ∷ []) len) ∙ cut-append before lens piece whole

-- All pieces together.
pub concat-cut : (bytes lens : List ℕ) → sum lens ≡ length bytes → concat (cut bytes lens) ≡ bytes
concat-cut [] [] whole = refl
concat-cut (byte ∷ bytes) [] whole = absurd (omega arith)
concat-cut bytes (n ∷ lens) whole =
    ap (λ (rest : List ℕ). take n bytes ++ rest) (concat-cut (drop n bytes) lens (omega (arith, sym (sum-cons n lens) ∙ whole, length-drop n bytes))) ∙ take-append-drop n bytes
