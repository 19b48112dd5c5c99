-- A list with others written over some of its elements.
use Rattle.std.proofs.Common.{◌≡◌, ℕ, ◌+◌, ◌-◌, ◌≤◌, List, ◌++◌, length, take, drop, refl, sym, ◌∙◌, ap, arith, length-append, length-drop}
use Rattle.std.proofs.lemmas.List.{length-take-le, take_at, drop_at, drop-drop, take-append-le, drop-append-le, take-take, drop-take}
use Rattle.pic_planes.specs.Bytes.{pasted}

pub length-pasted : (b : List ℕ) (i : ℕ) (ws : List ℕ) → i + length ws ≤ length b → length (pasted b i ws) ≡ length b
length-pasted b i ws fits =
    omega (arith, length-append (take i b) (ws ++ drop (length ws) (drop i b)), length-append ws (drop (length ws) (drop i b)), length-drop (length ws) (drop i b), length-drop i b, length-take-le i b (omega arith))

-- what stands before
pub take-pasted : (b : List ℕ) (n i : ℕ) (ws : List ℕ) → n ≤ i → i ≤ length b → take n (pasted b i ws) ≡ take n b
take-pasted b n i ws before within =
    take-append-le n (take i b) _ (omega (arith, length-take-le i b within)) ∙ take-take n i b before

pub drop-pasted : (b : List ℕ) (n i : ℕ) (ws : List ℕ) → n + i ≤ length b → drop n (pasted b (n + i) ws) ≡ pasted (drop n b) i ws
drop-pasted b n i ws within =
    drop-append-le n (take (n + i) b) _ (omega (arith, length-take-le (n + i) b within))
    ∙ ap (λ (front : List ℕ). front ++ (ws ++ drop (length ws) (drop (n + i) b))) (drop-take n i b)
    ∙ ap (λ (rest : List ℕ). take i (drop n b) ++ (ws ++ drop (length ws) rest)) (sym (drop-drop i n b))

-- what stands there, and behind it
pub take-pasted_here : (b ws : List ℕ) → take (length ws) (pasted b 0 ws) ≡ ws
take-pasted_here b ws = take_at ws (drop (length ws) b) (length ws) refl

drop-pasted_here : (b : List ℕ) (n : ℕ) (ws : List ℕ) → length ws ≤ n → drop n (pasted b 0 ws) ≡ drop n b
drop-pasted_here b n ws behind =
    let split : n ≡ length ws + (n - length ws) = omega arith in
    ap (λ k. drop k (ws ++ drop (length ws) b)) split
    ∙ sym (drop-drop (n - length ws) (length ws) (ws ++ drop (length ws) b))
    ∙ ap (drop (n - length ws)) (drop_at ws (drop (length ws) b) (length ws) refl)
    ∙ drop-drop (n - length ws) (length ws) b
    ∙ ap (λ k. drop k b) (sym split)

pub drop-pasted_behind : (b : List ℕ) (n i : ℕ) (ws : List ℕ) → i ≤ length b → i + length ws ≤ n → drop n (pasted b i ws) ≡ drop n b
drop-pasted_behind b n i ws within behind =
    let split : n ≡ i + (n - i) = omega arith in
    let here : drop i (pasted b i ws) ≡ pasted (drop i b) 0 ws = ap (λ k. drop i (pasted b k ws)) (omega arith) ∙ drop-pasted b i 0 ws (omega arith) in
    ap (λ k. drop k (pasted b i ws)) split
    ∙ sym (drop-drop (n - i) i (pasted b i ws))
    ∙ ap (drop (n - i)) here
    ∙ drop-pasted_here (drop i b) (n - i) ws (omega arith)
    ∙ drop-drop (n - i) i b
    ∙ ap (λ k. drop k b) (sym split)
