-- Prefixes of a list that grows at its end.
use Rattle.std.proofs.Common.{◌≡◌, ℕ, List, [], ◌++◌, take, drop, sym, ap, ◌∙◌, append_assoc}
use Rattle.std.proofs.lemmas.List.{append-nil, take-append-drop}
use Rattle.mkv_write.specs.Writing.{IsPrefix}

pub prefix_same : (prefix whole : List ℕ) → prefix ≡ whole → IsPrefix prefix whole
prefix_same prefix whole e = ([], sym (append-nil whole) ∙ ap (λ (x : List ℕ). x ++ []) (sym e))

-- what comes after changes nothing
pub prefix_append : (prefix whole more : List ℕ) → IsPrefix prefix whole → IsPrefix prefix (whole ++ more)
prefix_append prefix whole more h =
    (h.0 ++ more, ap (λ (x : List ℕ). x ++ more) h.1 ∙ append_assoc prefix h.0 more)

-- a part of a piece was added
pub prefix_take : (before piece after : List ℕ) (count : ℕ) → after ≡ before ++ take count piece → IsPrefix after (before ++ piece)
prefix_take before piece after count e = (
  drop count piece,
  ap (λ (x : List ℕ). before ++ x) (sym (take-append-drop count piece)) ∙ sym (append_assoc before (take count piece) (drop count piece)) ∙ ap (λ (x : List ℕ). x ++ drop count piece) (sym e),
)

-- of two pieces a part of the first was added
pub prefix_first : (before first second after : List ℕ) → IsPrefix after (before ++ first) → IsPrefix after (before ++ (first ++ second))
prefix_first before first second after h =
    let more = prefix_append after (before ++ first) second h in
    (more.0, sym (append_assoc before first second) ∙ more.1)

pub prefix_trans : (a b c : List ℕ) → IsPrefix a b → IsPrefix b c → IsPrefix a c
prefix_trans a b c first second =
    (first.0 ++ second.0, second.1 ∙ ap (λ (x : List ℕ). x ++ second.0) first.1 ∙ append_assoc a first.0 second.0)

-- behind a common front
pub prefix_under : (front a b : List ℕ) → IsPrefix a b → IsPrefix (front ++ a) (front ++ b)
prefix_under front a b h =
    (h.0, ap (λ (x : List ℕ). front ++ x) h.1 ∙ sym (append_assoc front a h.0))
