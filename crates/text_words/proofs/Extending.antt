-- Lists that grow at their end.
use Rattle.std.proofs.Common.{◌≡◌, ℕ, List, ◌++◌, append_assoc, ◌∙◌, ap}
use Rattle.text_words.specs.Number.{Extends}

pub extends_by : (old new more : List ℕ) → new ≡ old ++ more → Extends old new
extends_by old new more e = record { more = more; whole = e }

pub extends_trans : (a b c : List ℕ) → Extends a b → Extends b c → Extends a c
extends_trans a b c p q = record { more = p.more ++ q.more; whole = q.whole ∙ ap (λ xs. xs ++ q.more) p.whole ∙ append_assoc a p.more q.more }
