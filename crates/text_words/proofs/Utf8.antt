-- What is read as text is UTF-8 by the test that computes.
use Rattle.std.proofs.Common.{◌≡◌, ℕ, List, Bool, true, false, Some, None, Result, Ok, Err, is_ok, MatchResult, refl, sym}
use Rattle.std.specs.Str.{IsUtf8, is_utf8}
use Rattle.std.proofs.lemmas.Str.{IsUtf8-from_is_utf8, is_utf8-from_IsUtf8}
use Rattle.text_words.specs.Blanks.{text}

-- text stays
pub text-utf8 : (word : List ℕ) → IsUtf8 word → Some word ≡ text word
unfolding text
text-utf8 word h = rw (is_utf8-from_IsUtf8 word h) refl

tested : (word : List ℕ) (b : Bool) → is_utf8 word ≡ b → (IsUtf8 word → ⊥) → b ≡ false
tested word true e h = absurd (h (IsUtf8-from_is_utf8 word e))
tested word false e h = refl

-- other bytes are no text
pub text-other : (word : List ℕ) → (IsUtf8 word → ⊥) → None ≡ text word
unfolding text
text-other word h = rw (tested word (is_utf8 word) refl h) refl

pub tested_by : {A E : Type 0} (P : A → Type 0) (Q : E → Type 0) (word : List ℕ) (r : Result A E) → MatchResult r (λ s. P s × IsUtf8 word) (λ e. ¬ (IsUtf8 word) × Q e) → is_ok r ≡ is_utf8 word
tested_by P Q word (Ok s) h = sym (is_utf8-from_IsUtf8 word h.1)
tested_by P Q word (Err e) h = sym (tested word (is_utf8 word) refl h.0)
