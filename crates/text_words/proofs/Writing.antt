-- A number is written digit by digit.
use Rattle.std.proofs.Common.{◌≡◌, ℕ, zero, suc, ◌+◌, ◌-◌, ◌/◌, ◌%◌, ◌<◌, ◌≤◌, List, [], ◌∷◌, ◌++◌, length, max, refl, sym, ap, ◌∙◌, append_assoc, append-nil, arith, lit≤}
use Rattle.std.specs.Int.Digits.{digits_of}
use Rattle.std.proofs.lemmas.Int.Digits.{length-digits_of_step}
use Rattle.text_words.specs.Number.{last_digits, number_text}

places_step : (least number : ℕ) → 0 < least + number → max least (length (digits_of 10 number)) ≡ suc (max (least - 1) (length (digits_of 10 (number / 10))))
places_step least zero some = omega arith
places_step least (suc n) some = omega (arith, length-digits_of_step 10 (suc n) (lit≤ tt) (omega arith))

-- the last digit by itself
pub number_text-step : (least number : ℕ) → 0 < least + number → number_text least number ≡ number_text (least - 1) (number / 10) ++ (48 + number % 10) ∷ []
unfolding number_text last_digits
number_text-step least number some = rw (places_step least number some) refl

pub number_text-zero : number_text 0 0 ≡ []
unfolding number_text last_digits
number_text-zero = refl

-- a step of writing it, and writing nothing
pub put_step : (out new all : List ℕ) (least number rest : ℕ) → 0 < least + number → rest ≡ least - 1 → new ≡ out ++ number_text rest (number / 10) → all ≡ new ++ (48 + number % 10) ∷ [] → all ≡ out ++ number_text least number
put_step out new all least number rest some e f g =
    g ∙ ap (λ xs. xs ++ (48 + number % 10) ∷ []) (f ∙ ap (λ k. out ++ number_text k (number / 10)) e)
    ∙ append_assoc out (number_text (least - 1) (number / 10)) ((48 + number % 10) ∷ []) ∙ ap (λ xs. out ++ xs) (sym (number_text-step least number some))

pub put_none : (out : List ℕ) (least number : ℕ) → least ≤ 0 → number ≤ 0 → out ≡ out ++ number_text least number
unfolding number_text last_digits
put_none out zero zero h i = sym (append-nil out)
put_none out (suc k) number h i = absurd (omega arith)
put_none out zero (suc k) h i = absurd (omega arith)
