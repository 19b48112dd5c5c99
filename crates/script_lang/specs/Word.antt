-- What the code has of a line before it is put.
use Rattle.std.specs.Prelude.{ℕ, ℤ, List, [], ◌∷◌, decimal}
use Rattle.script_lang.specs.declared.words.Shape.{Shape}
use Rattle.script_lang.specs.declared.words.Shape.TheVariants.{Plain, One, Two, Three, Four, Six}
use Rattle.script_lang.specs.declared.words.Word.{Word}
use Rattle.script_lang.specs.declared.words.Word.TheVariants.{Text, Number, Digits, Signed}
use Rattle.script_lang.specs.Writing.{digits, signed_digits}

abbrev pub spelled : Word → List ℕ
spelled (Text text) = text.now
spelled (Number n) = decimal n
spelled (Digits n) = digits n
spelled (Signed by) = signed_digits by

abbrev pub shape_words : Shape → List (List ℕ)
shape_words (Plain text) = text.now ∷ []
shape_words (One first a) = first.now ∷ spelled a ∷ []
shape_words (Two first a b) = first.now ∷ spelled a ∷ spelled b ∷ []
shape_words (Three first a b c) = first.now ∷ spelled a ∷ spelled b ∷ spelled c ∷ []
shape_words (Four first a b c d) = first.now ∷ spelled a ∷ spelled b ∷ spelled c ∷ spelled d ∷ []
shape_words (Six first a b c d e f) = first.now ∷ spelled a ∷ spelled b ∷ spelled c ∷ spelled d ∷ spelled e ∷ spelled f ∷ []
