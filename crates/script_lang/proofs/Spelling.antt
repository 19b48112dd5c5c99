-- Words that are put one after another.
use Rattle.std.proofs.Common.{◌≡◌, ℕ, List, [], ◌∷◌, ◌++◌, map, flat_map, length, take, refl, ap, sym, ◌∙◌, append_assoc, arith, codes, decimal}
use Rattle.text_words.specs.Number.{Extends}
use Rattle.script_lang.specs.declared.words.Word.{Word}
use Rattle.script_lang.specs.declared.out_line.OutLine.{OutLine}
use Rattle.script_lang.specs.declared.out_line.OutLine.TheVariants as out
use Rattle.script_lang.specs.Line.{fields, joined, words_of}
use Rattle.script_lang.specs.Word.{spelled}

pub more_spelled : (words : List Word) → flat_map (λ next. 32 ∷ next) (map spelled words) ≡ flat_map (λ word. 32 ∷ spelled word) words
more_spelled [] = refl
more_spelled (word ∷ more) = ap (λ rest. (32 ∷ spelled word) ++ rest) (more_spelled more)

take_front : (old more : List ℕ) → take (length old) (old ++ more) ≡ old
take_front [] more = refl
take_front (x ∷ old) more = ap (λ rest. x ∷ rest) (take_front old more)

-- a list that has grown has its beginning
pub take_before : (old new : List ℕ) → Extends old new → take (length old) new ≡ old
take_before old new e = rw (e.whole) (take_front old e.more)

-- a list that has grown by some bytes, then by a blank, and then by more
pub extends_after : (old before blank new some : List ℕ) → before ≡ old ++ some → blank ≡ before ++ 32 ∷ []
    → Extends blank new → Extends old new
extends_after old before blank new some e f h = record {
  more = some ++ 32 ∷ h.more;
  whole = h.whole ∙ ap (λ xs. xs ++ h.more) (f ∙ ap (λ xs. xs ++ 32 ∷ []) e) ∙ append_assoc (old ++ some) (32 ∷ []) h.more
      ∙ append_assoc old some (32 ∷ h.more);
}

-- a list that has grown by a byte, and then by more
pub extends_one : (old before new : List ℕ) (byte : ℕ) → before ≡ old ++ byte ∷ [] → Extends before new → Extends old new
extends_one old before new byte e h = record {
  more = byte ∷ h.more;
  whole = h.whole ∙ ap (λ xs. xs ++ h.more) e ∙ append_assoc old (byte ∷ []) h.more;
}

-- the line of a faulty record
pub record_line : (line : OutLine) (n : ℕ) (kind a b : List ℕ) → line ≡ out.FaultRecord n kind → a ≡ decimal n → b ≡ kind
    → joined (codes "fault line" ∷ a ∷ codes "record" ∷ b ∷ []) ≡ joined (words_of line)
unfolding fields joined
record_line line n kind a b e f g = rw (e, f, g) refl
