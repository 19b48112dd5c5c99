-- What is written is read back.
use Rattle.std.specs.Prelude.{◌≡◌, ℕ, ◌+◌, ◌*◌, ◌<◌, ◌≤◌, ◌^◌, IsTrue, Bool, ◌&&◌, not, ◌==◌, List, [], ◌∷◌, ◌++◌, length, Some}
use Rattle.std.specs.List.{list_all}
use Rattle.std.specs.Str.Lines.{lines}
use Rattle.tl_limits.specs.Limits.{IsRate}
use Rattle.text_words.specs.declared.blanks.Blanks.{Blanks}
use Rattle.text_words.specs.Blanks.{is_blank, words}
use Rattle.text_words.specs.Number.{number, number_text}
use Rattle.text_words.specs.Timecode.{timecode, timecode_text}

-- It has neither line feed nor carriage return.
abbrev pub is_line : List ℕ → Bool
is_line text = list_all (λ byte. not (byte == 10) && not (byte == 13)) text

abbrev pub LinesReadBack : Type 0
LinesReadBack = (line rest : List ℕ) → IsTrue (is_line line) → lines (line ++ 10 ∷ rest) ≡ line ∷ lines rest

-- It isn't empty, and has no blank.
abbrev pub is_word : Blanks → List ℕ → Bool
is_word blanks word = not (length word == 0) && list_all (λ byte. not (is_blank blanks byte)) word

pub record WordsReadBack : Type 0 where
  pub one : (blanks : Blanks) (word rest : List ℕ) (byte : ℕ) → IsTrue (is_word blanks word) → IsTrue (is_blank blanks byte)
      → words blanks (word ++ byte ∷ rest) ≡ word ∷ words blanks rest
  pub last : (blanks : Blanks) (word : List ℕ) → IsTrue (is_word blanks word) → words blanks word ≡ word ∷ []
  pub blank : (blanks : Blanks) (rest : List ℕ) (byte : ℕ) → IsTrue (is_blank blanks byte) → words blanks (byte ∷ rest) ≡ words blanks rest

abbrev pub NumbersReadBack : Type 0
NumbersReadBack = (most least low high n : ℕ) → 1 ≤ least → least ≤ most → n < 10 ^ most → low ≤ n → n ≤ high
    → number most low high (number_text least n) ≡ Some n

abbrev pub TimecodesReadBack : Type 0
TimecodesReadBack = (rate frame : ℕ) → IsRate rate → frame < 86400 * rate → timecode rate (timecode_text rate frame) ≡ Some frame

-- A text has at most one line more than it has bytes.
abbrev pub LinesAreFew : Type 0
LinesAreFew = (text : List ℕ) → length (lines text) ≤ length text + 1
