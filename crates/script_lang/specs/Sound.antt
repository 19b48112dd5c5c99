-- Which lines are sound, and what a text says as one.
use Rattle.std.specs.Prelude.{ℕ, ◌^◌, Bool, true, ◌&&◌, nat_lt, if◌then◌else◌, List, [], ◌∷◌, Option, Some, None}
use Rattle.std.specs.List.{list_all}
use Rattle.std.specs.Str.{bytes_eq}
use Rattle.std.specs.Str.Lines.{lines}
use Rattle.text_words.specs.Blanks.{words}
use Rattle.text_words.specs.declared.blanks.Blanks.TheVariants.{SpaceTabReturn}
use Rattle.script_lang.specs.declared.out_line.OutLine.{OutLine}
use Rattle.script_lang.specs.Line.{Field, Fixed, Number, Listed, Named, fields, is_one_of, is_name, line_text}
use Rattle.script_lang.specs.Parsed.{◌>>=◌, parsed}

abbrev pub is_sound_field : Field → Bool
is_sound_field (Listed words word) = is_one_of words word
is_sound_field (Named name) = is_name name
is_sound_field field = true

-- Its names are single words, and each of its words that says why or of what kind is in its list.
abbrev pub is_sound : OutLine → Bool
is_sound line = list_all is_sound_field (fields line)

abbrev pub fits_field : Field → Bool
fits_field (Number bits n) = nat_lt n (2 ^ bits)
fits_field field = true

-- Each of its numbers has its bits.
abbrev pub fits : OutLine → Bool
fits line = list_all fits_field (fields line)

-- What the first line of a text can be.
unfoldable pub found_in : List (List ℕ) → Option OutLine
found_in [] = None
found_in (first ∷ more) = parsed (words SpaceTabReturn first)

abbrev pub found : List ℕ → Option OutLine
found text = found_in (lines text)

-- A line that is sound and spelled as the text.
abbrev pub verified : (text : List ℕ) → OutLine → Option OutLine
verified text line = if is_sound line && bytes_eq (line_text line) text then Some line else None

unfoldable pub read_text : List ℕ → Option OutLine
read_text text = do
  line ← found text
  verified text line
