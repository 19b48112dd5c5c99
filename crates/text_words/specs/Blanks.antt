-- Words: what stands between the blanks of a line.
use Rattle.std.specs.Prelude.{ℕ, Bool, ◌||◌, not, ◌==◌, if◌then◌else◌, List, [], ◌∷◌, length, filter, Option, Some, None}
use Rattle.std.specs.Str.{is_utf8}
use Rattle.std.specs.List.{slice_split, list_all}
use Rattle.text_words.specs.declared.blanks.Blanks.{Blanks}
use Rattle.text_words.specs.declared.blanks.Blanks.TheVariants.{SpaceTab, SpaceTabReturn}

-- In edit lists space and tab part words; in scripts a carriage return does too.
abbrev pub is_blank : Blanks → ℕ → Bool
is_blank SpaceTab byte = byte == 32 || byte == 9
is_blank SpaceTabReturn byte = (byte == 32 || byte == 9) || byte == 13

unfoldable pub words : Blanks → List ℕ → List (List ℕ)
words blanks line = filter (λ word. not (length word == 0)) (slice_split (is_blank blanks) line)

-- A text without the blanks it begins with, without those it ends with, and without both.
unfoldable pub without_leading : Blanks → List ℕ → List ℕ
without_leading blanks [] = []
without_leading blanks (byte ∷ rest) = if is_blank blanks byte then without_leading blanks rest else byte ∷ rest

unfoldable pub without_trailing : Blanks → List ℕ → List ℕ
without_trailing blanks [] = []
without_trailing blanks (byte ∷ rest) = if list_all (is_blank blanks) (byte ∷ rest) then [] else byte ∷ without_trailing blanks rest

abbrev pub trimmed : Blanks → List ℕ → List ℕ
trimmed blanks text = without_trailing blanks (without_leading blanks text)

-- Text is UTF-8.
unfoldable pub text : List ℕ → Option (List ℕ)
text bytes = if is_utf8 bytes then Some bytes else None
