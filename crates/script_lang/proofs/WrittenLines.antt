-- A written line is read as its words, and what stands before the next line is known.
use Rattle.std.proofs.Common.{◌≡◌, ℕ, ◌+◌, ◌≤◌, Bool, true, false, not, List, [], ◌∷◌, ◌++◌, Ok, append_assoc, refl, ap, ◌∙◌}
use Rattle.std.specs.List.{list_all}
use Rattle.std.specs.Str.{is_utf8}
use Rattle.std.specs.Str.Lines.{lines}
use Rattle.std.proofs.lemmas.Bool.{le-leb}
use Rattle.tl_limits.specs.Limits.{max_lines}
use Rattle.text_words.specs.Blanks.{words}
use Rattle.text_words.proofs.Splitting.{lines_read_back}
use Rattle.script_lang.specs.Line.{is_name, joined}
use Rattle.script_lang.specs.Lists.{Words}
use Rattle.script_lang.specs.ScriptText.{Begun, is_comment, with_split, with_line, script_from}
use Rattle.script_lang.specs.Writing.{ended_line}
use Rattle.script_lang.proofs.Soundness.{joined_words, joined_line}
use Rattle.script_lang.proofs.WrittenWords.{names_plain, joined_utf8}

-- There is a word, and the line isn't a comment.
unfoldable pub is_begun_line : Words → Bool
is_begun_line [] = false
is_begun_line (w ∷ ws) = not (is_comment (joined (w ∷ ws)))

not_true : (b : Bool) → not b ≡ true → b ≡ false
not_true true e = absurd (cc)
not_true false e = refl

line_again : (b next : Begun) (n : ℕ) (w : List ℕ) (ws : Words) → list_all is_name (w ∷ ws) ≡ true → is_comment (joined (w ∷ ws)) ≡ false
    → n ≤ max_lines → with_split b n (joined (w ∷ ws)) (w ∷ ws) ≡ Ok next → with_line b n (joined (w ∷ ws)) ≡ Ok next
unfolding with_line
line_again b next n w ws named said within split =
    rw (le-leb n max_lines within, said, joined_words w ws (names_plain (w ∷ ws) named)) split

pub one_line : (b next : Begun) (n : ℕ) (ws : Words) (rest : List ℕ) → list_all is_name ws ≡ true → is_begun_line ws ≡ true → n ≤ max_lines
    → ((line : List ℕ) → is_utf8 line ≡ true → with_split b n line ws ≡ Ok next)
    → script_from b n (lines (ended_line ws ++ rest)) ≡ script_from next (n + 1) (lines rest)
unfolding script_from ended_line is_begun_line
one_line b next n [] rest named begun within split = absurd (cc)
one_line b next n (w ∷ ws) rest named begun within split =
    let line : List ℕ = joined (w ∷ ws) in
    let read = line_again b next n w ws named (not_true (is_comment line) begun) within (split line (joined_utf8 w ws named)) in
    ap (λ text. script_from b n (lines text)) (append_assoc line (10 ∷ []) rest)
    ∙ ap (script_from b n) (lines_read_back line rest (joined_line w ws (names_plain (w ∷ ws) named)))
    ∙ rw read refl
