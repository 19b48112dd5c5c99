-- A text that is a sound line is read as that line.
use Rattle.std.proofs.Common.{◌≡◌, ℕ, ◌<◌, ◌^◌, Bool, true, false, ◌&&◌, List, [], ◌∷◌, ◌++◌, Option, Some, None, IfSome, IsTrue, refl, ap, sym, ◌∙◌, decimal, nat_lt, if◌then◌else◌}
use Rattle.std.specs.List.{list_all}
use Rattle.std.specs.Str.{is_utf8, bytes_eq}
use Rattle.std.specs.Str.Lines.{lines}
use Rattle.std.proofs.lemmas.Bool.{ltb-true}
use Rattle.std.proofs.lemmas.Slice.Eq.{bytes_eq-Decides}
use Rattle.text_words.specs.declared.blanks.Blanks.TheVariants.{SpaceTabReturn}
use Rattle.text_words.specs.Blanks.{words, text}
use Rattle.text_words.specs.Law.{is_line, is_word}
use Rattle.text_words.proofs.Splitting.{lines_read_back}
use Rattle.script_lang.specs.declared.out_line.OutLine.{OutLine}
use Rattle.script_lang.specs.declared.out_line.OutLine.TheVariants as out
use Rattle.script_lang.specs.Lists.{Words, refusals, edl_faults, frame_faults, line_faults, clip_faults, record_faults, store_faults}
use Rattle.script_lang.specs.Line.{fields, words_of, joined, line_text, is_one_of, is_name}
use Rattle.script_lang.specs.Sound.{is_sound, fits, found, found_in, verified, read_text}
use Rattle.script_lang.specs.Parsed.{◌>>=◌, long_number, number, counted, two, ended, three, ended_at, four, five, seven, parsed}
use Rattle.script_lang.proofs.Reread.{both, is_plain, long_number-decimal, number-decimal}
use Rattle.script_lang.proofs.Soundness.{one_passes, is_letters, letters_name, usual_fields, fields_plain, found_joined}

small : (n : ℕ) (rest : Bool) → (nat_lt n (2 ^ 32) && rest) ≡ true → number (decimal n) ≡ Some n
small n rest f = number-decimal n (ltb-true n (2 ^ 32) (both (nat_lt n (2 ^ 32)) rest f).0)

long : (n : ℕ) (rest : Bool) → (nat_lt n (2 ^ 64) && rest) ≡ true → long_number (decimal n) ≡ Some n
long n rest f = long_number-decimal n (ltb-true n (2 ^ 64) (both (nat_lt n (2 ^ 64)) rest f).0)

named : (name : List ℕ) (rest : Bool) → (is_name name && rest) ≡ true → text name ≡ Some name
unfolding text
named name rest s = rw ((both (is_utf8 name) (is_word SpaceTabReturn name && is_line name) (both (is_name name) rest s).0).0) refl

said : (ws : Words) (word : List ℕ) (rest : Bool) → list_all is_letters ws ≡ true
    → (is_one_of ws word && rest) ≡ true → text word ≡ Some word
said ws word rest names s =
    let one : is_name word ≡ true = letters_name word (one_passes is_letters ws word (both (is_one_of ws word) rest s).0 names) in
    named word true (rw one refl)

later : (a b : Bool) → (a && b) ≡ true → b ≡ true
later a b e = (both a b e).1

parsed_again : (line : OutLine) → fits line ≡ true → is_sound line ≡ true → parsed (words_of line) ≡ Some line
unfolding parsed two three four five seven counted ended ended_at fields is_letters is_plain
parsed_again (out.Ok len) f s = rw (small len true f) refl
parsed_again (out.Refused why) f s = rw (said refusals why true refl s) refl
parsed_again (out.EdlLine n why) f s = rw (small n true f, said edl_faults why true refl s) refl
parsed_again (out.Wanted count) f s = rw (small count true f) refl
parsed_again (out.Cancelled count) f s = rw (small count true f) refl
parsed_again (out.Past len) f s = rw (small len true f) refl
parsed_again (out.Frame n) f s = rw (small n true f) refl
parsed_again (out.Pending n) f s = rw (small n true f) refl
parsed_again (out.Fault n kind) f s = rw (small n true f, said frame_faults kind true refl s) refl
parsed_again (out.Worked count) f s = rw (small count true f) refl
parsed_again (out.Asked export) f s = rw (long export true f) refl
parsed_again (out.FaultLine n why) f s = rw (small n true f, said line_faults why true refl s) refl
parsed_again (out.FaultClip n kind) f s = rw (small n true f, said clip_faults kind true refl s) refl
parsed_again (out.FaultRecord n kind) f s = rw (small n true f, said record_faults kind true refl s) refl
parsed_again (out.Store name kind) f s =
    rw (
      named name (is_one_of store_faults kind && true) s,
      said store_faults kind true refl (later (is_name name) (is_one_of store_faults kind && true) s),
    ) refl
parsed_again out.ScreenFailed f s = refl
parsed_again out.NoMemory f s = refl
parsed_again (out.JournalFull len owed) f s =
    rw (long len (nat_lt owed (2 ^ 64) && true) f, long owed true (later (nat_lt len (2 ^ 64)) (nat_lt owed (2 ^ 64) && true) f)) refl
parsed_again out.Usage f s = refl
parsed_again (out.Done export frames) f s =
    rw (
      long export (nat_lt frames (2 ^ 32) && true) f,
      small frames true (later (nat_lt export (2 ^ 64)) (nat_lt frames (2 ^ 32) && true) f),
    ) refl
parsed_again (out.ExportFault export at clip frame kind) f s =
    let rest : (nat_lt at (2 ^ 32) && (nat_lt frame (2 ^ 32) && true)) ≡ true =
    later (nat_lt export (2 ^ 64)) (nat_lt at (2 ^ 32) && (nat_lt frame (2 ^ 32) && true)) f in
    rw (
      long export (nat_lt at (2 ^ 32) && (nat_lt frame (2 ^ 32) && true)) f,
      small at (nat_lt frame (2 ^ 32) && true) rest,
      named clip (is_one_of frame_faults kind && true) s,
      small frame true (later (nat_lt at (2 ^ 32)) (nat_lt frame (2 ^ 32) && true) rest),
      said frame_faults kind true refl (later (is_name clip) (is_one_of frame_faults kind && true) s),
    ) refl
parsed_again (out.Long export at) f s =
    rw (long export (nat_lt at (2 ^ 32) && true) f, small at true (later (nat_lt export (2 ^ 64)) (nat_lt at (2 ^ 32) && true) f)) refl
parsed_again (out.Sink export) f s = rw (long export true f) refl
parsed_again (out.Memory export) f s = rw (long export true f) refl

found_all : (ws : Words) → list_all is_plain ws ≡ true → found (joined ws ++ 10 ∷ []) ≡ parsed ws
unfolding joined found_in words parsed
found_all [] e = ap found_in (lines_read_back [] [] refl)
found_all (w ∷ ws) e = found_joined w ws e

pub read_back : (bytes : List ℕ) (line : OutLine) → fits line ≡ true → is_sound line ≡ true → bytes ≡ line_text line
    → found bytes ≡ Some line
read_back bytes line f s e =
    ap found e ∙ found_all (words_of line) (fields_plain (fields line) (usual_fields line) f s) ∙ parsed_again line f s

same_bytes : (a b : List ℕ) → bytes_eq a b ≡ true → a ≡ b
same_bytes a b e = (bytes_eq-Decides a b).0 e

eq_bytes : (a b : List ℕ) → a ≡ b → bytes_eq a b ≡ true
eq_bytes a b e = (bytes_eq-Decides a b).1 e

verified_if : (bytes : List ℕ) (line : OutLine) (b c : Bool) → is_sound line ≡ b → bytes_eq (line_text line) bytes ≡ c
    → IfSome (if b && c then Some line else None) (λ line. (IsTrue (is_sound line)) × (bytes ≡ line_text line))
verified_if bytes line true true e f = (e, sym (same_bytes (line_text line) bytes f))
verified_if bytes line true false e f = tt
verified_if bytes line false c e f = tt

found_verified : (bytes : List ℕ) (one : Option OutLine)
    → IfSome (one >>= verified bytes) (λ line. (IsTrue (is_sound line)) × (bytes ≡ line_text line))
found_verified bytes None = tt
found_verified bytes (Some line) = verified_if bytes line (is_sound line) (bytes_eq (line_text line) bytes) refl refl

-- what is read is a sound line, spelled as the text
pub read_is_line : (bytes : List ℕ) (read : Option OutLine) → read ≡ read_text bytes
    → IfSome read (λ line. (IsTrue (is_sound line)) × (bytes ≡ line_text line))
unfolding read_text
read_is_line bytes read e = rw e (found_verified bytes (found bytes))

-- a text that is a sound line is read as it
pub read_is_back : (bytes : List ℕ) (read : Option OutLine) → read ≡ read_text bytes
    → (line : OutLine) → IsTrue (fits line) → IsTrue (is_sound line) → bytes ≡ line_text line → read ≡ Some line
unfolding read_text
read_is_back bytes read e line f s same =
    e ∙ ap (λ one. one >>= verified bytes) (read_back bytes line f s same) ∙ rw (s, eq_bytes (line_text line) bytes (sym same)) refl
