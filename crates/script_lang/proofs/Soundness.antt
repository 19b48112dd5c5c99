-- What is put is read back.
use Rattle.std.proofs.Common.{◌≡◌, ℕ, ◌<◌, ◌≤◌, ◌^◌, Bool, true, false, ◌&&◌, not, List, [], ◌∷◌, ◌++◌, length, map, flat_map, Option, Some, None, refl, ap, sym, ◌∙◌, arith, codes, decimal, nat_lt, nat_le, append-nil, append_assoc, ◌||◌, ◌==◌, ◌⊎◌, inl, inr, lit<, if◌then◌else◌}
use Rattle.std.specs.List.{list_all, list_any}
use Rattle.std.specs.Str.{bytes_eq, is_utf8, IsAscii}
use Rattle.std.specs.Str.Lines.{lines}
use Rattle.std.proofs.lemmas.Bool.{leb-true, ltb-true}
use Rattle.std.proofs.lemmas.Str.{IsUtf8-from_ascii, is_utf8-from_IsUtf8}
use Rattle.std.proofs.lemmas.Str.Ascii.{IsAscii-nil, IsAscii-cons}
use Rattle.std.proofs.lemmas.Slice.Eq.{bytes_eq-Decides}
use Rattle.std.proofs.lemmas.List.Folds.{list_all-append}
use Rattle.std.proofs.Math.Nat.{pow-le-pow_right}
use Rattle.text_words.specs.declared.blanks.Blanks.TheVariants.{SpaceTabReturn}
use Rattle.text_words.specs.Blanks.{words, text}
use Rattle.text_words.specs.Law.{is_line, is_word}
use Rattle.text_words.proofs.Splitting.{lines_read_back, words_read_back}
use Rattle.script_lang.specs.declared.out_line.OutLine.{OutLine}
use Rattle.script_lang.specs.declared.out_line.OutLine.TheVariants as out
use Rattle.script_lang.specs.Lists.{Words}
use Rattle.script_lang.specs.Line.{Field, Fixed, Number, Listed, Named, fields, word_of, words_of, joined, line_text, is_one_of, is_listed_field, is_listed, is_name}
use Rattle.script_lang.specs.Sound.{is_sound_field, is_sound, fits_field, fits, found, found_in}
use Rattle.script_lang.specs.Parsed.{long_number, number, counted, two, ended, three, ended_at, four, five, seven, parsed}
use Rattle.script_lang.proofs.Reread.{both, is_plain, decimal_plain, long_number-decimal, number-decimal}

listed_fields : (fs : List Field) → list_all is_sound_field fs ≡ true → list_all is_listed_field fs ≡ true
listed_fields [] e = refl
listed_fields (Fixed word ∷ more) e = listed_fields more e
listed_fields (Number bits n ∷ more) e = listed_fields more e
listed_fields (Listed words word ∷ more) e =
    let parts = both (is_one_of words word) (list_all is_sound_field more) e in
    rw (parts.0, listed_fields more parts.1) refl
listed_fields (Named name ∷ more) e =
    let parts = both (is_name name) (list_all is_sound_field more) e in
    listed_fields more parts.1

pub listed_if_sound : (line : OutLine) → is_sound line ≡ true → is_listed line ≡ true
listed_if_sound line e = listed_fields (fields line) e

-- ---- each word of a sound line is a single word
same_bytes : (a b : List ℕ) → bytes_eq a b ≡ true → a ≡ b
same_bytes a b e = (bytes_eq-Decides a b).0 e

or_true : (a b : Bool) → (a || b) ≡ true → (a ≡ true) ⊎ (b ≡ true)
or_true true b e = inl refl
or_true false b e = inr e

pub one_passes : (p : List ℕ → Bool) (ws : Words) (w : List ℕ) → is_one_of ws w ≡ true → list_all p ws ≡ true → p w ≡ true
one_passes p [] w e f = absurd (cc)
one_passes p (other ∷ more) w e f =
    let parts = both (p other) (list_all p more) f in
    elim (or_true (bytes_eq other w) (is_one_of more w) e) [
      | inl same ↦ ap p (sym (same_bytes other w same)) ∙ parts.0
      | inr later ↦ one_passes p more w later parts.1
    ]

ascii_bytes : (bytes : List ℕ) → list_all (λ byte. nat_lt byte 128) bytes ≡ true → IsAscii bytes
ascii_bytes [] e = IsAscii-nil
ascii_bytes (byte ∷ more) e =
    let parts = both (nat_lt byte 128) (list_all (λ other. nat_lt other 128) more) e in
    IsAscii-cons byte more (ltb-true byte 128 parts.0) (ascii_bytes more parts.1)

unfoldable pub is_letters : List ℕ → Bool
is_letters word = list_all (λ byte. nat_lt byte 128) word && is_plain word

pub letters_name : (word : List ℕ) → is_letters word ≡ true → is_name word ≡ true
unfolding is_letters is_plain
letters_name word e =
    let parts = both (list_all (λ byte. nat_lt byte 128) word) (is_plain word) e in
    rw (is_utf8-from_IsUtf8 word (IsUtf8-from_ascii word (ascii_bytes word parts.0))) parts.1

-- What the table of lines keeps: fixed words are plain, numbers have at most 64 bits, and listed words are ASCII.
unfoldable pub is_usual : Field → Bool
is_usual (Fixed word) = is_plain word
is_usual (Number bits n) = nat_le bits 64
is_usual (Listed words word) = list_all is_letters words
is_usual (Named name) = true

pub usual_fields : (line : OutLine) → list_all is_usual (fields line) ≡ true
unfolding is_usual is_letters is_plain fields
usual_fields (out.Ok len) = refl
usual_fields (out.Refused why) = refl
usual_fields (out.EdlLine n why) = refl
usual_fields (out.Wanted count) = refl
usual_fields (out.Cancelled count) = refl
usual_fields (out.Past len) = refl
usual_fields (out.Frame n) = refl
usual_fields (out.Pending n) = refl
usual_fields (out.Fault n kind) = refl
usual_fields (out.Worked count) = refl
usual_fields (out.Asked export) = refl
usual_fields (out.FaultLine n why) = refl
usual_fields (out.FaultClip n kind) = refl
usual_fields (out.FaultRecord n kind) = refl
usual_fields (out.Store name kind) = refl
usual_fields out.ScreenFailed = refl
usual_fields out.NoMemory = refl
usual_fields (out.JournalFull len owed) = refl
usual_fields out.Usage = refl
usual_fields (out.Done export frames) = refl
usual_fields (out.ExportFault export at clip frame kind) = refl
usual_fields (out.Long export at) = refl
usual_fields (out.Sink export) = refl
usual_fields (out.Memory export) = refl

name_plain : (name : List ℕ) → is_name name ≡ true → is_plain name ≡ true
unfolding is_plain
name_plain name e = (both (is_utf8 name) (is_word SpaceTabReturn name && is_line name) e).1

field_plain : (field : Field) → is_usual field ≡ true → fits_field field ≡ true → is_sound_field field ≡ true
    → is_plain (word_of field) ≡ true
unfolding is_usual
field_plain (Fixed word) u f s = u
field_plain (Number bits n) u f s =
    let low : bits ≤ 64 = leb-true bits 64 u in
    let below : n < 2 ^ bits = ltb-true n (2 ^ bits) f in
    let more : 2 ^ bits ≤ 2 ^ 64 = pow-le-pow_right (lit< tt) low in
    decimal_plain n (omega arith)
field_plain (Listed ws word) u f s = name_plain word (letters_name word (one_passes is_letters ws word s u))
field_plain (Named name) u f s = name_plain name s

pub fields_plain : (fs : List Field) → list_all is_usual fs ≡ true → list_all fits_field fs ≡ true → list_all is_sound_field fs ≡ true
    → list_all is_plain (map word_of fs) ≡ true
fields_plain [] u f s = refl
fields_plain (field ∷ more) u f s =
    let us = both (is_usual field) (list_all is_usual more) u in
    let fs = both (fits_field field) (list_all fits_field more) f in
    let ss = both (is_sound_field field) (list_all is_sound_field more) s in
    rw (field_plain field us.0 fs.0 ss.0, fields_plain more us.1 fs.1 ss.1) refl

-- ---- words that are joined are cut again
pub joined_words : (w : List ℕ) (ws : Words) → list_all is_plain (w ∷ ws) ≡ true → words SpaceTabReturn (joined (w ∷ ws)) ≡ w ∷ ws
unfolding joined is_plain
joined_words w [] e =
    let parts = both (is_plain w) true e in
    ap (words SpaceTabReturn) (append-nil w) ∙ words_read_back.last SpaceTabReturn w (both (is_word SpaceTabReturn w) (is_line w) parts.0).0
joined_words w (next ∷ more) e =
    let parts = both (is_plain w) (list_all is_plain (next ∷ more)) e in
    words_read_back.one SpaceTabReturn w (joined (next ∷ more)) 32 (both (is_word SpaceTabReturn w) (is_line w) parts.0).0 refl
    ∙ ap (λ rest. w ∷ rest) (joined_words next more parts.1)

pub joined_line : (w : List ℕ) (ws : Words) → list_all is_plain (w ∷ ws) ≡ true → is_line (joined (w ∷ ws)) ≡ true
unfolding joined is_plain
joined_line w [] e =
    let parts = both (is_plain w) true e in
    ap is_line (append-nil w) ∙ (both (is_word SpaceTabReturn w) (is_line w) parts.0).1
joined_line w (next ∷ more) e =
    let parts = both (is_plain w) (list_all is_plain (next ∷ more)) e in
    list_all-append (λ byte. not (byte == 10) && not (byte == 13)) w (32 ∷ joined (next ∷ more))
    ∙ rw ((both (is_word SpaceTabReturn w) (is_line w) parts.0).1, joined_line next more parts.1) refl

pub found_joined : (w : List ℕ) (ws : Words) → list_all is_plain (w ∷ ws) ≡ true → found (joined (w ∷ ws) ++ 10 ∷ []) ≡ parsed (w ∷ ws)
unfolding found_in
found_joined w ws e = rw (lines_read_back (joined (w ∷ ws)) [] (joined_line w ws e), joined_words w ws e) refl
