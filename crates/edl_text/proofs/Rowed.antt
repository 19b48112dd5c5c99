-- Each written line says what it was written for.
use Rattle.std.proofs.Common.{◌≡◌, ℕ, zero, suc, ◌+◌, ◌-◌, ◌*◌, ◌<◌, Bool, true, false, ◌&&◌, not, nat_eq, nat_lt, List, [], ◌∷◌, ◌++◌, length, replicate, take, drop, Option, Some, None, Result, Ok, Err, codes, refl, ap, sym, ◌∙◌, append_assoc, arith}
use Rattle.std.specs.List.{list_all}
use Rattle.std.specs.Str.{IsUtf8, is_utf8, chars}
use Rattle.std.specs.Char.{is_ascii_digit}
use Rattle.std.proofs.lemmas.Str.{IsUtf8-append, IsUtf8-from_is_utf8, is_utf8-from_IsUtf8}
use Rattle.std.proofs.lemmas.Bool.Decides.{nat_tests}
use Rattle.tl_limits.specs.Limits.{IsRate}
use Rattle.text_words.specs.declared.blanks.Blanks.TheVariants.{SpaceTab}
use Rattle.text_words.specs.Blanks.{words, trimmed, text, without_leading, without_trailing}
use Rattle.text_words.specs.Number.{number, number_text}
use Rattle.text_words.specs.Timecode.{timecode_text}
use Rattle.text_words.proofs.Reading.{numbers_read_back, timecodes_read_back, digits-number_text}
use Rattle.edl_text.specs.declared.event.Event.{Event}
use Rattle.edl_text.specs.declared.row.Times.{Times}
use Rattle.edl_text.specs.declared.row.Edit.{Edit}
use Rattle.edl_text.specs.Row.{Said, Passed, Title, From, To, Video}
use Rattle.edl_text.specs.Line.{begins, begins_with_digit, time_of, span_of, times_of, edit_with, dissolve_of, edit_of, event_of, words_row, marked_row, keyword_row, row_of}
use Rattle.edl_text.specs.Writing.{head_text, kind_text, times_text, event_line}
use Rattle.edl_text.specs.Law.{IsName, IsDuration, IsWritableEvent}
use Rattle.edl_text.proofs.Bytes.{both, is_clock, clock-number, clock-timecode, clock_semicolons, clock_ascii, all_weaker, all_append, ascii_utf8, some-number}
use Rattle.edl_text.proofs.LineWords.{kind_of, times_list, line_words}

-- ---- the parts of an event
time_again : (rate frame : ℕ) → IsRate rate → frame < 86400 * rate → time_of rate (timecode_text rate frame) ≡ Ok frame
unfolding time_of
time_again rate frame bounds small = rw (clock_semicolons (timecode_text rate frame) (clock-timecode rate frame), timecodes_read_back rate frame bounds small) refl

abbrev pub times_in : Event → Times
times_in e = record { source_in = e.source_in; source_out = e.source_out; record_in = e.record_in; record_out = e.record_out }

times_again : (rate : ℕ) (e : Event) → IsRate rate → IsWritableEvent rate e → times_of rate (times_list rate e) ≡ Ok (times_in e)
unfolding times_of span_of
times_again rate e bounds w = rw (time_again rate e.source_in bounds w.source_in, time_again rate e.source_out bounds w.source_out, time_again rate e.record_in bounds w.record_in, time_again rate e.record_out bounds w.record_out) refl

edit_again : (rate : ℕ) (duration : Option ℕ) (ws : List (List ℕ)) (times : Times) → IsDuration duration → times_of rate ws ≡ Ok times → edit_of rate (kind_of duration ++ ws) ≡ Ok (record { duration = duration; times = times })
unfolding edit_of edit_with dissolve_of
edit_again rate None ws times small e = rw e refl
edit_again rate (Some frames) ws times small e = rw (numbers_read_back 3 3 0 999 frames (omega arith) (omega arith) (omega arith) (omega arith) (omega arith), e) refl

-- ---- the line begins with a digit
digit_differs : (x k : ℕ) → is_ascii_digit x ≡ true → is_ascii_digit k ≡ false → nat_eq x k ≡ false
digit_differs x k e f = grind (arith, nat_tests)

not_keyword : (xs rest ks : List ℕ) (k : ℕ) → list_all is_ascii_digit xs ≡ true → 0 < length xs → is_ascii_digit k ≡ false → begins (xs ++ rest) (k ∷ ks) ≡ false
not_keyword [] rest ks k e some f = absurd (omega arith)
not_keyword (x ∷ xs) rest ks k e some f = rw (digit_differs x k (both (is_ascii_digit x) (list_all is_ascii_digit xs) e).0 f) refl

digit_first : (xs : List ℕ) → list_all is_ascii_digit xs ≡ true → 0 < length xs → begins_with_digit xs ≡ true
digit_first [] e some = absurd (omega arith)
digit_first (x ∷ xs) e some = (both (is_ascii_digit x) (list_all is_ascii_digit xs) e).0

after_number : (rate : ℕ) → Event → List ℕ
after_number rate e = codes "  " ++ (e.reel ++ (replicate (8 - length (chars e.reel)) 32 ++ (codes " V     " ++ (kind_text e.duration ++ times_text rate e))))

starts : (rate : ℕ) (e : Event) → event_line rate e ≡ number_text 3 e.number ++ after_number rate e
unfolding head_text after_number
starts rate e =
    let num : List ℕ = number_text 3 e.number in
    let fill : List ℕ = replicate (8 - length (chars e.reel)) 32 in
    let tail : List ℕ = kind_text e.duration ++ times_text rate e in
    append_assoc (head_text e) (kind_text e.duration) (times_text rate e)
    ∙ append_assoc (((num ++ codes "  ") ++ e.reel) ++ fill) (codes " V     ") tail
    ∙ append_assoc ((num ++ codes "  ") ++ e.reel) fill (codes " V     " ++ tail)
    ∙ append_assoc (num ++ codes "  ") e.reel (fill ++ (codes " V     " ++ tail))
    ∙ append_assoc num (codes "  ") (e.reel ++ (fill ++ (codes " V     " ++ tail)))

plain : (rate : ℕ) (e : Event) (k : ℕ) (ks : List ℕ) → is_ascii_digit k ≡ false → begins (event_line rate e) (k ∷ ks) ≡ false
plain rate e k ks f = ap (λ line. begins line (k ∷ ks)) (starts rate e) ∙ not_keyword (number_text 3 e.number) (after_number rate e) ks k (digits-number_text 3 e.number) (some-number 3 e.number (omega arith)) f

-- ---- the line is UTF-8
is_ascii : ℕ → Bool
is_ascii b = nat_lt b 128

pub fill_passes : (p : ℕ → Bool) (k : ℕ) → p 32 ≡ true → list_all p (replicate k 32) ≡ true
fill_passes p zero e = refl
fill_passes p (suc k) e = rw (e, fill_passes p k e) refl

clock_utf8 : (xs : List ℕ) → list_all is_clock xs ≡ true → IsUtf8 xs
clock_utf8 xs e = ascii_utf8 xs (all_weaker is_clock (λ b. nat_lt b 128) clock_ascii xs e)

kind_utf8 : (duration : Option ℕ) → IsUtf8 (kind_text duration)
unfolding kind_text
kind_utf8 None = ascii_utf8 (codes "C        ") refl
kind_utf8 (Some frames) =
    IsUtf8-append (codes "D    " ++ number_text 3 frames) (codes " ")
    (IsUtf8-append (codes "D    ") (number_text 3 frames) (ascii_utf8 (codes "D    ") refl) (clock_utf8 (number_text 3 frames) (clock-number 3 frames))) (ascii_utf8 (codes " ") refl)

times_utf8 : (rate : ℕ) (e : Event) → IsUtf8 (times_text rate e)
unfolding times_text
times_utf8 rate e =
    let a : List ℕ = timecode_text rate e.source_in in
    let b : List ℕ = timecode_text rate e.source_out in
    let c : List ℕ = timecode_text rate e.record_in in
    let d : List ℕ = timecode_text rate e.record_out in
    let space : IsUtf8 (codes " ") = ascii_utf8 (codes " ") refl in
    IsUtf8-append ((((a ++ codes " ") ++ b) ++ codes " ") ++ c ++ codes " ") d
    (IsUtf8-append ((((a ++ codes " ") ++ b) ++ codes " ") ++ c) (codes " ")
    (IsUtf8-append (((a ++ codes " ") ++ b) ++ codes " ") c
    (IsUtf8-append ((a ++ codes " ") ++ b) (codes " ")
    (IsUtf8-append (a ++ codes " ") b (IsUtf8-append a (codes " ") (clock_utf8 a (clock-timecode rate e.source_in)) space) (clock_utf8 b (clock-timecode rate e.source_out))) space)
    (clock_utf8 c (clock-timecode rate e.record_in))) space) (clock_utf8 d (clock-timecode rate e.record_out))

line_utf8 : (rate : ℕ) (e : Event) → is_utf8 e.reel ≡ true → is_utf8 (event_line rate e) ≡ true
unfolding head_text
line_utf8 rate e reel =
    let num : List ℕ = number_text 3 e.number in
    let fill : List ℕ = replicate (8 - length (chars e.reel)) 32 in
    let head : IsUtf8 (head_text e) =
    IsUtf8-append (((num ++ codes "  ") ++ e.reel) ++ fill) (codes " V     ")
    (IsUtf8-append ((num ++ codes "  ") ++ e.reel) fill
    (IsUtf8-append (num ++ codes "  ") e.reel
    (IsUtf8-append num (codes "  ") (clock_utf8 num (clock-number 3 e.number)) (ascii_utf8 (codes "  ") refl)) (IsUtf8-from_is_utf8 e.reel reel))
    (ascii_utf8 fill (fill_passes (λ b. nat_lt b 128) (8 - length (chars e.reel)) refl))) (ascii_utf8 (codes " V     ") refl) in
    is_utf8-from_IsUtf8 (event_line rate e)
    (IsUtf8-append (head_text e ++ kind_text e.duration) (times_text rate e) (IsUtf8-append (head_text e) (kind_text e.duration) head (kind_utf8 e.duration)) (times_utf8 rate e))

-- ---- rows
row_from_words : (rate : ℕ) (line num reel : List ℕ) (ws : List (List ℕ)) (n : ℕ) (edit : Edit)
    → is_utf8 line ≡ true → ((k : ℕ) (ks : List ℕ) → is_ascii_digit k ≡ false → begins line (k ∷ ks) ≡ false)
    → words SpaceTab line ≡ num ∷ reel ∷ codes "V" ∷ ws → begins_with_digit num ≡ true
    → number 6 0 999999 num ≡ Some n → text reel ≡ Some reel → edit_of rate ws ≡ Ok edit → row_of rate line ≡ Ok (Video n reel edit)
unfolding keyword_row marked_row words_row event_of
row_from_words rate line num reel ws n edit utf8 other split first numbered named edited =
    rw (
      utf8,
      other 84 (drop 1 (codes "TITLE:")) refl,
      other 70 (drop 1 (codes "FCM:")) refl,
      other 42 (drop 1 (codes "* FROM CLIP NAME:")) refl,
      other 42 (drop 1 (codes "* TO CLIP NAME:")) refl,
      other 42 [] refl,
      other 65 (drop 1 (codes "AUD")) refl,
      other 77 (drop 1 (codes "M2")) refl,
      split,
      first,
      numbered,
      named,
      edited,
    ) refl

text_again : (bytes : List ℕ) → is_utf8 bytes ≡ true → text bytes ≡ Some bytes
unfolding text
text_again bytes e = rw e refl

pub row_event : (rate : ℕ) (e : Event) → IsRate rate → IsWritableEvent rate e
    → row_of rate (event_line rate e) ≡ Ok (Video e.number e.reel (record { duration = e.duration; times = times_in e }))
row_event rate e bounds w =
    row_from_words rate (event_line rate e) (number_text 3 e.number) e.reel (kind_of e.duration ++ times_list rate e) e.number (record { duration = e.duration; times = times_in e })
    (line_utf8 rate e w.reel_text) (plain rate e) (line_words rate e w.reel_word)
    (digit_first (number_text 3 e.number) (digits-number_text 3 e.number) (some-number 3 e.number (omega arith)))
    (numbers_read_back 6 3 0 999999 e.number (omega arith) (omega arith) w.number (omega arith) (let h = w.number in omega arith))
    (text_again e.reel w.reel_text) (edit_again rate e.duration (times_list rate e) (times_in e) w.duration (times_again rate e bounds w))

lead : (name : List ℕ) → trimmed SpaceTab (32 ∷ name) ≡ trimmed SpaceTab name
unfolding without_leading
lead name = refl

line_text : (front name : List ℕ) → list_all (λ b. nat_lt b 128) front ≡ true → is_utf8 name ≡ true → is_utf8 (front ++ name) ≡ true
line_text front name e u = is_utf8-from_IsUtf8 (front ++ name) (IsUtf8-append front name (ascii_utf8 front e) (IsUtf8-from_is_utf8 name u))

pub row_title : (rate : ℕ) (title : List ℕ) → IsName title → row_of rate (codes "TITLE: " ++ title) ≡ Ok (Title title)
unfolding keyword_row
row_title rate title w = rw (line_text (codes "TITLE: ") title refl w.utf8, lead title, w.bare, text_again title w.utf8) refl

pub row_from : (rate : ℕ) (name : List ℕ) → IsName name → row_of rate (codes "* FROM CLIP NAME: " ++ name) ≡ Ok (From name)
unfolding keyword_row
row_from rate name w = rw (line_text (codes "* FROM CLIP NAME: ") name refl w.utf8, lead name, w.bare, text_again name w.utf8) refl

pub row_to : (rate : ℕ) (name : List ℕ) → IsName name → row_of rate (codes "* TO CLIP NAME: " ++ name) ≡ Ok (To name)
unfolding keyword_row
row_to rate name w = rw (line_text (codes "* TO CLIP NAME: ") name refl w.utf8, lead name, w.bare, text_again name w.utf8) refl

pub row_counting : (rate : ℕ) → row_of rate (codes "FCM: NON-DROP FRAME") ≡ Ok Passed
unfolding keyword_row without_leading without_trailing
row_counting rate = rw (is_utf8-from_IsUtf8 (codes "FCM: NON-DROP FRAME") (ascii_utf8 (codes "FCM: NON-DROP FRAME") refl)) refl
