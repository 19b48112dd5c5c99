-- Each event of a line that was read has its numbers below their bounds.
use Rattle.std.proofs.Common.{ℕ, ◌<◌, ◌≤◌, Bool, true, false, if◌then◌else◌, List, [], ◌∷◌, codes, Option, Some, None, IfSome, Result, Ok, Err, IfOk, arith}
use Rattle.std.specs.Option.{ok_or}
use Rattle.std.specs.Str.{is_utf8, bytes_eq}
use Rattle.tl_limits.specs.Limits.{IsRate, timecode_frames}
use Rattle.text_words.specs.declared.blanks.Blanks.TheVariants.{SpaceTab}
use Rattle.text_words.specs.Blanks.{words, text}
use Rattle.text_words.specs.Number.{number}
use Rattle.text_words.specs.Timecode.{timecode}
use Rattle.edl_text.specs.declared.fault.EdlWhy.{EdlWhy}
use Rattle.edl_text.specs.declared.fault.EdlWhy.TheVariants as why
use Rattle.edl_text.specs.declared.row.Edit.{Edit}
use Rattle.edl_text.specs.declared.row.Times.{Times}
use Rattle.edl_text.specs.Row.{Said, Passed, Title, From, To, Video}
use Rattle.edl_text.specs.Line.{◌>>=◌, begins, begins_with_digit, has_semicolon, is_video, time_of, span_of, times_at, times_of, edit_with, dissolve_of, edit_of, event_row, event_of, words_row, text_row, rest_of, counting_row, marked_row, keyword_row, row_of}
use Rattle.edl_text.specs.Law.{IsDuration}
use Rattle.edl_text.proofs.Frames.{number_high, timecode_below}

either_ok : {A E : Type 0} (P : A → Type 0) (b : Bool) (x y : Result A E) → IfOk x P → IfOk y P → IfOk (if b then x else y) P
either_ok P true x y p q = p
either_ok P false x y p q = q

then_ok : {A B : Type 0} (P : A → Type 0) (Q : B → Type 0) (x : Result A EdlWhy) (f : A → Result B EdlWhy) → IfOk x P
    → ((a : A) → P a → IfOk (f a) Q) → IfOk (x >>= f) Q
then_ok P Q (Ok a) f p q = q a p
then_ok P Q (Err e) f p q = tt

some_ok : {A : Type 0} (P : A → Type 0) (o : Option A) (e : EdlWhy) → IfSome o P → IfOk (ok_or o e) P
some_ok P (Some x) e p = p
some_ok P None e p = tt

any_ok : {A : Type 0} (x : Result A EdlWhy) → IfOk x (λ _. Unit {0})
any_ok (Ok x) = tt
any_ok (Err e) = tt

-- ---- the numbers of one line
abbrev IsSpan : ℕ × ℕ → Type 0
IsSpan x = (x.0 < timecode_frames) × (x.1 < timecode_frames)

pub record AreTimes (t : Times) : Type 0 where
  pub source_in : t.source_in < timecode_frames
  pub source_out : t.source_out < timecode_frames
  pub record_in : t.record_in < timecode_frames
  pub record_out : t.record_out < timecode_frames

pub record IsTimedEdit (e : Edit) : Type 0 where
  pub duration : IsDuration e.duration
  pub times : AreTimes e.times

abbrev pub IsTimedRow : Said → Type 0
IsTimedRow (Video number reel edit) = IsTimedEdit edit
IsTimedRow other = Unit {0}

time_timed : (rate : ℕ) (word : List ℕ) → IsRate rate → IfOk (time_of rate word) (λ n. n < timecode_frames)
unfolding time_of
time_timed rate word bounds =
    either_ok (λ n. n < timecode_frames) (has_semicolon word) (Err why.Drop) (ok_or (timecode rate word) why.Timecode) tt
    (some_ok (λ n. n < timecode_frames) (timecode rate word) why.Timecode (timecode_below rate word bounds))

span_timed : (rate : ℕ) (first last : List ℕ) → IsRate rate → IfOk (span_of rate first last) IsSpan
unfolding span_of
span_timed rate first last bounds =
    then_ok (λ n. n < timecode_frames) IsSpan (time_of rate first) _ (time_timed rate first bounds) (λ start from.
    then_ok (λ n. n < timecode_frames) IsSpan (time_of rate last) _ (time_timed rate last bounds) (λ end to. (from, to)))

times_timed : (source placed : Result (ℕ × ℕ) EdlWhy) → IfOk source IsSpan → IfOk placed IsSpan → IfOk (times_at source placed) AreTimes
times_timed (Ok a) (Ok b) s p = record { source_in = s.0; source_out = s.1; record_in = p.0; record_out = p.1 }
times_timed (Ok a) (Err e) s p = tt
times_timed (Err e) placed s p = tt

words_timed : (rate : ℕ) (ws : List (List ℕ)) → IsRate rate → IfOk (times_of rate ws) AreTimes
unfolding times_of
words_timed rate (a ∷ b ∷ c ∷ d ∷ []) bounds =
    times_timed (span_of rate a b) (span_of rate c d) (span_timed rate a b bounds) (span_timed rate c d bounds)
words_timed rate (a ∷ b ∷ c ∷ d ∷ e ∷ more) bounds = tt
words_timed rate (a ∷ b ∷ c ∷ []) bounds = tt
words_timed rate (a ∷ b ∷ []) bounds = tt
words_timed rate (a ∷ []) bounds = tt
words_timed rate [] bounds = tt

with_timed : (rate : ℕ) (duration : Option ℕ) (ws : List (List ℕ)) → IsRate rate → IsDuration duration → IfOk (edit_with rate duration ws) IsTimedEdit
unfolding edit_with
with_timed rate duration ws bounds short =
    then_ok AreTimes IsTimedEdit (times_of rate ws) _ (words_timed rate ws bounds) (λ times within. record { duration = short; times = within })

dissolve_timed : (rate : ℕ) (ws : List (List ℕ)) → IsRate rate → IfOk (dissolve_of rate ws) IsTimedEdit
unfolding dissolve_of
dissolve_timed rate (duration ∷ more) bounds =
    then_ok (λ n. n ≤ 999) IsTimedEdit (ok_or (number 3 0 999 duration) why.Unknown) _
    (some_ok (λ n. n ≤ 999) (number 3 0 999 duration) why.Unknown (number_high 3 0 999 duration))
    (λ frames few. with_timed rate (Some frames) more bounds (omega arith))
dissolve_timed rate [] bounds = tt

edit_timed : (rate : ℕ) (ws : List (List ℕ)) → IsRate rate → IfOk (edit_of rate ws) IsTimedEdit
unfolding edit_of
edit_timed rate (kind ∷ more) bounds =
    either_ok IsTimedEdit (bytes_eq kind (codes "C")) _ _ (with_timed rate None more bounds tt)
    (either_ok IsTimedEdit (bytes_eq kind (codes "D")) _ _ (dissolve_timed rate more bounds)
    (either_ok IsTimedEdit (begins kind (codes "W")) _ _ tt (either_ok IsTimedEdit (begins kind (codes "K")) _ _ tt tt)))
edit_timed rate [] bounds = tt

row_timed : (video : Bool) (number : ℕ) (reel : List ℕ) (edit : Edit) → IsTimedEdit edit → IsTimedRow (event_row video number reel edit)
row_timed true number reel edit s = s
row_timed false number reel edit s = tt

event_timed : (rate : ℕ) (ws : List (List ℕ)) → IsRate rate → IfOk (event_of rate ws) IsTimedRow
unfolding event_of
event_timed rate (digits ∷ reel ∷ channel ∷ more) bounds =
    then_ok (λ _. Unit {0}) IsTimedRow (ok_or (number 6 0 999999 digits) why.Unknown) _ (any_ok (ok_or (number 6 0 999999 digits) why.Unknown)) (λ n _.
    then_ok (λ _. Unit {0}) IsTimedRow (ok_or (text reel) why.Unknown) _ (any_ok (ok_or (text reel) why.Unknown)) (λ name _.
    then_ok IsTimedEdit IsTimedRow (edit_of rate more) _ (edit_timed rate more bounds) (λ edit s. row_timed (is_video channel) n name edit s)))
event_timed rate (digits ∷ reel ∷ []) bounds = tt
event_timed rate (digits ∷ []) bounds = tt
event_timed rate [] bounds = tt

words_row_timed : (rate : ℕ) (ws : List (List ℕ)) → IsRate rate → IfOk (words_row rate ws) IsTimedRow
unfolding words_row
words_row_timed rate [] bounds = tt
words_row_timed rate (first ∷ more) bounds =
    either_ok IsTimedRow (begins_with_digit first) _ _ (event_timed rate (first ∷ more) bounds) tt

marked_timed : (rate : ℕ) (line : List ℕ) (ws : List (List ℕ)) → IsRate rate → IfOk (marked_row rate line ws) IsTimedRow
unfolding marked_row
marked_timed rate line ws bounds =
    either_ok IsTimedRow (begins line (codes "*")) _ _ tt
    (either_ok IsTimedRow (begins line (codes "AUD")) _ _ tt
    (either_ok IsTimedRow (begins line (codes "M2")) _ _ tt (words_row_timed rate ws bounds)))

text_timed : (row : List ℕ → Said) (bytes : List ℕ) → ((name : List ℕ) → IsTimedRow (row name)) → IfOk (text_row row bytes) IsTimedRow
text_timed row bytes s =
    then_ok (λ _. Unit {0}) IsTimedRow (ok_or (text bytes) why.Unknown) _ (any_ok (ok_or (text bytes) why.Unknown)) (λ name _. s name)

counting_timed : (mode : List ℕ) → IfOk (counting_row mode) IsTimedRow
counting_timed mode = either_ok IsTimedRow (bytes_eq mode (codes "DROP FRAME")) (Err why.Drop) (Ok Passed) tt tt

keyword_timed : (rate : ℕ) (line : List ℕ) (ws : List (List ℕ)) → IsRate rate → IfOk (keyword_row rate line ws) IsTimedRow
unfolding keyword_row
keyword_timed rate line ws bounds =
    either_ok IsTimedRow (begins line (codes "TITLE:")) _ _ (text_timed Title (rest_of (codes "TITLE:") line) (λ name. tt))
    (either_ok IsTimedRow (begins line (codes "FCM:")) _ _ (counting_timed (rest_of (codes "FCM:") line))
    (either_ok IsTimedRow (begins line (codes "* FROM CLIP NAME:")) _ _ (text_timed From (rest_of (codes "* FROM CLIP NAME:") line) (λ name. tt))
    (either_ok IsTimedRow (begins line (codes "* TO CLIP NAME:")) _ _ (text_timed To (rest_of (codes "* TO CLIP NAME:") line) (λ name. tt))
    (marked_timed rate line ws bounds))))

pub line_timed : (rate : ℕ) (line : List ℕ) → IsRate rate → IfOk (row_of rate line) IsTimedRow
line_timed rate line bounds =
    either_ok IsTimedRow (is_utf8 line) (keyword_row rate line (words SpaceTab line)) (Err why.Unknown) (keyword_timed rate line (words SpaceTab line) bounds) tt
