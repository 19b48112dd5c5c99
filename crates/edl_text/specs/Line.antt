-- The line table of an edit list.
use Rattle.std.specs.Prelude.{◌≡◌, ℕ, ◌-◌, Bool, true, false, ◌||◌, ◌==◌, if◌then◌else◌, List, [], ◌∷◌, length, take, drop, codes, Option, Some, None, Result, Ok, Err}
use Rattle.std.specs.List.{list_any}
use Rattle.std.specs.Str.{bytes_eq, is_utf8}
use Rattle.std.specs.Char.{is_ascii_digit}
use Rattle.std.specs.Option.{ok_or}
use Rattle.text_words.specs.declared.blanks.Blanks.TheVariants.{SpaceTab}
use Rattle.text_words.specs.Blanks.{words, trimmed, text}
use Rattle.text_words.specs.Number.{number}
use Rattle.text_words.specs.Timecode.{timecode}
use Rattle.edl_text.specs.declared.fault.EdlWhy.{EdlWhy}
use Rattle.edl_text.specs.declared.fault.EdlWhy.TheVariants as why
use Rattle.edl_text.specs.declared.row.Times.{Times}
use Rattle.edl_text.specs.declared.row.Edit.{Edit}
use Rattle.edl_text.specs.declared.row.Row.{Row}
use Rattle.edl_text.specs.Row.{said, Said, Passed, Title, From, To, Other, Video}

infixl 10 ◌>>=◌
abbrev pub ◌>>=◌ : {A B : Type 0} → Result A EdlWhy → (A → Result B EdlWhy) → Result B EdlWhy
(Ok x) >>= f = f x
(Err e) >>= f = Err e

abbrev pub begins : List ℕ → (keyword : List ℕ) → Bool
begins bytes keyword = bytes_eq (take (length keyword) bytes) keyword

-- A timecode at its place; one with a semicolon counts in drop-frame.
abbrev pub has_semicolon : List ℕ → Bool
has_semicolon word = list_any (λ byte. byte == 59) word

unfoldable pub time_of : (rate : ℕ) → List ℕ → Result ℕ EdlWhy
time_of rate word = if has_semicolon word then Err why.Drop else ok_or (timecode rate word) why.Timecode

-- an in and an out
unfoldable pub span_of : (rate : ℕ) → (first last : List ℕ) → Result (ℕ × ℕ) EdlWhy
span_of rate first last = do
  start ← time_of rate first
  end ← time_of rate last
  Ok (start, end)

-- source in, source out, record in, record out
abbrev pub times_at : (source placed : Result (ℕ × ℕ) EdlWhy) → Result Times EdlWhy
times_at source placed = do
  from ← source
  to ← placed
  Ok (record { source_in = from.0; source_out = from.1; record_in = to.0; record_out = to.1 })

unfoldable pub times_of : (rate : ℕ) → List (List ℕ) → Result Times EdlWhy
times_of rate (a ∷ b ∷ c ∷ d ∷ []) = times_at (span_of rate a b) (span_of rate c d)
times_of rate other = Err why.Unknown

unfoldable pub edit_with : (rate : ℕ) → Option ℕ → List (List ℕ) → Result Edit EdlWhy
edit_with rate duration words = do
  times ← times_of rate words
  Ok (record { duration = duration; times = times })

-- a dissolve's duration of 1 to 3 digits, and its times
unfoldable pub dissolve_of : (rate : ℕ) → List (List ℕ) → Result Edit EdlWhy
dissolve_of rate (duration ∷ more) = do
  frames ← ok_or (number 3 0 999 duration) why.Unknown
  edit_with rate (Some frames) more
dissolve_of rate [] = Err why.Unknown

-- what follows a channel: `C` and times, `D` and a duration and times, or a wipe or a key
unfoldable pub edit_of : (rate : ℕ) → List (List ℕ) → Result Edit EdlWhy
edit_of rate (kind ∷ more) =
    if bytes_eq kind (codes "C") then edit_with rate None more
    else if bytes_eq kind (codes "D") then dissolve_of rate more
    else if begins kind (codes "W") then Err why.Wipe
    else if begins kind (codes "K") then Err why.Key
    else Err why.Unknown
edit_of rate [] = Err why.Unknown

-- The channels `V` and `B` carry video, and those that end with `/V`.
abbrev pub is_video : List ℕ → Bool
is_video channel =
    (bytes_eq channel (codes "V") || bytes_eq channel (codes "B")) || bytes_eq (drop (length channel - 2) channel) (codes "/V")

abbrev pub event_row : (video : Bool) (number : ℕ) (reel : List ℕ) → Edit → Said
event_row true number reel edit = Video number reel edit
event_row false number reel edit = Other number

-- a number of 1 to 6 digits, a reel and a channel, and what follows
unfoldable pub event_of : (rate : ℕ) → List (List ℕ) → Result Said EdlWhy
event_of rate (digits ∷ reel ∷ channel ∷ more) = do
  number ← ok_or (number 6 0 999999 digits) why.Unknown
  name ← ok_or (text reel) why.Unknown
  edit ← edit_of rate more
  Ok (event_row (is_video channel) number name edit)
event_of rate other = Err why.Unknown

-- A line of words is an event where its first word begins with a digit, else it is passed over.
abbrev pub begins_with_digit : List ℕ → Bool
begins_with_digit [] = false
begins_with_digit (byte ∷ rest) = is_ascii_digit byte

unfoldable pub words_row : (rate : ℕ) → List (List ℕ) → Result Said EdlWhy
words_row rate [] = Ok Passed
words_row rate (first ∷ more) = if begins_with_digit first then event_of rate (first ∷ more) else Ok Passed

-- what follows a keyword
abbrev pub rest_of : (keyword : List ℕ) → List ℕ → List ℕ
rest_of keyword line = trimmed SpaceTab (drop (length keyword) line)

-- `FCM: DROP FRAME` asks for drop-frame counting.
abbrev pub counting_row : List ℕ → Result Said EdlWhy
counting_row mode = if bytes_eq mode (codes "DROP FRAME") then Err why.Drop else Ok Passed

abbrev pub text_row : (List ℕ → Said) → List ℕ → Result Said EdlWhy
text_row row bytes = do
  name ← ok_or (text bytes) why.Unknown
  Ok (row name)

-- Comments and marks of motion.
unfoldable pub marked_row : (rate : ℕ) → (line : List ℕ) → (words : List (List ℕ)) → Result Said EdlWhy
marked_row rate line words =
    if begins line (codes "*") then Ok Passed
    else if begins line (codes "AUD") then Ok Passed
    else if begins line (codes "M2") then Err why.Speed
    else words_row rate words

-- The first of these keywords that stands at the very start of a line says what it is; else its words do.
unfoldable pub keyword_row : (rate : ℕ) → (line : List ℕ) → (words : List (List ℕ)) → Result Said EdlWhy
keyword_row rate line words =
    if begins line (codes "TITLE:") then text_row Title (rest_of (codes "TITLE:") line)
    else if begins line (codes "FCM:") then counting_row (rest_of (codes "FCM:") line)
    else if begins line (codes "* FROM CLIP NAME:") then text_row From (rest_of (codes "* FROM CLIP NAME:") line)
    else if begins line (codes "* TO CLIP NAME:") then text_row To (rest_of (codes "* TO CLIP NAME:") line)
    else marked_row rate line words

-- What a line says, or its fault. All of it is UTF-8.
abbrev pub row_with : (rate : ℕ) → (line : List ℕ) → (words : List (List ℕ)) → Result Said EdlWhy
row_with rate line words = if is_utf8 line then keyword_row rate line words else Err why.Unknown

abbrev pub row_of : (rate : ℕ) → List ℕ → Result Said EdlWhy
row_of rate line = row_with rate line (words SpaceTab line)

-- A function of the code answers what the definition does.
abbrev pub Says : Result Row EdlWhy → Result Said EdlWhy → Type 0
Says (Ok row) read = read ≡ Ok (said row)
Says (Err e) read = read ≡ Err e
