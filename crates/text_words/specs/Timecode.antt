-- Timecodes `HH:MM:SS:FF`: hours to 23, minutes and seconds to 59, two or three digits of frames below the rate.
use Rattle.std.specs.Prelude.{ℕ, ◌+◌, ◌-◌, ◌*◌, ◌/◌, ◌%◌, ◌&&◌, nat_le, ◌==◌, if◌then◌else◌, List, [], ◌∷◌, ◌++◌, length, codes, Option, Some, None}
use Rattle.text_words.specs.Number.{number, number_text}

infixl 10 ◌>>=◌
abbrev pub ◌>>=◌ : {A B : Type 0} → Option A → (A → Option B) → Option B
(Some x) >>= f = f x
None >>= f = None

-- a number of two digits, at most high
abbrev pub pair_of : (high : ℕ) → (tens ones : ℕ) → Option ℕ
pair_of high tens ones = number 2 0 high (tens ∷ ones ∷ [])

abbrev pub frames_of : (rate : ℕ) → List ℕ → Option ℕ
frames_of rate digits = if nat_le 2 (length digits) then number 3 0 (rate - 1) digits else None

abbrev pub frame_number : (rate hours minutes seconds frames : ℕ) → ℕ
frame_number rate hours minutes seconds frames = (3600 * hours + 60 * minutes + seconds) * rate + frames

-- The frame number of a timecode.
unfoldable pub timecode : (rate : ℕ) → List ℕ → Option ℕ
timecode rate (h ∷ o ∷ first ∷ m ∷ i ∷ second ∷ s ∷ e ∷ third ∷ digits) = do
  hours ← pair_of 23 h o
  minutes ← pair_of 59 m i
  seconds ← pair_of 59 s e
  frames ← frames_of rate digits
  if (first == 58 && second == 58) && third == 58 then Some (frame_number rate hours minutes seconds frames) else None
timecode rate other = None

-- Each part in at least two digits.
unfoldable pub timecode_text : (rate frame : ℕ) → List ℕ
timecode_text rate frame =
    let seconds = frame / rate in
    number_text 2 (seconds / 3600) ++ codes ":" ++ number_text 2 (seconds / 60 % 60) ++ codes ":"
    ++ number_text 2 (seconds % 60) ++ codes ":" ++ number_text 2 (frame % rate)
