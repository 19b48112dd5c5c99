-- How an edit list is written.
use Rattle.std.specs.Prelude.{ℕ, ◌-◌, List, [], ◌∷◌, ◌++◌, length, replicate, flat_map, codes, Option, Some, None}
use Rattle.std.specs.Str.{chars}
use Rattle.text_words.specs.Number.{number_text}
use Rattle.text_words.specs.Timecode.{timecode_text}
use Rattle.edl_text.specs.declared.event.Edl.{Edl}
use Rattle.edl_text.specs.declared.event.Event.{Event}

-- A number of at least three digits, the reel in eight places, and the channel.
unfoldable pub head_text : Event → List ℕ
head_text e = number_text 3 e.number ++ codes "  " ++ e.reel ++ replicate (8 - length (chars e.reel)) 32 ++ codes " V     "

-- `C`, or `D` and the duration in three digits, in nine places.
unfoldable pub kind_text : (duration : Option ℕ) → List ℕ
kind_text None = codes "C        "
kind_text (Some frames) = codes "D    " ++ number_text 3 frames ++ codes " "

unfoldable pub times_text : (rate : ℕ) → Event → List ℕ
times_text rate e =
    timecode_text rate e.source_in ++ codes " " ++ timecode_text rate e.source_out ++ codes " "
    ++ timecode_text rate e.record_in ++ codes " " ++ timecode_text rate e.record_out

abbrev pub event_line : (rate : ℕ) → Event → List ℕ
event_line rate e = head_text e ++ kind_text e.duration ++ times_text rate e

abbrev pub name_lines : (keyword : List ℕ) → Option (List ℕ) → List (List ℕ)
name_lines keyword None = []
name_lines keyword (Some name) = (keyword ++ name) ∷ []

-- An event and its names.
abbrev pub event_lines : (rate : ℕ) → Event → List (List ℕ)
event_lines rate e = event_line rate e ∷ (name_lines (codes "* FROM CLIP NAME: ") e.from ++ name_lines (codes "* TO CLIP NAME: ") e.to)

abbrev pub list_lines : (rate : ℕ) → Edl → List (List ℕ)
list_lines rate l = (codes "TITLE: " ++ l.title) ∷ codes "FCM: NON-DROP FRAME" ∷ flat_map (event_lines rate) l.events

-- Each line with its line feed.
unfoldable pub joined : List (List ℕ) → List ℕ
joined [] = []
joined (line ∷ more) = line ++ 10 ∷ joined more

abbrev pub list_text : (rate : ℕ) → Edl → List ℕ
list_text rate l = joined (list_lines rate l)
