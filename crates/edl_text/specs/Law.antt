-- Which lists are written so that they are read back.
use Rattle.std.specs.Prelude.{◌≡◌, ℕ, ◌*◌, ◌<◌, IsTrue, List, [], ◌∷◌, map, Option, Some, None, Ok}
use Rattle.std.specs.Str.{is_utf8}
use Rattle.tl_limits.specs.Limits.{IsRate}
use Rattle.text_words.specs.declared.blanks.Blanks.TheVariants.{SpaceTab}
use Rattle.text_words.specs.Blanks.{trimmed}
use Rattle.text_words.specs.Law.{is_line, is_word}
use Rattle.edl_text.specs.declared.event.Edl.{Edl}
use Rattle.edl_text.specs.declared.event.Event.{Event}
use Rattle.edl_text.specs.List.{edl}
use Rattle.edl_text.specs.Writing.{list_text}

-- A title or a name: text of one line without blanks at its ends.
pub record IsName (text : List ℕ) : Type 0 where
  pub utf8 : IsTrue (is_utf8 text)
  pub line : IsTrue (is_line text)
  pub bare : trimmed SpaceTab text ≡ text

abbrev pub IsNameOrNone : Option (List ℕ) → Type 0
IsNameOrNone None = Unit {0}
IsNameOrNone (Some name) = IsName name

abbrev pub IsDuration : Option ℕ → Type 0
IsDuration None = Unit {0}
IsDuration (Some frames) = frames < 1000

-- The numbers have a spelling, times lie within 24 hours, and the reel is one word.
pub record IsWritableEvent (rate : ℕ) (e : Event) : Type 0 where
  pub number : e.number < 1000000
  pub reel_text : IsTrue (is_utf8 e.reel)
  pub reel_line : IsTrue (is_line e.reel)
  pub reel_word : IsTrue (is_word SpaceTab e.reel)
  pub duration : IsDuration e.duration
  pub source_in : e.source_in < 86400 * rate
  pub source_out : e.source_out < 86400 * rate
  pub record_in : e.record_in < 86400 * rate
  pub record_out : e.record_out < 86400 * rate
  pub from : IsNameOrNone e.from
  pub to : IsNameOrNone e.to

abbrev pub AreWritable : (rate : ℕ) → List Event → Type 0
AreWritable rate [] = Unit {0}
AreWritable rate (e ∷ more) = IsWritableEvent rate e × AreWritable rate more

-- Events of one number have equal names.
abbrev pub Agrees : Event → List Event → Type 0
Agrees e [] = Unit {0}
Agrees e (f ∷ more) = (f.number ≡ e.number → (f.from ≡ e.from) × (f.to ≡ e.to)) × Agrees e more

abbrev pub AllAgree : List Event → Type 0
AllAgree [] = Unit {0}
AllAgree (e ∷ more) = Agrees e more × AllAgree more

pub record IsWritable (rate : ℕ) (l : Edl) : Type 0 where
  pub title : IsName l.title
  pub events : AreWritable rate l.events
  pub names : AllAgree l.events

-- an event without the number of its line
abbrev pub without_line : Event → Event
without_line e = record e { line = 0 }

-- Two lists are the same but for their line numbers.
pub record IsSameList (a b : Edl) : Type 0 where
  pub title : a.title ≡ b.title
  pub events : map without_line a.events ≡ map without_line b.events

-- What is written is read back, but for line numbers.
abbrev pub ReadBack : Type 0
ReadBack = (rate : ℕ) (l : Edl) → IsRate rate → IsWritable rate l
    → (list : Edl) × (edl rate (list_text rate l) ≡ Ok list) × IsSameList list l
