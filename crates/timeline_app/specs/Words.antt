-- The words of the command line: SCRIPT [--workers N] [--cache N] [--journal N].
use Rattle.std.specs.Prelude.{◌≡◌, ◌⊎◌, ◌≤◌, ◌==◌, ◌&&◌, if◌then◌else◌, not, ℕ, Bool, true, false, List, [], ◌∷◌, length}
use Rattle.std.specs.Prelude.{take, drop, codes, Option, Some, None, Result, Ok, Err}
use Rattle.std.specs.Option.{is_some}
use Rattle.std.specs.Str.{bytes_eq}
use Rattle.std.specs.Str.Parse.{digits_value, without_leading_plus}
use Rattle.clap.specs.Values.{IsUnsignedIn}
use Rattle.clap.specs.Simple.{new_shape}
use Rattle.clap.specs.Words.{App, Row, Rule, Text, matches_of, first_of, one_of, fault_of, new_rule}
use Rattle.clap.specs.declared.builder.action.ArgAction.TheVariants.{Set}
use Rattle.clap.specs.declared.builder.value_parser.ValueParser.TheVariants as parser
use Rattle.text_words.specs.Number.{number}
use Rattle.work_gen.specs.Answer.{max_generated}
use Rattle.timeline_app.specs.declared.words.Asked.{Asked}
use Rattle.timeline_app.specs.declared.words.Bounds.{Bounds}

-- The numbers that an option takes, and the usual one.
abbrev pub worker_bounds : Bounds
worker_bounds = record { least = 0; most = 16; usual = 2 }

abbrev pub cache_bounds : Bounds
cache_bounds = record { least = 1; most = 4096; usual = 64 }

abbrev pub journal_bounds : Bounds
journal_bounds = record { least = 16; most = 4000000; usual = 1000000 }

-- SCRIPT, the one word that belongs to no option.
abbrev pub script_rule : Rule
script_rule = record (new_rule (codes "SCRIPT")) { required = true; action = Some Set }

abbrev pub number_rule : (id : Text) → Bounds → Rule
number_rule id bounds = record (new_rule id) { long = Some id; action = Some Set; parser = Some (parser.Unsigned bounds.least bounds.most) }

abbrev pub command : App
command = record {
  top = record (new_shape (codes "timeline")) {
    no_binary_name = true;
    rules = script_rule ∷ number_rule (codes "workers") worker_bounds ∷ number_rule (codes "cache") cache_bounds
        ∷ number_rule (codes "journal") journal_bounds ∷ [];
  };
  subs = [];
}

-- ---- SCRIPT

-- A text begins with another.
abbrev pub begins_with : (front text : Text) → Bool
begins_with front text = bytes_eq (take (length front) text) front

-- The number N of a name `gen:N`, from 1 to 1,000 in at most four digits, the first of them no 0. Other names have none.
unfoldable pub made_frames : Text → Option ℕ
made_frames script =
    if begins_with (codes "gen:") script && not (begins_with (codes "gen:0") script) then number 4 1 max_generated (drop 4 script) else None

-- A name that begins with `gen:` is right where it has such a number, and any other as it is.
abbrev pub is_name : Text → Bool
is_name script = if begins_with (codes "gen:") script then is_some (made_frames script) else true

abbrev pub is_named : Option Text → Bool
is_named None = false
is_named (Some script) = is_name script

-- ---- all words

-- The command accepts the words, and the script's name is right.
abbrev pub is_of_form : List Text → Bool
is_of_form words = (length (fault_of command words) == 0) && is_named (first_of (codes "SCRIPT") (matches_of command words))

-- Its text is a number within the bounds.
abbrev pub IsWithin : Bounds → Text → Type 0
IsWithin bounds text = IsUnsignedIn bounds.least bounds.most text

-- The usual number where the option isn't given, else the one that its text is. It is within the bounds.
pub record IsNumber (bounds : Bounds) (given : Option Text) (n : ℕ) : Type 0 where
  pub usual : given ≡ None → n ≡ bounds.usual
  pub read : (text : Text) → given ≡ Some text → IsWithin bounds text → n ≡ digits_value 10 (without_leading_plus text)
  pub least : bounds.least ≤ n
  pub most : n ≤ bounds.most

-- What the rows of the command ask for.
pub record IsAsked (rows : List Row) (asked : Asked) : Type 0 where
  pub script : first_of (codes "SCRIPT") rows ≡ Some asked.script.now
  pub workers : IsNumber worker_bounds (one_of (codes "workers") rows) asked.workers
  pub cache : IsNumber cache_bounds (one_of (codes "cache") rows) asked.cache
  pub journal : IsNumber journal_bounds (one_of (codes "journal") rows) asked.journal

abbrev pub AsksBy : List Row → Option Asked → Type 0
AsksBy rows None = is_named (first_of (codes "SCRIPT") rows) ≡ false
AsksBy rows (Some asked) = (is_named (first_of (codes "SCRIPT") rows) ≡ true) × IsAsked rows asked

-- What the words ask for, or none exactly where they aren't of the form.
abbrev pub AsksWords : List Text → Option Asked → Type 0
AsksWords words None = is_of_form words ≡ false
AsksWords words (Some asked) = (is_of_form words ≡ true) × IsAsked (matches_of command words) asked

-- Nothing is said where memory ran out.
abbrev pub ReadsWords : {E : Type 0} → List Text → Result (Option Asked) E → Type 0
ReadsWords words (Ok asked) = AsksWords words asked
ReadsWords words (Err error) = Unit {0}

-- The words are of the form, and ask for this.
pub record AsksFor (words : List Text) (asked : Asked) : Type 0 where
  pub form : is_of_form words ≡ true
  pub is : IsAsked (matches_of command words) asked

-- Whether the session they ask for has workers. Nothing is said where memory ran out.
abbrev pub WantsThreads : {E : Type 0} → List Text → Result Bool E → Type 0
WantsThreads words (Ok true) = (asked : Asked) × AsksFor words asked × (1 ≤ asked.workers)
WantsThreads words (Ok false) = (is_of_form words ≡ false) ⊎ ((asked : Asked) × AsksFor words asked × (asked.workers ≡ 0))
WantsThreads words (Err error) = Unit {0}
