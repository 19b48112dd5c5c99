-- What a run does, by its words, of the outside before and after it: it says how the program is used; or what keeps its session from
-- starting; or it plays the session.
use Rattle.std.specs.Prelude.{◌≡◌, ◌+◌, ◌⊎◌, ℕ, Bool, false, List, [], ◌∷◌, Result}
use Rattle.pic_planes.specs.Picture.{Image}
use Rattle.tl_model.specs.declared.journal.Entry.{Entry}
use Rattle.tl_ports.specs.declared.fault.PutFault.{PutFault}
use Rattle.tl_ports.specs.Seen.{Outside, SinkSeen}
use Rattle.edit_desk.specs.Desk.{DeskOf}
use Rattle.clip_store.specs.Library.{LibraryOf}
use Rattle.clip_store.specs.Render.{library_of}
use Rattle.script_lang.specs.declared.out_line.OutLine.{OutLine}
use Rattle.script_lang.specs.declared.out_line.OutLine.TheVariants as out
use Rattle.timeline_app.specs.declared.opening.Opening.{Opening}
use Rattle.timeline_app.specs.declared.outcome.Outcome.{Outcome}
use Rattle.timeline_app.specs.declared.session.HeadStop.{HeadStop}
use Rattle.timeline_app.specs.declared.words.Asked.{Asked}
use Rattle.timeline_app.specs.Course.{Course, Program, SaysBy, RunsCourse, program_for, session_at}
use Rattle.timeline_app.specs.Ending.{status_unless}
use Rattle.timeline_app.specs.Head.{head_line, head_status}
use Rattle.timeline_app.specs.Made.{Around, IsOver}
use Rattle.timeline_app.specs.Opening.{IsHeadCause, IsOpened}
use Rattle.timeline_app.specs.Session.{fetched_by}
use Rattle.timeline_app.specs.Words.{AsksFor, is_of_form}

-- ---- a session that is begun

-- How many passes there are beside main's, by the number of workers that is asked for.
abbrev pub nobody : ℕ → ℕ
nobody workers = 0

-- The exporter's pass, and that of each worker.
abbrev pub manned : ℕ → ℕ
manned workers = 1 + workers

-- What is played of it, beside so many passes.
abbrev pub program_of : Opening → (others : ℕ) → Around → Program LibraryOf Image
program_of o others around =
    program_for library_of (record { script = o.script; clips = o.clips; others = others }) around.old.store.file around.tells

-- Main's desk, of number 0, with a journal.
abbrev pub desk_at : Asked → LibraryOf → (journal : List Entry) → DeskOf LibraryOf (Unit {0})
desk_at asked library journal = record {
  fixed = record { number = 0; library = library; cache = asked.cache; limit = asked.journal; kept = tt };
  seen = journal;
}

-- ---- the cases

-- A lone line was put, or some front of it, and the status is this, or 5 where memory ran out for the line. The journal is empty.
pub record EndsEarly (tells : Bool) (old new : SinkSeen) (line : OutLine × ℕ) (outcome : Outcome) : Type 0 where
  pub said : Result Unit PutFault
  pub says : SaysBy tells old new (line.0 ∷ []) said
  pub status : outcome.status ≡ status_unless said line.1
  pub journal : outcome.journal ≡ []

-- Nothing was played: the store's files, the vault and the screen are as before.
pub record IsQuiet (old new : Outside) : Type 0 where
  pub files : new.store.file ≡ old.store.file
  pub vault : new.vault ≡ old.vault
  pub screen : new.screen ≡ old.screen

-- The session didn't start, and `out` got the line that says why.
pub record Unstarted (asked : Asked) (around : Around) (outcome : Outcome) : Type 0 where
  pub why : HeadStop
  pub cause : IsHeadCause (fetched_by around.tells.store around.old.store around.new.store) asked.script.now why
  pub says : EndsEarly around.tells.out around.old.out around.new.out (head_line why, head_status why) outcome
  pub quiet : IsQuiet around.old around.new

-- The session was played, with so many passes beside main's, from an empty journal to the one of the outcome.
pub record Ran (others : ℕ) (asked : Asked) (around : Around) (outcome : Outcome) : Type 0 where
  pub opening : Opening
  pub is : IsOpened (fetched_by around.tells.store around.old.store around.old.store) asked.script.now opening
  pub course : Course Image
  pub runs : RunsCourse (program_of opening others around) (session_at (desk_at asked opening.library []) around.old)
      (session_at (desk_at asked opening.library outcome.journal) around.new) course outcome.status

abbrev pub RunsAsked : (others : ℕ) → Asked → Around → Outcome → Type 0
RunsAsked others asked around outcome = Unstarted asked around outcome ⊎ Ran others asked around outcome

-- For `gen:N` the session runs over a store that is made.
abbrev pub RunsForm : (others : ℕ → ℕ) → Asked → Around → Outcome → Type 0
RunsForm others asked given outcome =
    (over : Around) × IsOver asked.script.now given over × RunsAsked (others asked.workers) asked over outcome

-- The words aren't of the form, and `out` got the line that says so; or memory ran out for reading them, or for the script and the clip
-- that they ask for.
pub record Misuses (form : Bool) (around : Around) (outcome : Outcome) : Type 0 where
  pub says : ((form ≡ false) × EndsEarly around.tells.out around.old.out around.new.out (out.Usage, 2) outcome)
      ⊎ EndsEarly around.tells.out around.old.out around.new.out (out.NoMemory, 5) outcome
  pub store : around.new.store ≡ around.old.store
  pub quiet : IsQuiet around.old around.new

-- All of a run: `others` says how many passes there are beside main's.
abbrev pub Runs : (others : ℕ → ℕ) → (words : List (List ℕ)) → Around → Outcome → Type 0
Runs others words around outcome = Misuses (is_of_form words) around outcome
    ⊎ ((asked : Asked) × AsksFor words asked × RunsForm others asked around outcome)
