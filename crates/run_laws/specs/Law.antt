-- The laws of a run: with no pass beside main's, `nobody`, with an exporter and workers, `manned`, or with any number of these.
use Rattle.std.specs.Prelude.{◌≡◌, ◌⊎◌, ℕ, ◌≤◌, List, Some}
use Rattle.script_lang.specs.declared.script.Script.{Script}
use Rattle.pic_planes.specs.Picture.{Image}
use Rattle.play_head.specs.declared.halt.Halt.TheVariants as halt
use Rattle.timeline_app.specs.declared.outcome.Outcome.{Outcome}
use Rattle.timeline_app.specs.declared.words.Asked.{Asked}
use Rattle.timeline_app.specs.Course.{Course, Halted}
use Rattle.timeline_app.specs.Made.{Around, IsOver}
use Rattle.timeline_app.specs.Runs.{Ran, Runs}
use Rattle.timeline_app.specs.Session.{IsHead, fetched_by}
use Rattle.timeline_app.specs.Words.{AsksFor}
use Rattle.run_laws.specs.Room.{room, workers_in}
use Rattle.run_laws.specs.Sound.{IsSound, IsSoundSession}

-- The room of the script that the words name, with so many passes beside main's, is at most the limit that they give.
abbrev pub HasRoom : (others : ℕ → ℕ) → (words : List (List ℕ)) → (given : Around) → Type 0
HasRoom others words given = (asked : Asked) (over : Around) (head : Script) → AsksFor words asked → IsOver asked.script.now given over
    → IsHead (fetched_by over.tells.store over.old.store over.old.store) asked.script.now head
    → room (workers_in (others asked.workers)) head.body ≤ asked.journal

-- No call was refused since the journal was full: what stopped the script, where something did, is something else.
abbrev pub IsNeverRefused : Course Image → Type 0
IsNeverRefused c = (h : Halted Image) (len owing : ℕ) → c.halted ≡ Some h → h.why ≡ halt.JournalFull len owing → ⊥

-- So it is where the script's room is at most the limit, however many passes there are beside main's.
abbrev pub NeverRefused : Type 0
NeverRefused = (others : ℕ) (asked : Asked) (around : Around) (outcome : Outcome) (r : Ran others asked around outcome)
    → room (workers_in others) r.opening.script.body ≤ asked.journal → IsNeverRefused r.course

-- Nor does such a session end with the status of a full journal.
abbrev pub SessionNeverFull : Type 0
SessionNeverFull = (others : ℕ) (asked : Asked) (around : Around) (outcome : Outcome) (r : Ran others asked around outcome)
    → room (workers_in others) r.opening.script.body ≤ asked.journal → outcome.status ≡ 6 → ⊥

-- A session that is sound ends well, whether its store tells its files or not, but for want of memory.
abbrev pub SessionEndsWell : Type 0
SessionEndsWell = (others : ℕ) (asked : Asked) (around : Around) (outcome : Outcome) (r : Ran others asked around outcome)
    → IsSoundSession others asked around outcome r.opening → (outcome.status ≡ 0) ⊎ (outcome.status ≡ 5)

-- A run that has room doesn't end with a full journal.
abbrev pub NeverFull : Type 0
NeverFull = (others : ℕ → ℕ) (words : List (List ℕ)) (around : Around) (outcome : Outcome) → Runs others words around outcome
    → HasRoom others words around → outcome.status ≡ 6 → ⊥

-- A run over a sound outside succeeds, but for want of memory.
abbrev pub EndsWell : Type 0
EndsWell = (others : ℕ → ℕ) (words : List (List ℕ)) (around : Around) (outcome : Outcome) → Runs others words around outcome
    → IsSound others words around outcome → (outcome.status ≡ 0) ⊎ (outcome.status ≡ 5)
