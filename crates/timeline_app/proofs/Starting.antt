-- How a session that was asked for starts, or why it doesn't.
use Rattle.std.proofs.Common.{◌≡◌, ◌⊎◌, ℕ, List, [], inl, inr, refl, ap, subst, ◌∙◌}
use Rattle.pic_planes.specs.Picture.{Image}
use Rattle.tl_model.specs.declared.journal.Entry.{Entry}
use Rattle.tl_ports.specs.Seen.{StoreSeen}
use Rattle.turn_lock.specs.Passes.{TurnOf}
use Rattle.render_core.specs.Board.{BoardOf}
use Rattle.edit_desk.specs.Desk.{FixedOf, DeskOf}
use Rattle.clip_store.specs.Library.{LibraryOf}
use Rattle.script_lang.specs.declared.out_line.OutLine.TheVariants as out
use Rattle.timeline_app.specs.declared.opening.Opening.{Opening}
use Rattle.timeline_app.specs.declared.outcome.Outcome.{Outcome}
use Rattle.timeline_app.specs.declared.session.HeadStop.TheVariants as stop
use Rattle.timeline_app.specs.declared.words.Asked.{Asked}
use Rattle.timeline_app.specs.Course.{Course, RunsCourse, session_at}
use Rattle.timeline_app.specs.Made.{Around}
use Rattle.timeline_app.specs.Opening.{IsOpened}
use Rattle.timeline_app.specs.Runs.{EndsEarly, IsQuiet, RunsAsked, desk_at, program_of}
use Rattle.timeline_app.specs.Session.{fetched_by}
use Rattle.timeline_app.specs.Together.{main_desk}

-- ---- main's desk

-- a desk that begins is that of what was asked for
desk_there : (asked : Asked) (library : LibraryOf) (d : DeskOf LibraryOf (Unit {0})) → d.fixed ≡ (desk_at asked library []).fixed → d.seen ≡ [] → d ≡ desk_at asked library []
desk_there asked library d fixed seen =
    ap (λ (f : FixedOf LibraryOf (Unit {0})). record { fixed = f; seen = d.seen }) fixed
    ∙ ap (λ (es : List Entry). record { fixed = (desk_at asked library []).fixed; seen = es }) seen

-- and so is that of a studio that begins
studio_there : (asked : Asked) (library : LibraryOf) (studio : TurnOf (BoardOf LibraryOf)) (journal : List Entry) → studio.start.library ≡ library → studio.start.cache ≡ asked.cache → studio.start.limit ≡ asked.journal
    → main_desk studio journal ≡ desk_at asked library journal
studio_there asked library studio journal same cache limit =
    ap (λ (m : LibraryOf). record { fixed = record { number = 0; library = m; cache = studio.start.cache; limit = studio.start.limit; kept = tt }; seen = journal }) same
    ∙ ap (λ (n : ℕ). record { fixed = record { number = 0; library = library; cache = n; limit = studio.start.limit; kept = tt }; seen = journal }) cache
    ∙ ap (λ (n : ℕ). record { fixed = record { number = 0; library = library; cache = asked.cache; limit = n; kept = tt }; seen = journal }) limit

module _ (others : ℕ) (asked : Asked) (o : Opening) (around : Around) (journal : List Entry) (course : Course Image) (code : ℕ) where
  abbrev runs_over : (first last : DeskOf LibraryOf (Unit {0})) → Type 0
  runs_over first last = RunsCourse (program_of o others around) (session_at first around.old) (session_at last around.new) course code

  pub ran_alone : (d : DeskOf LibraryOf (Unit {0})) → d.fixed ≡ (desk_at asked o.library []).fixed → d.seen ≡ [] → runs_over d (record d { seen = journal })
      → runs_over (desk_at asked o.library []) (desk_at asked o.library journal)
  ran_alone d fixed seen runs = subst (λ (x : DeskOf LibraryOf (Unit {0})). runs_over x (record x { seen = journal })) (desk_there asked o.library d fixed seen) runs

  pub ran_manned : (studio : TurnOf (BoardOf LibraryOf)) → studio.start.library ≡ o.library → studio.start.cache ≡ asked.cache → studio.start.limit ≡ asked.journal
      → runs_over (main_desk studio []) (main_desk studio journal) → runs_over (desk_at asked o.library []) (desk_at asked o.library journal)
  ran_manned studio same cache limit runs =
      subst (λ (x : DeskOf LibraryOf (Unit {0})). runs_over x (desk_at asked o.library journal)) (studio_there asked o.library studio [] same cache limit)
      (subst (λ (x : DeskOf LibraryOf (Unit {0})). runs_over (main_desk studio []) x) (studio_there asked o.library studio journal same cache limit) runs)

-- ---- what was asked for

-- Memory ran out before the session began.
pub record Wants (around : Around) (outcome : Outcome) : Type 0 where
  pub says : EndsEarly around.tells.out around.old.out around.new.out (out.NoMemory, 5) outcome
  pub store : around.new.store ≡ around.old.store
  pub quiet : IsQuiet around.old around.new

-- A session that was opened is played from an empty journal to the one of the outcome, with so many passes beside main's; or memory ran
-- out before it began.
abbrev pub PlaysOpened : (others : ℕ) → Asked → Opening → Around → Outcome → Type 0
PlaysOpened others asked opening around outcome = Wants around outcome
    ⊎ ((course : Course Image) × RunsCourse (program_of opening others around) (session_at (desk_at asked opening.library []) around.old)
    (session_at (desk_at asked opening.library outcome.journal) around.new) course outcome.status)

-- a session that was opened over a store that is as it was
still_there : (others : ℕ) (asked : Asked) (o : Opening) (given : Around) (store : StoreSeen) (outcome : Outcome) → store ≡ given.old.store
    → IsOpened (fetched_by given.tells.store given.old.store given.old.store) asked.script.now o
    → PlaysOpened others asked o (record given { old = record given.old { store = store } }) outcome → RunsAsked others asked given outcome
still_there others asked o given store outcome same is (inl w) =
    inl (record { why = stop.NoMemory; cause = inr (refl, ap (λ (s : StoreSeen). s.faults) (w.store ∙ same)); says = w.says; quiet = record { files = ap (λ (s : StoreSeen). s.file) (w.store ∙ same); vault = w.quiet.vault; screen = w.quiet.screen } })
still_there others asked o given store outcome same is (inr r) = inr (record {
  opening = o;
  is = is;
  course = r.0;
  runs = subst (λ (s : StoreSeen). RunsCourse (program_of o others (record given { old = record given.old { store = s } })) (session_at (desk_at asked o.library []) (record given.old { store = s }))
      (session_at (desk_at asked o.library outcome.journal) given.new) r.0 outcome.status) same r.1;
})

pub asked_ran : (others : ℕ) (asked : Asked) (o : Opening) (given : Around) (store : StoreSeen) (outcome : Outcome) → store ≡ given.old.store
    → IsOpened (fetched_by given.tells.store given.old.store store) asked.script.now o
    → PlaysOpened others asked o (record given { old = record given.old { store = store } }) outcome → RunsAsked others asked given outcome
asked_ran others asked o given store outcome same is plays =
    still_there others asked o given store outcome same (subst (λ (s : StoreSeen). IsOpened (fetched_by given.tells.store given.old.store s) asked.script.now o) same is) plays
