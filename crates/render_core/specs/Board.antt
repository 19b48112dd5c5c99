-- The board as contracts see it, and what its calls answer.
use Rattle.std.specs.Prelude.{◌≡◌, ℕ, ◌+◌, ◌<◌, ◌≤◌, false, List, [], ◌∷◌, ◌++◌, length, Option, Some, None, IsSome, IsTrue, Result, Ok, Err}
use Rattle.std.specs.Arc.{arc_value}
use Rattle.std.specs.List.{position}
use Rattle.tl_limits.specs.Limits.{IsJournalLimit}
use Rattle.tl_model.specs.Cells.{cells}
use Rattle.tl_model.specs.Media.{Library}
use Rattle.tl_model.specs.declared.edit.EditReply.{EditReply}
use Rattle.tl_model.specs.declared.journal.Act.{Act}
use Rattle.tl_model.specs.declared.journal.Act.TheVariants as act
use Rattle.tl_model.specs.declared.journal.Entry.{Entry}
use Rattle.tl_model.specs.declared.recipe.Recipe.{Recipe}
use Rattle.render_core.specs.declared.reply.Full.{Full}
use Rattle.render_core.specs.declared.reply.Full.TheVariants as full
use Rattle.render_core.specs.declared.reply.WantReply.{WantReply}
use Rattle.render_core.specs.declared.reply.WantReply.TheVariants as want
use Rattle.render_core.specs.declared.reply.CancelReply.{CancelReply}
use Rattle.render_core.specs.declared.reply.CancelReply.TheVariants as cancel
use Rattle.render_core.specs.declared.reply.ClaimReply.{ClaimReply}
use Rattle.render_core.specs.declared.reply.ClaimReply.TheVariants as claims
use Rattle.render_core.specs.declared.reply.FileReply.{FileReply}
use Rattle.render_core.specs.declared.reply.FileReply.TheVariants as file
use Rattle.render_core.specs.declared.reply.ReleaseReply.{ReleaseReply}
use Rattle.render_core.specs.declared.reply.ReleaseReply.TheVariants as release
use Rattle.render_core.specs.declared.reply.PlayReply.{PlayReply}
use Rattle.render_core.specs.declared.reply.PlayReply.TheVariants as play
use Rattle.render_core.specs.declared.reply.ShowReply.{ShowReply}
use Rattle.render_core.specs.declared.reply.ShowReply.TheVariants as show
use Rattle.render_core.specs.declared.reply.AskReply.{AskReply}
use Rattle.render_core.specs.declared.reply.AskReply.TheVariants as ask
use Rattle.render_core.specs.declared.reply.TakeReply.{TakeReply}
use Rattle.render_core.specs.declared.reply.TakeReply.TheVariants as takes
use Rattle.render_core.specs.Calls.{CallOf}
use Rattle.render_core.specs.Claim.{ClaimOf}
use Rattle.render_core.specs.Export.{ExportJobOf, is_untaken}
use Rattle.render_core.specs.State.{State, owed, is_queued}
use Rattle.render_core.specs.Step.{Setup, IsJournal, IsLegal, need, reply, state_after}
use Rattle.render_core.specs.Step.{Reply, Edited, Wanted, Cancelled, PastEnd, Claimed, Filed, Released, Closed, Picture, Fault, Pending, Render, Asked, EmptyTimeline, Taken, Silent}

-- The library, the size of the cache, the most entries, the journal, and how many entries need no memory beyond those owed.
pub record BoardOf (M : Type 0) : Type 0 where
  pub library : M
  pub cache : ℕ
  pub limit : ℕ
  pub journal : List Entry
  pub spare : ℕ

-- A call: its pass, its act, and how its answer is read as a reply.
pub record CallAs (R F : Type 0) : Type 0 where
  pub pass : ℕ
  pub act : Act
  pub view : R → Reply F

abbrev pub told_by : {R F : Type 0} → CallAs R F → R → CallOf F
told_by call given = record { pass = call.pass; act = call.act; told = call.view given }

abbrev pub of_edit : {F : Type 0} → EditReply → Reply F
of_edit reply = Edited reply

abbrev pub of_want : {F : Type 0} → WantReply → Reply F
of_want (want.Wanted count) = Wanted count
of_want (want.PastEnd len) = PastEnd len

abbrev pub of_cancel : {F : Type 0} → CancelReply → Reply F
of_cancel (cancel.Cancelled count) = Cancelled count
of_cancel (cancel.PastEnd len) = PastEnd len

abbrev pub of_file : {F : Type 0} → FileReply → Reply F
of_file file.Filed = Filed
of_file (file.Closed at) = Closed at

abbrev pub of_release : {F : Type 0} → ReleaseReply → Reply F
of_release release.Released = Released
of_release (release.Closed at) = Closed at

abbrev pub of_play : {F : Type 0} → PlayReply F → Reply F
of_play (play.Frame frame) = Picture (arc_value frame)
of_play (play.Fault fault) = Fault fault
of_play (play.Pending recipe) = Pending recipe
of_play (play.PastEnd len) = PastEnd len

abbrev pub of_show : {F : Type 0} → ShowReply F → Reply F
of_show (show.Frame frame) = Picture (arc_value frame)
of_show (show.Fault fault) = Fault fault
of_show (show.Render recipe) = Render recipe
of_show (show.PastEnd len) = PastEnd len

abbrev pub of_ask : {F : Type 0} → AskReply → Reply F
of_ask (ask.Asked export) = Asked export
of_ask ask.EmptyTimeline = EmptyTimeline

abbrev pub of_take : {F : Type 0} → ExportJobOf → Reply F
of_take job = Taken job.export job.name (cells job.segments)

-- A call that answers nothing.
abbrev pub of_done : {F : Type 0} → Unit {0} → Reply F
of_done done = Silent

-- The same but for the room that is left, which is no less.
pub record IsSame {M : Type 0} (old new : BoardOf M) : Type 0 where
  pub library : new.library ≡ old.library
  pub cache : new.cache ≡ old.cache
  pub limit : new.limit ≡ old.limit
  pub journal : new.journal ≡ old.journal
  pub room : old.spare ≤ new.spare

module _ {M F : Type 0} where
  -- What the board's session is played with.
  abbrev pub setup_of : (M → Library F) → BoardOf M → Setup F
  setup_of library b = record { library = library b.library; cache = b.cache }

  -- The state that the board stands for.
  abbrev pub state_of : (M → Library F) → BoardOf M → State
  state_of library b = state_after (setup_of library b) b.journal

  -- So many more entries are within the limit.
  abbrev pub HasRoom : (M → Library F) → BoardOf M → ℕ → Type 0
  HasRoom library b count = length b.journal + owed (state_of library b) + count ≤ b.limit

  -- One entry more, which may come there.
  pub record Adds (library : M → Library F) (old new : BoardOf M) (pass : ℕ) (what : Act) : Type 0 where
    pub library_stays : new.library ≡ old.library
    pub cache : new.cache ≡ old.cache
    pub limit : new.limit ≡ old.limit
    pub journal : new.journal ≡ old.journal ++ record { pass = pass; act = what } ∷ []
    pub legal : IsLegal pass what (state_of library old)

  -- A call adds its entry and is told the machine's reply. One that has no entry leaves the board the same.
  abbrev pub Makes : (M → Library F) → (old new : BoardOf M) → Option (CallOf F) → Type 0
  Makes library old new None = IsSame old new
  Makes library old new (Some call) = Adds library old new call.pass call.act
      × (call.told ≡ reply (library old.library) call.act (state_of library old))

  -- A refusal changes nothing. `JournalFull` comes exactly where the entries don't fit, before any want of memory.
  abbrev pub Refuses : (M → Library F) → (old new : BoardOf M) (count : ℕ) → Full → Type 0
  Refuses library old new count (full.JournalFull len owing) =
      Makes library old new None × (len ≡ length old.journal) × (owing ≡ owed (state_of library old)) × (old.limit < len + owing + count)
  Refuses library old new count full.NoMemory = Makes library old new None × HasRoom library old count

  -- A call adds its entry and gives the machine's reply, or is refused.
  abbrev pub Does : {R : Type 0} → (M → Library F) → (old new : BoardOf M) → CallAs R F → Result R Full → Type 0
  Does library old new call (Ok given) = HasRoom library old (need call.act (state_of library old))
      × Makes library old new (Some (told_by call given))
  Does library old new call (Err why) = Refuses library old new (need call.act (state_of library old)) why

  -- A call whose entry was owed adds it and gives the machine's reply, out of the room that was kept for it.
  pub record Pays {R : Type 0} (library : M → Library F) (old new : BoardOf M) (call : CallAs R F) (given : R) : Type 0 where
    pub made : Makes library old new (Some (told_by call given))
    pub spare : new.spare ≡ old.spare

  -- Room for some entries more, or why there is none.
  abbrev pub MakesRoom : (M → Library F) → (old new : BoardOf M) (count : ℕ) → Result Unit Full → Type 0
  MakesRoom library old new count (Ok done) = IsSame old new × HasRoom library old count × (count ≤ new.spare) × (count ≤ old.spare
      → new.spare ≡ old.spare)
  MakesRoom library old new count (Err (full.JournalFull len owing)) = (new ≡ old)
      × Refuses library old new count (full.JournalFull len owing)
  MakesRoom library old new count (Err full.NoMemory) = Refuses library old new count full.NoMemory × (old.spare < count)

  -- A claim takes the lowest queued job; `Stopped` comes exactly where there is a stop, else `Idle` exactly where no job is queued.
  abbrev pub Claims : (M → Library F) → (old new : BoardOf M) (pass : ℕ) → Result ClaimReply Full → Type 0
  Claims library old new pass (Ok (claims.Claimed claim)) =
      HasRoom library old 2 × Makes library old new (Some (record { pass = pass; act = act.Claim; told = Claimed claim.job claim.recipe }))
  Claims library old new pass (Ok (claims.Stopped len)) = (new ≡ old) × (len ≡ length old.journal)
      × IsTrue (state_of library old).is_stopped
  Claims library old new pass (Ok (claims.Idle len)) =
      (new ≡ old) × (len ≡ length old.journal) × ((state_of library old).is_stopped ≡ false)
      × (position is_queued (state_of library old).jobs ≡ None)
  Claims library old new pass (Err why) =
      ((state_of library old).is_stopped ≡ false) × IsSome (position is_queued (state_of library old).jobs) × Refuses library old new 2 why

  -- A take has the lowest untaken export; where there is none it answers `Stopped` exactly where there is a stop, else `Idle`.
  abbrev pub Takes : (M → Library F) → (old new : BoardOf M) (pass : ℕ) → TakeReply → Type 0
  Takes library old new pass (takes.Taken job) = Pays library old new (record { pass = pass; act = act.Take; view = of_take }) job
  Takes library old new pass (takes.Stopped len) =
      (new ≡ old) × (len ≡ length old.journal) × IsTrue (state_of library old).is_stopped
      × (position is_untaken (state_of library old).exports ≡ None)
  Takes library old new pass (takes.Idle len) =
      (new ≡ old) × (len ≡ length old.journal) × ((state_of library old).is_stopped ≡ false)
      × (position is_untaken (state_of library old).exports ≡ None)

-- What the board keeps beside the machine: its state, the journal, the limit, how many entries are owed, and how many fit.
pub record Ledger : Type 0 where
  pub state : State
  pub journal : List Entry
  pub limit : ℕ
  pub owing : ℕ
  pub room : ℕ

-- The state is that after the journal, which is legal; what is owed is within the limit and has memory.
pub record IsBoard {F : Type 0} (setup : Setup F) (b : Ledger) : Type 0 where
  pub stands : b.state ≡ state_after setup b.journal
  pub legal : IsJournal setup b.journal
  pub owes : b.owing ≡ owed b.state
  pub within : length b.journal + b.owing ≤ b.limit
  pub few : IsJournalLimit b.limit
  pub kept : length b.journal + b.owing ≤ b.room

-- A journal of so many entries with so many owed, its limit, and how many more are needed.
pub record Demand : Type 0 where
  pub len : ℕ
  pub owing : ℕ
  pub limit : ℕ
  pub count : ℕ

abbrev pub total : Demand → ℕ
total d = d.len + d.owing + d.count

-- Room for some entries, or why there is none. Room that is there is left as it is.
abbrev pub RoomFor : Demand → (old new : ℕ) → Result Unit Full → Type 0
RoomFor d old new (Ok done) = (total d ≤ d.limit) × (total d ≤ new) × (old ≤ new) × (total d ≤ old → new ≡ old)
RoomFor d old new (Err (full.JournalFull told owes)) = (new ≡ old) × (told ≡ d.len) × (owes ≡ d.owing) × (d.limit < total d)
RoomFor d old new (Err full.NoMemory) = (new ≡ old) × (total d ≤ d.limit) × (old < total d)

-- A fact for the claim that is answered.
abbrev pub IfClaimed : Result ClaimReply Full → (ClaimOf → Type 0) → Type 0
IfClaimed (Ok (claims.Claimed claim)) fact = fact claim
IfClaimed (Ok (claims.Stopped len)) fact = Unit {0}
IfClaimed (Ok (claims.Idle len)) fact = Unit {0}
IfClaimed (Err why) fact = Unit {0}

-- A fact for the export that is taken.
abbrev pub IfTaken : TakeReply → (ExportJobOf → Type 0) → Type 0
IfTaken (takes.Taken job) fact = fact job
IfTaken (takes.Stopped len) fact = Unit {0}
IfTaken (takes.Idle len) fact = Unit {0}

-- A fact for the recipe that isn't filed.
abbrev pub AtPending : {F : Type 0} → PlayReply F → (Recipe → Type 0) → Type 0
AtPending (play.Frame frame) fact = Unit {0}
AtPending (play.Fault fault) fact = Unit {0}
AtPending (play.Pending recipe) fact = fact recipe
AtPending (play.PastEnd len) fact = Unit {0}

abbrev pub IfPending : {F E : Type 0} → Result (PlayReply F) E → (Recipe → Type 0) → Type 0
IfPending (Ok given) fact = AtPending given fact
IfPending (Err why) fact = Unit {0}

abbrev pub AtRender : {F : Type 0} → ShowReply F → (Recipe → Type 0) → Type 0
AtRender (show.Frame frame) fact = Unit {0}
AtRender (show.Fault fault) fact = Unit {0}
AtRender (show.Render recipe) fact = fact recipe
AtRender (show.PastEnd len) fact = Unit {0}

abbrev pub IfRender : {F E : Type 0} → Result (ShowReply F) E → (Recipe → Type 0) → Type 0
IfRender (Ok given) fact = AtRender given fact
IfRender (Err why) fact = Unit {0}
