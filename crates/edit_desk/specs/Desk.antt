-- What a caller knows of an editing core, and what a call adds to that.
use Rattle.std.specs.Prelude.{◌≡◌, ℕ, ◌+◌, ◌<◌, ◌≤◌, false, List, [], ◌∷◌, ◌++◌, length, None, IsTrue, Result, Ok, Err, ◌⊎◌}
use Rattle.std.specs.List.{position}
use Rattle.tl_limits.specs.Limits.{IsJournalLimit}
use Rattle.tl_model.specs.Media.{Library}
use Rattle.tl_model.specs.declared.journal.Act.{Act}
use Rattle.tl_model.specs.declared.journal.Act.TheVariants as act
use Rattle.tl_model.specs.declared.journal.Entry.{Entry}
use Rattle.tl_model.specs.declared.recipe.Recipe.{Recipe}
use Rattle.render_core.specs.declared.reply.Full.{Full}
use Rattle.render_core.specs.declared.reply.Full.TheVariants as full
use Rattle.render_core.specs.declared.reply.ClaimReply.{ClaimReply}
use Rattle.render_core.specs.declared.reply.ClaimReply.TheVariants as claims
use Rattle.render_core.specs.declared.reply.FileReply.{FileReply}
use Rattle.render_core.specs.declared.reply.ShowReply.{ShowReply}
use Rattle.render_core.specs.declared.reply.TakeReply.{TakeReply}
use Rattle.render_core.specs.declared.reply.TakeReply.TheVariants as takes
use Rattle.render_core.specs.Board.{of_file, of_show, of_take}
use Rattle.render_core.specs.Calls.{CallOf, calls_of, own, own_calls}
use Rattle.render_core.specs.Claim.{ClaimOf}
use Rattle.render_core.specs.Export.{is_untaken}
use Rattle.render_core.specs.State.{State, owed, is_queued}
use Rattle.render_core.specs.Step.{Setup, IsJournal, need, reply, state_after, picture_of}
use Rattle.render_core.specs.Step.{Reply, Edited, Wanted, Cancelled, PastEnd, Claimed, Filed, Released, Closed, Picture, Fault, Pending, Render, Asked, EmptyTimeline, Taken, Silent}

-- What no call changes: the caller's number, the library, the size of the cache, the most entries, and a part of the desk's own.
pub record FixedOf (M K : Type 0) : Type 0 where
  pub number : ℕ
  pub library : M
  pub cache : ℕ
  pub limit : ℕ
  pub kept : K

-- The entries that the caller has seen.
pub record DeskOf (M K : Type 0) : Type 0 where
  pub fixed : FixedOf M K
  pub seen : List Entry

-- An act, and how its answer is read as a reply.
pub record ActAs (R F : Type 0) : Type 0 where
  pub act : Act
  pub view : R → Reply F

-- A recipe that is to be rendered gives its render.
abbrev pub with_render : {F : Type 0} → Library F → Reply F → Reply F
with_render lib (Edited told) = Edited told
with_render lib (Wanted count) = Wanted count
with_render lib (Cancelled count) = Cancelled count
with_render lib (PastEnd len) = PastEnd len
with_render lib (Claimed job recipe) = Claimed job recipe
with_render lib Filed = Filed
with_render lib Released = Released
with_render lib (Closed at) = Closed at
with_render lib (Picture frame) = Picture frame
with_render lib (Fault fault) = Fault fault
with_render lib (Pending recipe) = Pending recipe
with_render lib (Render recipe) = picture_of (lib.render recipe)
with_render lib (Asked export) = Asked export
with_render lib EmptyTimeline = EmptyTimeline
with_render lib (Taken export name line) = Taken export name line
with_render lib Silent = Silent

-- The caller sees entries of others.
pub record Learns {M K : Type 0} (old new : DeskOf M K) : Type 0 where
  pub fixed : new.fixed ≡ old.fixed
  pub others : List Entry
  pub apart : own old.fixed.number others ≡ []
  pub seen : new.seen ≡ old.seen ++ others

module _ {M K F : Type 0} where
  abbrev pub setup_of : (M → Library F) → DeskOf M K → Setup F
  setup_of library d = record { library = library d.fixed.library; cache = d.fixed.cache }

  -- The state after what was seen.
  abbrev pub state_of : (M → Library F) → DeskOf M K → State
  state_of library d = state_after (setup_of library d) d.seen

  -- The caller's own calls, and what each was told.
  abbrev pub heard : (M → Library F) → DeskOf M K → List (CallOf F)
  heard library d = own_calls d.fixed.number (calls_of (setup_of library d) d.seen)

  -- What was seen is a legal journal within the limit.
  pub record IsDesk (library : M → Library F) (d : DeskOf M K) : Type 0 where
    pub legal : IsJournal (setup_of library d) d.seen
    pub within : length d.seen + owed (state_of library d) ≤ d.fixed.limit
    pub few : IsJournalLimit d.fixed.limit

  -- It sees entries of others, and then its own act, which is told the machine's reply.
  pub record Enters (library : M → Library F) (old new : DeskOf M K) (what : Act) (told : Reply F) : Type 0 where
    pub before : DeskOf M K
    pub learns : Learns old before
    pub fixed : new.fixed ≡ before.fixed
    pub seen : new.seen ≡ before.seen ++ record { pass = before.fixed.number; act = what } ∷ []
    pub answer : told ≡ reply (library before.fixed.library) what (state_of library before)

  -- Why a call is refused: the entries that it needs don't fit, or they do and memory ran out.
  abbrev pub IsFull : (M → Library F) → DeskOf M K → (count : ℕ) → Full → Type 0
  IsFull library d count (full.JournalFull len owing) =
      (len ≡ length d.seen) × (owing ≡ owed (state_of library d)) × (d.fixed.limit < len + owing + count)
  IsFull library d count full.NoMemory = length d.seen + owed (state_of library d) + count ≤ d.fixed.limit

  abbrev pub Answers : {R : Type 0} → (M → Library F) → (old new : DeskOf M K) → ActAs R F → Result R Full → Type 0
  Answers library old new call (Ok given) = Enters library old new call.act (call.view given)
  Answers library old new call (Err why) = Learns old new × IsFull library new (need call.act (state_of library new)) why

  -- A claim, or the cause for which there is none.
  abbrev pub Finds : (M → Library F) → (old new : DeskOf M K) → Result ClaimReply Full → Type 0
  Finds library old new (Ok (claims.Claimed claim)) = Enters library old new act.Claim (Claimed claim.job claim.recipe)
  Finds library old new (Ok (claims.Stopped len)) = Learns old new × (len ≡ length new.seen) × IsTrue (state_of library new).is_stopped
  Finds library old new (Ok (claims.Idle len)) =
      Learns old new × (len ≡ length new.seen) × ((state_of library new).is_stopped ≡ false)
      × (position is_queued (state_of library new).jobs ≡ None)
  Finds library old new (Err why) = Learns old new × IsFull library new 2 why

  -- An export, or the cause for which there is none.
  abbrev pub Takes : (M → Library F) → (old new : DeskOf M K) → TakeReply → Type 0
  Takes library old new (takes.Taken job) = Enters library old new act.Take (of_take job)
  Takes library old new (takes.Stopped len) =
      Learns old new × (len ≡ length new.seen) × IsTrue (state_of library new).is_stopped
      × (position is_untaken (state_of library new).exports ≡ None)
  Takes library old new (takes.Idle len) =
      Learns old new × (len ≡ length new.seen) × ((state_of library new).is_stopped ≡ false)
      × (position is_untaken (state_of library new).exports ≡ None)

  -- A result is filed or comes too late, or memory ran out and claim and result come back.
  abbrev pub Files : {V E : Type 0} → (M → Library F) → (old new : DeskOf M K) → ClaimOf × V → Result FileReply (ClaimOf × V × E) → Type 0
  Files library old new given (Ok told) = Enters library old new (act.File given.0.job) (of_file told)
  Files library old new given (Err back) = Learns old new × (back.0 ≡ given.0) × (back.1 ≡ given.1)

  -- A show is told what the machine replies, but the render of a recipe that isn't filed. Where that render wants memory its entry stays.
  abbrev pub Shows : (M → Library F) → (old new : DeskOf M K) (n : ℕ) → Result (ShowReply F) Full → Type 0
  Shows library old new n (Ok given) = (told : Reply F) × Enters library old new (act.Show n) told
      × (of_show given ≡ with_render (library old.fixed.library) told)
  Shows library old new n (Err (full.JournalFull len owing)) = Learns old new × IsFull library new 1 (full.JournalFull len owing)
  Shows library old new n (Err full.NoMemory) =
      (Learns old new × IsFull library new 1 full.NoMemory) ⊎ ((recipe : Recipe) × Enters library old new (act.Show n) (Render recipe))

  -- The caller hears these calls of its own and no others: what it knows of itself, whatever others enter.
  pub record Hears (library : M → Library F) (old new : DeskOf M K) (calls : List (CallOf F)) : Type 0 where
    pub fixed : new.fixed ≡ old.fixed
    pub more : List Entry
    pub seen : new.seen ≡ old.seen ++ more
    pub heard : heard library new ≡ heard library old ++ calls
