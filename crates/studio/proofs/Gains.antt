-- What each kind of call leaves of a board.
use Rattle.std.proofs.Common.{◌≡◌, ℕ, [], ◌∷◌, Result, Ok, Err, refl, sym, subst, ◌∙◌, rules}
use Rattle.std.specs.Prelude.{MatchResult}
use Rattle.std.proofs.lemmas.List.{append-nil}
use Rattle.tl_model.specs.Media.{Library, RenderedOf}
use Rattle.tl_model.specs.declared.journal.Act.{Act}
use Rattle.tl_model.specs.declared.journal.Act.TheVariants as act
use Rattle.render_core.specs.declared.reply.Full.{Full}
use Rattle.render_core.specs.declared.reply.Full.TheVariants as full
use Rattle.render_core.specs.declared.reply.ClaimReply.{ClaimReply}
use Rattle.render_core.specs.declared.reply.ClaimReply.TheVariants as claims
use Rattle.render_core.specs.declared.reply.TakeReply.{TakeReply}
use Rattle.render_core.specs.declared.reply.TakeReply.TheVariants as takes
use Rattle.render_core.specs.declared.reply.FileReply.{FileReply}
use Rattle.render_core.specs.Board.{BoardOf, CallAs, IsSame, Adds, Refuses, Does, Pays, Claims, Takes, of_file, state_of}
use Rattle.render_core.specs.Claim.{ClaimOf}
use Rattle.render_core.specs.State.{Holds}
use Rattle.edit_desk.proofs.Calls.{same_fixed}
use Rattle.studio.specs.Grows.{Grows}

module _ {M F : Type 0} (library : M → Library F) where
  same_grows : (pass : ℕ) (old new : BoardOf M) → IsSame old new → Grows pass old new
  same_grows pass old new s = record {
    fixed = same_fixed library 0 tt old new s.library s.cache s.limit;
    adds = ([], s.journal ∙ sym (append-nil old.journal), search rules);
  }

  itself : (pass : ℕ) (old new : BoardOf M) → new ≡ old → Grows pass old new
  itself pass old new e = subst (λ (b : BoardOf M). Grows pass old b) (sym e) record { fixed = refl; adds = ([], sym (append-nil old.journal), search rules) }

  adds_grows : (pass : ℕ) (old new : BoardOf M) (what : Act) → Adds library old new pass what → Grows pass old new
  adds_grows pass old new what h = record {
    fixed = same_fixed library 0 tt old new h.library_stays h.cache h.limit;
    adds = (record { pass = pass; act = what } ∷ [], h.journal, search rules);
  }

  refused_grows : (pass : ℕ) (old new : BoardOf M) (count : ℕ) (why : Full) → Refuses library old new count why → Grows pass old new
  refused_grows pass old new count (full.JournalFull len owing) h = same_grows pass old new h.0
  refused_grows pass old new count full.NoMemory h = same_grows pass old new h.0

  pub does_grows : {R : Type 0} (old new : BoardOf M) (call : CallAs R F) (result : Result R Full) → Does library old new call result → Grows call.pass old new
  does_grows old new call (Ok given) h = adds_grows call.pass old new call.act h.1.0
  does_grows old new call (Err why) h = refused_grows call.pass old new _ why h

  pub pays_grows : {R : Type 0} (old new : BoardOf M) (call : CallAs R F) (given : R) → Pays library old new call given → Grows call.pass old new
  pays_grows old new call given h = adds_grows call.pass old new call.act h.made.0

  pub claims_grows : (pass : ℕ) (old new : BoardOf M) (result : Result ClaimReply Full) → Claims library old new pass result → Grows pass old new
  claims_grows pass old new (Ok (claims.Claimed claim)) h = adds_grows pass old new _ h.1.0
  claims_grows pass old new (Ok (claims.Stopped len)) h = itself pass old new h.0
  claims_grows pass old new (Ok (claims.Idle len)) h = itself pass old new h.0
  claims_grows pass old new (Err why) h = refused_grows pass old new 2 why h.2

  pub takes_grows : (pass : ℕ) (old new : BoardOf M) (result : TakeReply) → Takes library old new pass result → Grows pass old new
  takes_grows pass old new (takes.Taken job) h = pays_grows old new _ job h
  takes_grows pass old new (takes.Stopped len) h = itself pass old new h.0
  takes_grows pass old new (takes.Idle len) h = itself pass old new h.0

  -- a claim whose file wants memory is still held
  pub still_held : {E : Type 0} (old new : BoardOf M) (number : ℕ) (claim : ClaimOf) (value : RenderedOf M) (result : Result FileReply (ClaimOf × RenderedOf M × E)) → MatchResult result (λ given. Pays library old new (record { pass = number; act = act.File claim.job; view = of_file }) given) (λ back. (new ≡ old) × (back.0 ≡ claim) × (back.1 ≡ value))
      → Holds (state_of library old) number claim.job claim.recipe → MatchResult result (λ _. Unit {0}) (λ back. Holds (state_of library new) number claim.job claim.recipe)
  still_held old new number claim value (Ok given) h held = tt
  still_held old new number claim value (Err back) h held = subst (λ (b : BoardOf M). Holds (state_of library b) number claim.job claim.recipe) (sym h.0) held

  pub file_grows : {E : Type 0} (old new : BoardOf M) (number : ℕ) (claim : ClaimOf) (value : RenderedOf M) (result : Result FileReply (ClaimOf × RenderedOf M × E)) → MatchResult result (λ given. Pays library old new (record { pass = number; act = act.File claim.job; view = of_file }) given) (λ back. (new ≡ old) × (back.0 ≡ claim) × (back.1 ≡ value)) → Grows number old new
  file_grows old new number claim value (Ok given) h = pays_grows old new _ given h
  file_grows old new number claim value (Err back) h = itself number old new h.0
