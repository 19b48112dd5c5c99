-- What a call of a board is for its caller.
use Rattle.std.proofs.Common.{◌≡◌, ℕ, List, [], Some, Result, Ok, Err, inl, inr, refl, sym, ap, subst, ◌∙◌}
use Rattle.std.specs.Prelude.{MatchResult}
use Rattle.std.proofs.lemmas.List.{append-nil}
use Rattle.tl_model.specs.Media.{Library}
use Rattle.tl_model.specs.declared.journal.Act.{Act}
use Rattle.tl_model.specs.declared.journal.Act.TheVariants as act
use Rattle.tl_model.specs.declared.journal.Entry.{Entry}
use Rattle.render_core.specs.declared.reply.Full.{Full}
use Rattle.render_core.specs.declared.reply.Full.TheVariants as full
use Rattle.render_core.specs.declared.reply.ClaimReply.{ClaimReply}
use Rattle.render_core.specs.declared.reply.ClaimReply.TheVariants as claims
use Rattle.render_core.specs.declared.reply.FileReply.{FileReply}
use Rattle.render_core.specs.declared.reply.TakeReply.{TakeReply}
use Rattle.render_core.specs.declared.reply.TakeReply.TheVariants as takes
use Rattle.render_core.specs.Board as board
use Rattle.render_core.specs.Board.{BoardOf, CallAs, IsSame, HasRoom, Adds, Makes, Refuses, Does, Pays, Claims, of_file, of_take}
use Rattle.render_core.specs.Claim.{ClaimOf}
use Rattle.render_core.specs.Step.{Reply, need}
use Rattle.render_core.specs.declared.reply.ShowReply.{ShowReply}
use Rattle.edit_desk.specs.Alone.{at_board, Renders}
use Rattle.edit_desk.proofs.Later.{shows_enters, shows_refused}
use Rattle.edit_desk.specs.Desk.{FixedOf, DeskOf, Learns, Enters, IsFull, Answers, Finds, Takes, Files, Shows, with_render, state_of}

module _ {M K F : Type 0} (library : M → Library F) (number : ℕ) (kept : K) where
  -- what the caller knows of a board
  abbrev known : BoardOf M → DeskOf M K
  known b = at_board number kept b

  nothing : (d : DeskOf M K) → Learns d d
  nothing d = record { fixed = refl; others = []; apart = refl; seen = sym (append-nil d.seen) }

  pub same_fixed : (old new : BoardOf M) → new.library ≡ old.library → new.cache ≡ old.cache → new.limit ≡ old.limit → (known new).fixed ≡ (known old).fixed
  same_fixed old new l c m =
      ap (λ (x : M). record (known new).fixed { library = x }) l
      ∙ ap (λ (n : ℕ). record (known old).fixed { cache = n; limit = new.limit }) c
      ∙ ap (λ (n : ℕ). record (known old).fixed { limit = n }) m

  same_desk : (old new : BoardOf M) → IsSame old new → known new ≡ known old
  same_desk old new s =
      ap (λ (f : FixedOf M K). record (known new) { fixed = f }) (same_fixed old new s.library s.cache s.limit)
      ∙ ap (λ (es : List Entry). record (known old) { seen = es }) s.journal

  pub makes_enters : (old new : BoardOf M) (what : Act) (told : Reply F) → Makes library old new (Some (record { pass = number; act = what; told = told })) → Enters library (known old) (known new) what told
  makes_enters old new what told h = record {
    before = known old;
    learns = nothing (known old);
    fixed = same_fixed old new h.0.library_stays h.0.cache h.0.limit;
    seen = h.0.journal;
    answer = h.1;
  }

  -- a refusal at the desk before it is one at the desk after it
  learns_same : (old new : BoardOf M) → IsSame old new → Learns (known old) (known new)
  learns_same old new s = subst (λ (d : DeskOf M K). Learns (known old) d) (sym (same_desk old new s)) (nothing (known old))

  refused_same : (old new : BoardOf M) (count : ℕ) (why : Full) → Refuses library old new count why → IsSame old new
  refused_same old new count (full.JournalFull len owing) h = h.0
  refused_same old new count full.NoMemory h = h.0

  full_before : (old new : BoardOf M) (count : ℕ) (why : Full) → Refuses library old new count why → IsFull library (known old) count why
  full_before old new count (full.JournalFull len owing) h = (h.1, h.2, h.3)
  full_before old new count full.NoMemory h = h.1

  refuses_need : (old new : BoardOf M) (what : Act) (why : Full) → Refuses library old new (need what (board.state_of library old)) why → Learns (known old) (known new) × IsFull library (known new) (need what (state_of library (known new))) why
  refuses_need old new what why h =
      let same = refused_same old new (need what (board.state_of library old)) why h in (
        learns_same old new same,
        subst (λ (d : DeskOf M K). IsFull library d (need what (state_of library d)) why) (sym (same_desk old new same)) (full_before old new (need what (board.state_of library old)) why h),
      )

  pub does_answers : {R : Type 0} (old new : BoardOf M) (call : CallAs R F) (result : Result R Full) → call.pass ≡ number → Does library old new call result → Answers library (known old) (known new) (record { act = call.act; view = call.view }) result
  does_answers old new call (Ok given) zero h =
      makes_enters old new call.act (call.view given) (subst (λ (p : ℕ). Makes library old new (Some (record { pass = p; act = call.act; told = call.view given }))) zero h.1)
  does_answers old new call (Err why) zero h = refuses_need old new call.act why h

  pub claims_finds : (old new : BoardOf M) (result : Result ClaimReply Full) → Claims library old new number result → Finds library (known old) (known new) result
  claims_finds old new (Ok (claims.Claimed claim)) h = makes_enters old new act.Claim _ h.1
  claims_finds old new (Ok (claims.Stopped len)) h = subst (λ (b : BoardOf M). Finds library (known old) (known b) (Ok (claims.Stopped len))) (sym h.0) (nothing (known old), h.1, h.2)
  claims_finds old new (Ok (claims.Idle len)) h = subst (λ (b : BoardOf M). Finds library (known old) (known b) (Ok (claims.Idle len))) (sym h.0) (nothing (known old), h.1, h.2, h.3)
  claims_finds old new (Err why) h = refuses_need old new act.Claim why h.2

  pub takes_takes : (old new : BoardOf M) (result : TakeReply) → board.Takes library old new number result → Takes library (known old) (known new) result
  takes_takes old new (takes.Taken job) h = makes_enters old new act.Take (of_take job) h.made
  takes_takes old new (takes.Stopped len) h = subst (λ (b : BoardOf M). Takes library (known old) (known b) (takes.Stopped len)) (sym h.0) (nothing (known old), h.1, h.2, h.3)
  takes_takes old new (takes.Idle len) h = subst (λ (b : BoardOf M). Takes library (known old) (known b) (takes.Idle len)) (sym h.0) (nothing (known old), h.1, h.2, h.3)

  pub files : {V E : Type 0} (old new : BoardOf M) (claim : ClaimOf) (value : V) (result : Result FileReply (ClaimOf × V × E)) → MatchResult result (λ given. Pays library old new (record { pass = number; act = act.File claim.job; view = of_file }) given) (λ back. (new ≡ old) × (back.0 ≡ claim) × (back.1 ≡ value)) → Files library (known old) (known new) (claim, value) result
  files old new claim value (Ok told) h = makes_enters old new (act.File claim.job) (of_file told) h.made
  files old new claim value (Err back) h = (subst (λ (b : BoardOf M). Learns (known old) (known b)) (sym h.0) (nothing (known old)), h.1, h.2)

  -- a show whose caller renders
  pub refused_show : (old new : BoardOf M) (n : ℕ) (why : Full) → Refuses library old new 1 why → Shows library (known old) (known new) n (Err why)
  refused_show old new n why h = shows_refused library (known old) (known new) n why (refuses_need old new (act.Show n) why h)

  pub shows : (old new : BoardOf M) (lib : M) (n : ℕ) (told : Reply F) (result : Result (ShowReply F) Full) → lib ≡ old.library → Makes library old new (Some (record { pass = number; act = act.Show n; told = told })) → Renders (library lib) told result → Shows library (known old) (known new) n result
  shows old new lib n told result l h r = shows_enters library (known old) (known new) lib n told result l (makes_enters old new (act.Show n) told h) r
