-- A call that comes after entries of others.
use Rattle.std.proofs.Common.{◌≡◌, ℕ, false, List, [], ◌∷◌, ◌++◌, Result, Ok, Err, inl, inr, refl, sym, ap, subst, ◌∙◌}
use Rattle.std.proofs.lemmas.List.{append_assoc}
use Rattle.std.proofs.lemmas.List.Elements.{filter-append}
use Rattle.std.specs.Prelude.{◌==◌}
use Rattle.tl_model.specs.Cells.{Cell}
use Rattle.tl_model.specs.Media.{Library, RenderedOf}
use Rattle.tl_model.specs.declared.journal.Act.{Act}
use Rattle.tl_model.specs.declared.journal.Act.TheVariants as act
use Rattle.tl_model.specs.declared.journal.Entry.{Entry}
use Rattle.tl_model.specs.declared.recipe.Recipe.{Recipe}
use Rattle.render_core.specs.declared.reply.Full.{Full}
use Rattle.render_core.specs.declared.reply.Full.TheVariants as full
use Rattle.render_core.specs.declared.reply.ClaimReply.{ClaimReply}
use Rattle.render_core.specs.declared.reply.ClaimReply.TheVariants as claims
use Rattle.render_core.specs.declared.reply.FileReply.{FileReply}
use Rattle.render_core.specs.declared.reply.ShowReply.{ShowReply}
use Rattle.render_core.specs.declared.reply.TakeReply.{TakeReply}
use Rattle.render_core.specs.declared.reply.TakeReply.TheVariants as takes
use Rattle.render_core.specs.Calls.{own}
use Rattle.render_core.specs.Claim.{ClaimOf, EndsJob, EndsExport}
use Rattle.render_core.specs.State.{Holds, HoldsExport}
use Rattle.render_core.specs.Step.{Reply, IsJournal, state_after}
use Rattle.render_core.proofs.Claims.{claim_lasts}
use Rattle.render_core.proofs.Ends.{own-others, others_end, export_lasts, goes_on}
use Rattle.edit_desk.specs.Alone.{Renders}
use Rattle.edit_desk.specs.Desk.{FixedOf, DeskOf, ActAs, Learns, IsDesk, Enters, IsFull, Answers, Finds, Takes, Files, Shows, with_render, setup_of, state_of}

own-append : (number : ℕ) (es more : List Entry) → own number es ≡ [] → own number more ≡ [] → own number (es ++ more) ≡ []
own-append number es more e m = filter-append (λ (x : Entry). x.pass == number) es more ∙ ap (λ (l : List Entry). l ++ own number more) e ∙ m

module _ {M K : Type 0} where
  pub learns_later : (old mid new : DeskOf M K) → Learns old mid → Learns mid new → Learns old new
  learns_later old mid new l k = record {
    fixed = k.fixed ∙ l.fixed;
    others = l.others ++ k.others;
    apart = own-append old.fixed.number l.others k.others l.apart (subst (λ (f : FixedOf M K). own f.number k.others ≡ []) l.fixed k.apart);
    seen = k.seen ∙ ap (λ (es : List Entry). es ++ k.others) l.seen ∙ append_assoc old.seen l.others k.others;
  }

  pub desk_is : (old new : DeskOf M K) (more : List Entry) → new.fixed ≡ old.fixed → new.seen ≡ old.seen ++ more → new ≡ record old { seen = old.seen ++ more }
  desk_is old new more f s = ap (λ (x : FixedOf M K). record new { fixed = x }) f ∙ ap (λ (es : List Entry). record old { seen = es }) s

  pub rendered_later : (old new : DeskOf M K) (recipe : Recipe) (r : RenderedOf M) → Learns old new → r ≡ record { recipe = recipe; library = old.fixed.library } → r ≡ record { recipe = recipe; library = new.fixed.library }
  rendered_later old new recipe r l h = h ∙ ap (λ (f : FixedOf M K). record { recipe = recipe; library = f.library }) (sym l.fixed)

module _ {M K F : Type 0} (library : M → Library F) where
  pub enters_later : (old mid new : DeskOf M K) (what : Act) (told : Reply F) → Learns old mid → Enters library mid new what told → Enters library old new what told
  enters_later old mid new what told l h =
      record { before = h.before; learns = learns_later old mid h.before l h.learns; fixed = h.fixed; seen = h.seen; answer = h.answer }

  pub answers_later : {R : Type 0} (old mid new : DeskOf M K) (call : ActAs R F) (result : Result R Full) → Learns old mid → Answers library mid new call result → Answers library old new call result
  answers_later old mid new call (Ok given) l h = enters_later old mid new call.act (call.view given) l h
  answers_later old mid new call (Err why) l h = (learns_later old mid new l h.0, h.1)

  pub finds_later : (old mid new : DeskOf M K) (result : Result ClaimReply Full) → Learns old mid → Finds library mid new result → Finds library old new result
  finds_later old mid new (Ok (claims.Claimed claim)) l h = enters_later old mid new act.Claim _ l h
  finds_later old mid new (Ok (claims.Stopped len)) l h = (learns_later old mid new l h.0, h.1, h.2)
  finds_later old mid new (Ok (claims.Idle len)) l h = (learns_later old mid new l h.0, h.1, h.2, h.3)
  finds_later old mid new (Err why) l h = (learns_later old mid new l h.0, h.1)

  pub takes_later : (old mid new : DeskOf M K) (result : TakeReply) → Learns old mid → Takes library mid new result → Takes library old new result
  takes_later old mid new (takes.Taken job) l h = enters_later old mid new act.Take _ l h
  takes_later old mid new (takes.Stopped len) l h = (learns_later old mid new l h.0, h.1, h.2, h.3)
  takes_later old mid new (takes.Idle len) l h = (learns_later old mid new l h.0, h.1, h.2, h.3)

  pub files_later : {V E : Type 0} (old mid new : DeskOf M K) (given : ClaimOf × V) (result : Result FileReply (ClaimOf × V × E)) → Learns old mid → Files library mid new given result → Files library old new given result
  files_later old mid new given (Ok told) l h = enters_later old mid new (act.File given.0.job) _ l h
  files_later old mid new given (Err back) l h = (learns_later old mid new l h.0, h.1, h.2)

  -- a show whose caller renders
  pub shows_enters : (old new : DeskOf M K) (lib : M) (n : ℕ) (told : Reply F) (result : Result (ShowReply F) Full) → lib ≡ old.fixed.library → Enters library old new (act.Show n) told → Renders (library lib) told result → Shows library old new n result
  shows_enters old new lib n told (Ok given) l h r = (told, h, r ∙ ap (λ (m : M). with_render (library m) told) l)
  shows_enters old new lib n told (Err full.NoMemory) l h r = inr (r.0, subst (λ (t : Reply F). Enters library old new (act.Show n) t) r.1 h)
  shows_enters old new lib n told (Err (full.JournalFull len owing)) l h r = absurd r

  pub shows_refused : (old new : DeskOf M K) (n : ℕ) (why : Full) → Learns old new × IsFull library new 1 why → Shows library old new n (Err why)
  shows_refused old new n (full.JournalFull len owing) h = h
  shows_refused old new n full.NoMemory h = inl h

  -- what a caller holds, and that the session wasn't stopped, last over entries of others
  pub holds_later : (old new : DeskOf M K) (n : ℕ) (recipe : Recipe) → Learns old new → IsDesk library new → Holds (state_of library old) old.fixed.number n recipe → Holds (state_of library new) new.fixed.number n recipe
  holds_later old new n recipe l known h =
      let is = desk_is old new l.others l.fixed l.seen in
      let P : DeskOf M K → Type 0 = λ d. Holds (state_of library d) d.fixed.number n recipe in
      subst P (sym is)
      (claim_lasts (setup_of library old) old.seen l.others old.fixed.number n recipe (subst (λ (d : DeskOf M K). IsJournal (setup_of library d) d.seen) is known.legal) h (others_end (EndsJob n) old.fixed.number l.others (own-others old.fixed.number l.others l.apart)))

  pub holds_export_later : (old new : DeskOf M K) (n : ℕ) (name : List ℕ) (line : List Cell) → Learns old new → IsDesk library new → HoldsExport (state_of library old) old.fixed.number n name line → HoldsExport (state_of library new) new.fixed.number n name line
  holds_export_later old new n name line l known h =
      let is = desk_is old new l.others l.fixed l.seen in
      let P : DeskOf M K → Type 0 = λ d. HoldsExport (state_of library d) d.fixed.number n name line in
      subst P (sym is)
      (export_lasts (setup_of library old) old.seen l.others old.fixed.number n name line (subst (λ (d : DeskOf M K). IsJournal (setup_of library d) d.seen) is known.legal) h (others_end (EndsExport n) old.fixed.number l.others (own-others old.fixed.number l.others l.apart)))

  pub stop_later : (old new : DeskOf M K) → Learns old new → IsDesk library new → (old.fixed.number ≡ 0) × ((state_of library old).is_stopped ≡ false) → (new.fixed.number ≡ 0) × ((state_of library new).is_stopped ≡ false)
  stop_later old new l known h =
      let is = desk_is old new l.others l.fixed l.seen in
      let P : DeskOf M K → Type 0 = λ d. (d.fixed.number ≡ 0) × ((state_of library d).is_stopped ≡ false) in
      subst P (sym is)
      (h.0, goes_on (setup_of library old) old.seen l.others (subst (λ (d : DeskOf M K). IsJournal (setup_of library d) d.seen) is known.legal) (subst (λ (n : ℕ). own n l.others ≡ []) h.0 l.apart) h.1)
