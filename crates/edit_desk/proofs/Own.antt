-- Every entry of a board is its one caller's.
use Rattle.std.proofs.Common.{◌≡◌, ℕ, cond, Bool, true, List, [], ◌∷◌, ◌++◌, Some, Result, Ok, Err, refl, sym, ap, subst, ◌∙◌, arith}
use Rattle.std.specs.Prelude.{MatchResult, ◌==◌}
use Rattle.std.proofs.lemmas.Bool.Decides.{nat_tests}
use Rattle.std.proofs.lemmas.List.Elements.{filter-append}
use Rattle.tl_model.specs.Media.{Library}
use Rattle.tl_model.specs.declared.journal.Act.{Act}
use Rattle.tl_model.specs.declared.journal.Act.TheVariants as act
use Rattle.tl_model.specs.declared.journal.Entry.{Entry}
use Rattle.render_core.specs.declared.reply.Full.{Full}
use Rattle.render_core.specs.declared.reply.Full.TheVariants as full
use Rattle.render_core.specs.declared.reply.ClaimReply.{ClaimReply}
use Rattle.render_core.specs.declared.reply.ClaimReply.TheVariants as claims
use Rattle.render_core.specs.declared.reply.FileReply.{FileReply}
use Rattle.render_core.specs.declared.reply.TakeReply.{TakeReply}
use Rattle.render_core.specs.declared.reply.TakeReply.TheVariants as takes
use Rattle.render_core.specs.Board.{BoardOf, CallAs, IsSame, Makes, Refuses, Does, Pays, Claims, Takes, of_file, of_take, state_of, told_by}
use Rattle.render_core.specs.Calls.{CallOf, own}
use Rattle.render_core.specs.Claim.{ClaimOf}
use Rattle.render_core.specs.Step.{Claimed, need}
use Rattle.edit_desk.specs.Alone.{IsOwned}

abbrev entry : (number : ℕ) → Act → Entry
entry number what = record { pass = number; act = what }

own_entry : (number : ℕ) (what : Act) → own number (entry number what ∷ []) ≡ entry number what ∷ []
own_entry number what =
    let same : (number == number) ≡ true = grind (arith, nat_tests) in
    ap (λ (b : Bool). cond b (entry number what ∷ []) []) same

-- with one more own entry all are own
pub own_more : (number : ℕ) (what : Act) (es : List Entry) → own number es ≡ es → own number (es ++ entry number what ∷ []) ≡ es ++ entry number what ∷ []
own_more number what es h =
    filter-append (λ (e : Entry). e.pass == number) es (entry number what ∷ [])
    ∙ ap (λ (l : List Entry). l ++ own number (entry number what ∷ [])) h
    ∙ ap (λ (l : List Entry). es ++ l) (own_entry number what)

module _ {M F : Type 0} (library : M → Library F) where
  pub makes_owned : (old new : BoardOf M) (lib : M) (call : CallOf F) → call.pass ≡ 0 → Makes library old new (Some call) → IsOwned lib old → IsOwned lib new
  makes_owned old new lib call zero h o = record {
    noted = o.noted ∙ sym h.0.library_stays;
    all = subst (λ (es : List Entry). own 0 es ≡ es) (sym h.0.journal)
        (subst (λ (pass : ℕ). own 0 (old.journal ++ entry pass call.act ∷ []) ≡ old.journal ++ entry pass call.act ∷ []) (sym zero)
        (own_more 0 call.act old.journal o.all));
  }

  same_owned : (old new : BoardOf M) (lib : M) → IsSame old new → IsOwned lib old → IsOwned lib new
  same_owned old new lib h o = record {
    noted = o.noted ∙ sym h.library;
    all = subst (λ (es : List Entry). own 0 es ≡ es) (sym h.journal) o.all;
  }

  refuses_owned : (old new : BoardOf M) (lib : M) (count : ℕ) (why : Full) → Refuses library old new count why → IsOwned lib old → IsOwned lib new
  refuses_owned old new lib count (full.JournalFull len owing) h o = same_owned old new lib h.0 o
  refuses_owned old new lib count full.NoMemory h o = same_owned old new lib h.0 o

  pub does_owned : {R : Type 0} (old new : BoardOf M) (lib : M) (call : CallAs R F) (result : Result R Full) → call.pass ≡ 0 → Does library old new call result → IsOwned lib old → IsOwned lib new
  does_owned old new lib call (Ok given) zero h o = makes_owned old new lib (told_by call given) zero h.1 o
  does_owned old new lib call (Err why) zero h o = refuses_owned old new lib (need call.act (state_of library old)) why h o

  pub pays_owned : {R : Type 0} (old new : BoardOf M) (lib : M) (call : CallAs R F) (given : R) → call.pass ≡ 0 → Pays library old new call given → IsOwned lib old → IsOwned lib new
  pays_owned old new lib call given zero h o = makes_owned old new lib (told_by call given) zero h.made o

  pub claims_owned : (old new : BoardOf M) (lib : M) (result : Result ClaimReply Full) → Claims library old new 0 result → IsOwned lib old → IsOwned lib new
  claims_owned old new lib (Ok (claims.Claimed claim)) h o = makes_owned old new lib (record { pass = 0; act = act.Claim; told = Claimed claim.job claim.recipe }) refl h.1 o
  claims_owned old new lib (Ok (claims.Stopped len)) h o = subst (IsOwned lib) (sym h.0) o
  claims_owned old new lib (Ok (claims.Idle len)) h o = subst (IsOwned lib) (sym h.0) o
  claims_owned old new lib (Err why) h o = refuses_owned old new lib 2 why h.2 o

  pub takes_owned : (old new : BoardOf M) (lib : M) (result : TakeReply) → Takes library old new 0 result → IsOwned lib old → IsOwned lib new
  takes_owned old new lib (takes.Taken job) h o = pays_owned old new lib (record { pass = 0; act = act.Take; view = of_take }) job refl h o
  takes_owned old new lib (takes.Stopped len) h o = subst (IsOwned lib) (sym h.0) o
  takes_owned old new lib (takes.Idle len) h o = subst (IsOwned lib) (sym h.0) o

  pub files_owned : {V E : Type 0} (old new : BoardOf M) (lib : M) (claim : ClaimOf) (value : V) (result : Result FileReply (ClaimOf × V × E)) → MatchResult result (λ given. Pays library old new (record { pass = 0; act = act.File claim.job; view = of_file }) given) (λ back. (new ≡ old) × (back.0 ≡ claim) × (back.1 ≡ value)) → IsOwned lib old → IsOwned lib new
  files_owned old new lib claim value (Ok told) h o = pays_owned old new lib (record { pass = 0; act = act.File claim.job; view = of_file }) told refl h o
  files_owned old new lib claim value (Err back) h o = subst (IsOwned lib) (sym h.0) o
