-- What a caller hears composes.
use Rattle.std.proofs.Common.{◌≡◌, ℕ, ◌+◌, cond, Bool, true, List, [], ◌∷◌, ◌++◌, length, sym, ap, subst, ◌∙◌, arith}
use Rattle.std.specs.Prelude.{◌==◌}
use Rattle.std.proofs.lemmas.Bool.Decides.{nat_tests}
use Rattle.std.proofs.lemmas.List.{append_assoc}
use Rattle.std.proofs.lemmas.List.Elements.{filter-append}
use Rattle.tl_model.specs.Media.{Library}
use Rattle.tl_model.specs.declared.journal.Act.{Act}
use Rattle.tl_model.specs.declared.journal.Entry.{Entry}
use Rattle.render_core.specs.State.{start}
use Rattle.render_core.specs.Step.{Reply, reply}
use Rattle.render_core.specs.Calls.{CallOf, calls_from, calls_of, own_calls}
use Rattle.render_core.proofs.Journals.{calls-append, own_calls-others}
use Rattle.edit_desk.proofs.Later.{desk_is}
use Rattle.edit_desk.specs.Desk.{FixedOf, DeskOf, Learns, Enters, Hears, setup_of, state_of, heard}

-- a call of a pass is its own
own_call : {F : Type 0} (number : ℕ) (what : Act) (told : Reply F) → own_calls number (record { pass = number; act = what; told = told } ∷ []) ≡ record { pass = number; act = what; told = told } ∷ []
own_call {F} number what told =
    let call : CallOf F = record { pass = number; act = what; told = told } in
    let same : (number == number) ≡ true = grind (arith, nat_tests) in
    ap (λ (b : Bool). cond b (call ∷ []) []) same

module _ {M K F : Type 0} (library : M → Library F) where
  -- what is heard of a longer list
  pub heard_more : (d : DeskOf M K) (more : List Entry) → heard library (record d { seen = d.seen ++ more }) ≡ heard library d ++ own_calls d.fixed.number (calls_from (setup_of library d) (0 + length d.seen) more (state_of library d))
  heard_more d more =
      ap (own_calls d.fixed.number) (calls-append (setup_of library d) 0 d.seen more start)
      ∙ filter-append (λ (call : CallOf F). call.pass == d.fixed.number) (calls_of (setup_of library d) d.seen) (calls_from (setup_of library d) (0 + length d.seen) more (state_of library d))

  pub hears_learns : (old new : DeskOf M K) → Learns old new → Hears library old new []
  hears_learns old new l = record {
    fixed = l.fixed;
    more = l.others;
    seen = l.seen;
    heard = ap (heard library) (desk_is old new l.others l.fixed l.seen) ∙ heard_more old l.others
        ∙ ap (λ (cs : List (CallOf F)). heard library old ++ cs) (own_calls-others (setup_of library old) old.fixed.number (0 + length old.seen) l.others (state_of library old) l.apart);
  }

  hears_own : (before new : DeskOf M K) (what : Act) (told : Reply F) → new.fixed ≡ before.fixed → new.seen ≡ before.seen ++ record { pass = before.fixed.number; act = what } ∷ [] → told ≡ reply (library before.fixed.library) what (state_of library before) → Hears library before new (record { pass = before.fixed.number; act = what; told = told } ∷ [])
  hears_own before new what told f s e = record {
    fixed = f;
    more = record { pass = before.fixed.number; act = what } ∷ [];
    seen = s;
    heard = ap (heard library) (desk_is before new (record { pass = before.fixed.number; act = what } ∷ []) f s) ∙ heard_more before (record { pass = before.fixed.number; act = what } ∷ [])
        ∙ ap (λ (cs : List (CallOf F)). heard library before ++ cs) (own_call before.fixed.number what (reply (library before.fixed.library) what (state_of library before)))
        ∙ ap (λ (r : Reply F). heard library before ++ record { pass = before.fixed.number; act = what; told = r } ∷ []) (sym e);
  }

  pub hears_on : (old mid new : DeskOf M K) (one more : List (CallOf F)) → Hears library old mid one → Hears library mid new more → Hears library old new (one ++ more)
  hears_on old mid new one more h k = record {
    fixed = k.fixed ∙ h.fixed;
    more = h.more ++ k.more;
    seen = k.seen ∙ ap (λ (es : List Entry). es ++ k.more) h.seen ∙ append_assoc old.seen h.more k.more;
    heard = k.heard ∙ ap (λ (cs : List (CallOf F)). cs ++ more) h.heard ∙ append_assoc (heard library old) one more;
  }

  pub hears_enters : (old new : DeskOf M K) (what : Act) (told : Reply F) → Enters library old new what told → Hears library old new (record { pass = old.fixed.number; act = what; told = told } ∷ [])
  hears_enters old new what told h =
      subst (λ (f : FixedOf M K). Hears library old new (record { pass = f.number; act = what; told = told } ∷ [])) h.learns.fixed
      (hears_on old h.before new [] (record { pass = h.before.fixed.number; act = what; told = told } ∷ []) (hears_learns old h.before h.learns) (hears_own h.before new what told h.fixed h.seen h.answer))
