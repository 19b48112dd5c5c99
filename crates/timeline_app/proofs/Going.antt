-- A session isn't stopped before its stop.
use Rattle.std.proofs.Common.{◌≡◌, ℕ, false, List, [], ◌∷◌, ◌++◌, length, ◌⊎◌, inl, inr, refl, sym, subst, true≢false}
use Rattle.std.specs.Prelude.{IsTrue}
use Rattle.tl_model.specs.Media.{Library}
use Rattle.tl_model.specs.declared.journal.Entry.{Entry}
use Rattle.render_core.specs.Calls.{CallOf}
use Rattle.render_core.specs.State.{State}
use Rattle.edit_desk.specs.Desk.{DeskOf, IsDesk, Hears, state_of}
use Rattle.edit_desk.specs.Was.{Was}
use Rattle.edit_desk.proofs.DeskFronts.{known_front}
use Rattle.edit_desk.proofs.Holding.{HasNone, IsStop, goes_on}
use Rattle.play_head.specs.Playing.{Setting, HasReason}
use Rattle.play_head.specs.Work.{Turn, EndsReleased, IsIdle}
use Rattle.timeline_app.specs.Course.{Course, script_calls}
use Rattle.timeline_app.proofs.Kept.{IsApart}
use Rattle.timeline_app.proofs.Manned.{IsManned}

abbrev pub IsStopped : State → Type 0
IsStopped state = IsTrue state.is_stopped

stop_none : {F : Type 0} (front rest : List (CallOf F)) → HasNone IsApart (front ++ rest) → HasNone IsStop front
stop_none [] rest h = tt
stop_none (call ∷ front) rest h = ((λ e. h.0 (subst IsApart (sym e) tt)), stop_none front rest h.1)

module _ {M K F : Type 0} (library : M → Library F) where
  -- caller 0 hears a front of its calls, from an empty journal on
  front_hears : (d : DeskOf M K) (calls : List (CallOf F)) (fact : State → Type 0) (w : Was library d calls fact) → Hears library (record d { seen = [] }) (record d { seen = w.front }) calls
  front_hears d calls fact w = record { fixed = refl; more = w.front; seen = refl; heard = w.heard }

  pub never_stopped : (d : DeskOf M K) (calls : List (CallOf F)) → IsDesk library d → d.fixed.number ≡ 0 → HasNone IsStop calls → Was library d calls IsStopped → ⊥
  never_stopped d calls known zero none w =
      let start : DeskOf M K = record d { seen = [] } in
      let there : DeskOf M K = record d { seen = w.front } in
      let all : IsDesk library (record d { seen = w.front ++ w.rest }) = subst (λ (es : List Entry). IsDesk library (record d { seen = es })) w.seen known in
      let going : (state_of library there).is_stopped ≡ false =
      goes_on library start there calls (known_front library there w.rest all) (front_hears d calls IsStopped w) none zero refl in
      true≢false (sym (subst IsTrue going w.holds))

  -- with just some first calls of a script the session isn't stopped, whatever the crew enters
  pub script_goes_on : (d : DeskOf M K) (others : ℕ) (c : Course F) (front rest : List (CallOf F)) → IsManned library d others c → script_calls c ≡ front ++ rest → Was library d front IsStopped → ⊥
  script_goes_on d others c front rest a e w = never_stopped d front a.known a.number (stop_none front rest (subst (HasNone IsApart) e a.script)) w

module _ {M K F : Type 0} (s : Setting M F) where
  -- so that no more turns of work were made for one of three reasons
  pub three_reasons : (d : DeskOf M K) (calls : List (CallOf F)) (turns : ℕ) (done : List (Turn F)) → (Was s.library d calls IsStopped → ⊥) → HasReason s d calls turns done → (length done ≡ turns) ⊎ (EndsReleased done ⊎ Was s.library d calls IsIdle)
  three_reasons d calls turns done going (inl h) = inl h
  three_reasons d calls turns done going (inr (inl h)) = inr (inl h)
  three_reasons d calls turns done going (inr (inr (inl h))) = inr (inr h)
  three_reasons d calls turns done going (inr (inr (inr h))) = absurd (going h)
