-- Exports of the exporter, one after another.
use Rattle.std.proofs.Common.{◌≡◌, ℕ, List, [], ◌∷◌, ◌++◌, None, refl, sym, ap, subst, ◌∙◌}
use Rattle.std.specs.Prelude.{Bool, IsTrue}
use Rattle.std.specs.List.{flat_map, position}
use Rattle.std.proofs.lemmas.List.{append-nil}
use Rattle.std.proofs.lemmas.List.Concat.{flat_map-append}
use Rattle.tl_model.specs.Media.{Library}
use Rattle.tl_model.specs.declared.fault.Ending.{Ending}
use Rattle.tl_model.specs.declared.journal.Act.TheVariants as act
use Rattle.tl_ports.specs.Seen.{VaultSeen}
use Rattle.render_core.specs.Board.{of_take}
use Rattle.render_core.specs.Step.{Silent}
use Rattle.render_core.specs.Calls.{CallOf}
use Rattle.render_core.specs.Export.{ExportJobOf, is_untaken}
use Rattle.edit_desk.specs.Desk.{FixedOf, DeskOf, Enters, Hears, state_of}
use Rattle.edit_desk.proofs.Heard.{hears_enters, hears_on}
use Rattle.play_head.specs.Carrying.{Carried, Carrier, Exporter, carrier, carried_as, carried_calls, CarriesOne, CarriesAll, exporter}
use Rattle.play_head.proofs.Desks.{number-hears}
use Rattle.play_head.proofs.Finishing.{IsCarrying}
use Rattle.render_pool.specs.Exporting.{EndsTaken, CarriesOut, FindsNone, ExportsAll}

carries_more : {F : Type 0} (by : Carrier F) (old mid new : VaultSeen) (carried : List Carried) (c : Carried) → CarriesAll by old mid carried → CarriesOne by mid new c → CarriesAll by old new (carried ++ c ∷ [])
carries_more by old mid new [] c h k = (new, subst (λ (v : VaultSeen). CarriesOne by v new c) h k, refl)
carries_more by old mid new (x ∷ carried) c h k = (h.0, h.1, carries_more by h.0 mid new carried c h.2 k)

module _ {M K F : Type 0} (library : M → Library F) where
  carrier_stays : (old mid : DeskOf M K) (rate : ℕ) (tells : Bool) → mid.fixed ≡ old.fixed → carrier library mid rate tells ≡ carrier library old rate tells
  carrier_stays old mid rate tells e = ap (λ (f : FixedOf M K). carrier library (record old { fixed = f }) rate tells) e

  -- what was taken and ended was carried out
  pub carried_out : (rate : ℕ) (tells : Bool) (old taken new : DeskOf M K) (before after : VaultSeen) (job : ExportJobOf) (why : Ending)
      → Enters library old taken act.Take (of_take job)
      → EndsTaken library (carrier library taken rate tells) (exporter taken before) (exporter new after) (job, why)
      → CarriesOut library (carrier library old rate tells) (exporter old before) (exporter new after) (carried_as job why)
  carried_out rate tells old taken new before after job why take h =
      let first = hears_enters library old taken act.Take (of_take job) take in
      let number : taken.fixed.number ≡ old.fixed.number = number-hears library old taken _ first in
      let last = hears_enters library taken new (act.End job.export why) Silent h.0 in
      record {
        hears = hears_on library old taken new (record { pass = old.fixed.number; act = act.Take; told = of_take job } ∷ []) (record { pass = old.fixed.number; act = act.End job.export why; told = Silent } ∷ []) first
            (subst (λ (n : ℕ). Hears library taken new (record { pass = n; act = act.End job.export why; told = Silent } ∷ [])) number last);
        carries = subst (λ (b : Carrier F). CarriesOne b before after (carried_as job why)) (carrier_stays old taken rate tells (take.fixed ∙ take.learns.fixed)) h.1;
      }

  hears_more : (old mid new : DeskOf M K) (carried : List Carried) (c : Carried) → Hears library old mid (flat_map (carried_calls old.fixed.number) carried) → Hears library mid new (carried_calls mid.fixed.number c) → Hears library old new (flat_map (carried_calls old.fixed.number) (carried ++ c ∷ []))
  hears_more old mid new carried c h k =
      let number = old.fixed.number in
      let here : Hears library mid new (carried_calls number c) = subst (λ (n : ℕ). Hears library mid new (carried_calls n c)) (number-hears library old mid _ h) k in
      subst (Hears library old new) (sym (flat_map-append (carried_calls {F = F} number) carried (c ∷ [])))
      (hears_on library old mid new (flat_map (carried_calls number) carried) (carried_calls number c) h here)

  -- one more
  pub carrying_more : (rate : ℕ) (tells : Bool) (old mid new : DeskOf M K) (before between after : VaultSeen) (c : Carried) → after.begun ≡ None
      → IsCarrying library (carrier library old rate tells) old mid before between → CarriesOut library (carrier library mid rate tells) (exporter mid between) (exporter new after) c
      → IsCarrying library (carrier library old rate tells) old new before after
  carrying_more rate tells old mid new before between after c idle w h =
      let by = carrier library old rate tells in
      let same = carrier_stays old mid rate tells w.hears.fixed in
      record {
        carried = w.carried ++ c ∷ [];
        hears = hears_more old mid new w.carried c w.hears h.hears;
        all = carries_more by before between after w.carried c w.all (subst (λ (b : Carrier F). CarriesOne b between after c) same h.carries);
        idle = idle;
      }

  heard_still : (old mid new : DeskOf M K) (calls : List (CallOf F)) → Hears library old mid calls → Hears library mid new [] → Hears library old new calls
  heard_still old mid new calls h k = subst (Hears library old new) (append-nil calls) (hears_on library old mid new calls [] h k)

  -- none was there
  pub carrying_still : (by : Carrier F) (old mid new : DeskOf M K) (before between after : VaultSeen) → IsCarrying library by old mid before between → Hears library mid new [] → after ≡ between → IsCarrying library by old new before after
  carrying_still by old mid new before between after w h same =
      subst (IsCarrying library by old new before) (sym same)
      (record { carried = w.carried; hears = heard_still old mid new (flat_map (carried_calls old.fixed.number) w.carried) w.hears h; all = w.all; idle = w.idle })

  pub carrying_stops : (by : Carrier F) (old mid new : DeskOf M K) (before between after : VaultSeen) (len : ℕ) → IsCarrying library by old mid before between → FindsNone library (exporter mid between) (exporter new after) len → IsTrue (state_of library new).is_stopped → ExportsAll library by (exporter old before) (exporter new after)
  carrying_stops by old mid new before between after len w h stopped = record {
    carried = w.carried;
    hears = heard_still old mid new (flat_map (carried_calls old.fixed.number) w.carried) w.hears h.hears;
    carries = subst (λ (v : VaultSeen). CarriesAll by before v w.carried) (sym h.vault) w.all;
    none_left = h.none_left;
    stopped = stopped;
  }
