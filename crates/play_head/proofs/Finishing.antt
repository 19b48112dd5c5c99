-- Exports, carried out one after another.
use Rattle.std.proofs.Common.{◌≡◌, ℕ, ◌-◌, ◌<◌, List, [], ◌∷◌, ◌++◌, length, None, refl, sym, ap, subst, ◌∙◌, arith, length-append}
use Rattle.std.specs.Prelude.{Bool}
use Rattle.std.specs.List.{flat_map, position}
use Rattle.std.proofs.lemmas.List.{append-nil}
use Rattle.std.proofs.lemmas.List.Concat.{flat_map-append}
use Rattle.tl_model.specs.Media.{Library}
use Rattle.tl_model.specs.declared.journal.Act.{Act}
use Rattle.tl_model.specs.declared.journal.Act.TheVariants as act
use Rattle.tl_model.specs.declared.journal.Entry.{Entry}
use Rattle.tl_ports.specs.Seen.{VaultSeen}
use Rattle.render_core.specs.Board.{of_take}
use Rattle.render_core.specs.Calls.{CallOf}
use Rattle.render_core.specs.Export.{ExportJobOf, is_untaken}
use Rattle.render_core.specs.Step.{Reply, Silent}
use Rattle.edit_desk.specs.Desk.{FixedOf, DeskOf, IsDesk, Enters, Hears, state_of}
use Rattle.edit_desk.proofs.Heard.{hears_enters, hears_on}
use Rattle.play_head.specs.Carrying.{Carried, Carrier, carrier, carried_as, carried_calls, CarriesOne, CarriesAll, CarriesTaken, FinishesAll, exporter}
use Rattle.play_head.proofs.Desks.{hears_nothing, number-hears}

carries_push : {F : Type 0} (by : Carrier F) (old mid new : VaultSeen) (carried : List Carried) (c : Carried) → CarriesAll by old mid carried → CarriesOne by mid new c → CarriesAll by old new (carried ++ c ∷ [])
carries_push by old mid new [] c h k = (new, subst (λ (v : VaultSeen). CarriesOne by v new c) h k, refl)
carries_push by old mid new (x ∷ carried) c h k = (h.0, h.1, carries_push by h.0 mid new carried c h.2 k)

module _ {M K F : Type 0} (library : M → Library F) where
  -- an entry makes what was seen longer
  pub seen_longer : (old new : DeskOf M K) (what : Act) (told : Reply F) → Enters library old new what told → length old.seen < length new.seen
  seen_longer old new what told h =
      let entry : Entry = record { pass = h.before.fixed.number; act = what } in
      let all : length new.seen ≡ length (h.before.seen ++ entry ∷ []) = ap length h.seen in
      let before : length h.before.seen ≡ length (old.seen ++ h.learns.others) = ap length h.learns.seen in
      omega (arith, all, before, length-append h.before.seen (entry ∷ []), length-append old.seen h.learns.others)

  -- as many entries as fit are fewer after an export
  pub less_left : (by : Carrier F) (old taken new : DeskOf M K) (before after : VaultSeen) (job : ExportJobOf) → Enters library old taken act.Take (of_take job) → CarriesTaken library by (exporter taken before) (exporter new after) job → IsDesk library new
      → new.fixed.limit - length new.seen < old.fixed.limit - length old.seen
  less_left by old taken new before after job take h known =
      let first = seen_longer old taken act.Take (of_take job) take in
      let then_one = seen_longer taken new (act.End job.export h.ending) Silent h.ends in
      let same : new.fixed.limit ≡ old.fixed.limit = ap (λ (f : FixedOf M K). f.limit) (h.ends.fixed ∙ h.ends.learns.fixed ∙ take.fixed ∙ take.learns.fixed) in
      let within = known.within in
      omega (arith, first, then_one, same, within)

  -- these exports were carried out so far
  pub record IsCarrying (by : Carrier F) (old new : DeskOf M K) (before after : VaultSeen) : Type 0 where
    pub carried : List Carried
    pub hears : Hears library old new (flat_map (carried_calls old.fixed.number) carried)
    pub all : CarriesAll by before after carried
    pub idle : after.begun ≡ None

  pub carrying_starts : (by : Carrier F) (d : DeskOf M K) (vault : VaultSeen) → vault.begun ≡ None → IsCarrying by d d vault vault
  carrying_starts by d vault idle = record { carried = []; hears = hears_nothing library d; all = refl; idle = idle }

  -- what the caller hears of an export
  hears_one : (old mid new : DeskOf M K) (job : ExportJobOf) (c : Carried) → c ≡ carried_as job c.ending → Enters library old mid act.Take (of_take job) → Enters library mid new (act.End job.export c.ending) Silent → Hears library old new (carried_calls old.fixed.number c)
  hears_one old mid new job c e h k =
      let taken = hears_enters library old mid act.Take (of_take job) h in
      let number : mid.fixed.number ≡ old.fixed.number = number-hears library old mid _ taken in
      subst (λ (x : Carried). Hears library old new (carried_calls old.fixed.number x)) (sym e)
      (hears_on library old mid new (record { pass = old.fixed.number; act = act.Take; told = of_take job } ∷ []) (record { pass = old.fixed.number; act = act.End job.export c.ending; told = Silent } ∷ []) taken
      (subst (λ (n : ℕ). Hears library mid new (record { pass = n; act = act.End job.export c.ending; told = Silent } ∷ [])) number (hears_enters library mid new (act.End job.export c.ending) Silent k)))

  hears_more : (old mid new : DeskOf M K) (carried : List Carried) (c : Carried) → Hears library old mid (flat_map (carried_calls old.fixed.number) carried) → Hears library mid new (carried_calls mid.fixed.number c) → Hears library old new (flat_map (carried_calls old.fixed.number) (carried ++ c ∷ []))
  hears_more old mid new carried c h k =
      let number = old.fixed.number in
      let here : Hears library mid new (carried_calls number c) = subst (λ (n : ℕ). Hears library mid new (carried_calls n c)) (number-hears library old mid _ h) k in
      let calls : flat_map (carried_calls {F = F} number) (carried ++ c ∷ []) ≡ flat_map (carried_calls number) carried ++ carried_calls number c =
      flat_map-append (carried_calls number) carried (c ∷ []) ∙ ap (λ (cs : List (CallOf F)). flat_map (carried_calls number) carried ++ cs) (append-nil (carried_calls number c)) in
      subst (Hears library old new) (sym calls) (hears_on library old mid new (flat_map (carried_calls number) carried) (carried_calls number c) h here)

  -- the library stays the same
  carrier_stays : (old mid : DeskOf M K) (rate : ℕ) (tells : Bool) → mid.fixed ≡ old.fixed → carrier library mid rate tells ≡ carrier library old rate tells
  carrier_stays old mid rate tells e = ap (λ (f : FixedOf M K). carrier library (record old { fixed = f }) rate tells) e

  -- one more
  pub carrying_next : (rate : ℕ) (tells : Bool) (old mid taken new : DeskOf M K) (before between after : VaultSeen) (job : ExportJobOf)
      → IsCarrying (carrier library old rate tells) old mid before between → Enters library mid taken act.Take (of_take job)
      → CarriesTaken library (carrier library taken rate tells) (exporter taken between) (exporter new after) job → IsCarrying (carrier library old rate tells) old new before after
  carrying_next rate tells old mid taken new before between after job w take h =
      let same = carrier_stays old taken rate tells (take.fixed ∙ take.learns.fixed ∙ w.hears.fixed) in
      let one = carried_as job h.ending in
      record {
        carried = w.carried ++ one ∷ [];
        hears = hears_more old mid new w.carried one w.hears (hears_one mid taken new job one refl take h.ends);
        all = carries_push (carrier library old rate tells) before between after w.carried one w.all (subst (λ (by : Carrier F). CarriesOne by between after one) same h.carries);
        idle = h.carries.idle;
      }

  -- none is left
  pub carrying_ends : (by : Carrier F) (old mid new : DeskOf M K) (before after : VaultSeen) → IsCarrying by old mid before after → Hears library mid new [] → position is_untaken (state_of library new).exports ≡ None → FinishesAll library by (exporter old before) (exporter new after)
  carrying_ends by old mid new before after w still done = (
    w.carried,
    record {
      hears = subst (Hears library old new) (append-nil (flat_map (carried_calls old.fixed.number) w.carried)) (hears_on library old mid new (flat_map (carried_calls old.fixed.number) w.carried) [] w.hears still);
      done = done;
    },
    w.all,
  )
