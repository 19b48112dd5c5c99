-- Each exported file is still there at the end, since no other export has its name.
use Rattle.std.proofs.Common.{◌≡◌, ◌≢◌, ℕ, Bool, true, false, List, [], ◌∷◌, map, inl, inr, refl, sym, ap, ◌∙◌, true≢false}
use Rattle.std.specs.Prelude.{IsTrue, ◌||◌}
use Rattle.std.specs.Str.{bytes_eq}
use Rattle.std.proofs.lemmas.Slice.Eq.{bytes_eq-Decides}
use Rattle.tl_model.specs.declared.fault.Ending.{Ending}
use Rattle.tl_model.specs.declared.fault.Ending.TheVariants as ending
use Rattle.tl_ports.specs.Outside.{KeepsOthers}
use Rattle.tl_ports.specs.Seen.{VaultSeen}
use Rattle.script_lang.specs.Line.{is_one_of}
use Rattle.script_lang.specs.ScriptSound.{AreDistinct}
use Rattle.play_head.specs.Carrying.{Carried, Carrier, CarriesAll, IsPartOrOld, Leaves}
use Rattle.timeline_app.specs.Course.{LeaveAll}

abbrev pub names_carried : List Carried → List (List ℕ)
names_carried carried = map (λ (c : Carried). c.name) carried

-- ---- names that differ

pub or_left : (a b : Bool) → (a || b) ≡ false → a ≡ false
or_left true b e = absurd (true≢false e)
or_left false b e = refl

pub or_right : (a b : Bool) → (a || b) ≡ false → b ≡ false
or_right true b e = absurd (true≢false e)
or_right false b e = e

-- a name that isn't among others isn't the first of them
differs : (first name : List ℕ) (more : List (List ℕ)) → is_one_of (first ∷ more) name ≡ false → name ≢ first
differs first name more e same =
    true≢false (sym ((bytes_eq-Decides first name).1 (sym same)) ∙ or_left (bytes_eq first name) (is_one_of more name) e)

among_rest : (first name : List ℕ) (more : List (List ℕ)) → is_one_of (first ∷ more) name ≡ false → is_one_of more name ≡ false
among_rest first name more e = or_right (bytes_eq first name) (is_one_of more name) e

-- ---- a file that no export names

module _ {F : Type 0} (by : Carrier F) where
  -- the file of a name that no export has stays
  file_stays : (old new : VaultSeen) (carried : List Carried) (name : List ℕ) → is_one_of (names_carried carried) name ≡ false → CarriesAll by old new carried → IsTrue by.tells → new.file name ≡ old.file name
  file_stays old new [] name apart h told = ap (λ (v : VaultSeen). v.file name) h
  file_stays old new (c ∷ more) name apart h told =
      file_stays h.0 new more name (among_rest c.name name (names_carried more) apart) h.2 told
      ∙ h.1.others told name (differs c.name name (names_carried more) apart)

  -- The files of these are as they were at the start.
  abbrev Untouched : (start now : VaultSeen) → List Carried → Type 0
  Untouched start now [] = Unit {0}
  Untouched start now (c ∷ more) = (IsTrue by.tells → now.file c.name ≡ start.file c.name) × Untouched start now more

  untouched_at : (start : VaultSeen) (carried : List Carried) → Untouched start start carried
  untouched_at start [] = tt
  untouched_at start (c ∷ more) = ((λ told. refl), untouched_at start more)

  untouched_next : (start now next : VaultSeen) (name : List ℕ) (carried : List Carried) → is_one_of (names_carried carried) name ≡ false → KeepsOthers by.tells now next name → Untouched start now carried → Untouched start next carried
  untouched_next start now next name [] apart keeps h = tt
  untouched_next start now next name (c ∷ more) apart keeps h = (
    (λ told. keeps told c.name (λ same. differs c.name name (names_carried more) apart (sym same)) ∙ h.0 told),
    untouched_next start now next name more (among_rest c.name name (names_carried more) apart) keeps h.1,
  )

  -- what the file held right after its export it holds at the end
  part_moved : (start now between new : VaultSeen) (c : Carried) → (IsTrue by.tells → now.file c.name ≡ start.file c.name) → (IsTrue by.tells → new.file c.name ≡ between.file c.name) → IsPartOrOld by now between c → IsPartOrOld by start new c
  part_moved start now between new c before later h = λ told. elim (h told) [
    | inl same ↦ inl (later told ∙ same ∙ before told)
    | inr cut ↦ inr (cut.0, later told ∙ cut.1, cut.2)
  ]

  leaves_moved : (start now between new : VaultSeen) (c : Carried) (why : Ending) → (IsTrue by.tells → now.file c.name ≡ start.file c.name) → (IsTrue by.tells → new.file c.name ≡ between.file c.name) → Leaves by now between c why → Leaves by start new c why
  leaves_moved start now between new c (ending.Done count) before later h = (h.0, (λ told. later told ∙ h.1 told), h.2)
  leaves_moved start now between new c (ending.ClipFault at fault) before later h = (h.0, (λ told. later told ∙ h.1 told), h.2)
  leaves_moved start now between new c (ending.SliceTooLong at) before later h = (h.0, (λ told. later told ∙ h.1 told), h.2)
  leaves_moved start now between new c ending.Sink before later h = part_moved start now between new c before later h
  leaves_moved start now between new c ending.NoMemory before later h = part_moved start now between new c before later h

  leaves_from : (start now new : VaultSeen) (carried : List Carried) → AreDistinct (names_carried carried) → Untouched start now carried → CarriesAll by now new carried → LeaveAll by start new carried
  leaves_from start now new [] distinct h k = tt
  leaves_from start now new (c ∷ more) distinct h k = (
    leaves_moved start now k.0 new c c.ending h.0 (file_stays k.0 new more c.name distinct.0 k.2) k.1.leaves,
    leaves_from start k.0 new more distinct.1 (untouched_next start now k.0 c.name more distinct.0 k.1.others h.1) k.2,
  )

  pub leaves_all : (old new : VaultSeen) (carried : List Carried) → AreDistinct (names_carried carried) → CarriesAll by old new carried → LeaveAll by old new carried
  leaves_all old new carried distinct h = leaves_from old old new carried distinct (untouched_at old carried) h
