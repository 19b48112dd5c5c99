-- How an export's file and its entries make what was carried out.
use Rattle.std.proofs.Common.{◌≡◌, ℕ, ◌≤◌, List, [], Option, Some, None, Result, Ok, Err, ◌⊎◌, inl, inr, refl, sym, ap, subst, ◌∙◌, arith}
use Rattle.std.specs.Prelude.{IsTrue, Bool}
use Rattle.std.proofs.lemmas.List.{append-nil}
use Rattle.tl_model.specs.declared.fault.Ending.{Ending}
use Rattle.tl_model.specs.declared.fault.Ending.TheVariants as ending
use Rattle.tl_ports.specs.declared.fault.PutFault.{PutFault}
use Rattle.tl_ports.specs.declared.fault.PutFault.TheVariants as putting
use Rattle.tl_ports.specs.Outside.{KeepsOthers, KeepsBegun, PutHasCause, Rose}
use Rattle.tl_ports.specs.Seen.{VaultSeen}
use Rattle.smart_export.specs.Ends.{Frames, all_frames, Ends, IsCut, IsWritten, EndingHasCause}
use Rattle.play_head.specs.Carrying.{Carried, Carrier, IsPartOrOld, Leaves, EndsForCause, ending_of, ending_after, CarriesOne}

-- a whole file is a front of itself
whole_cut : {F : Type 0} (tells : Bool) (held : List ℕ) (frames : Frames F) → IsWritten tells held frames → IsCut tells held frames
whole_cut tells held frames w = record {
  front = frames.recipes;
  rest = [];
  packets = w.packets;
  parts = sym (append-nil frames.recipes);
  rendered = w.rendered;
  prefix = λ told. ([], sym (w.whole told) ∙ sym (append-nil held));
}

-- an empty file is a front of each
empty_cut : {F : Type 0} (tells : Bool) (frames : Frames F) → IsCut tells [] frames
empty_cut tells frames = record {
  front = [];
  rest = frames.recipes;
  packets = [];
  parts = refl;
  rendered = tt;
  prefix = λ told. (_, refl);
}

-- ---- the end of the file

leaves_at : {F : Type 0} (by : Carrier F) (old new : VaultSeen) (held : List ℕ) (c : Carried) (written : Ending) (ended : Result Unit PutFault)
    → (IsTrue by.tells → new.file c.name ≡ Some held) → Ends by.tells held (all_frames by.library c.line by.rate) written
    → Leaves by old new c (ending_after written ended)
leaves_at by old new held c (ending.Done count) (Ok done) at h = (held, at, h)
leaves_at by old new held c (ending.Done count) (Err putting.Failed) at h = λ told. inr (held, at told, whole_cut by.tells held (all_frames by.library c.line by.rate) h.1)
leaves_at by old new held c (ending.Done count) (Err putting.NoMemory) at h = λ told. inr (held, at told, whole_cut by.tells held (all_frames by.library c.line by.rate) h.1)
leaves_at by old new held c (ending.ClipFault n fault) ended at h = (held, at, h)
leaves_at by old new held c (ending.SliceTooLong n) ended at h = (held, at, h)
leaves_at by old new held c ending.Sink ended at h = λ told. inr (held, at told, h)
leaves_at by old new held c ending.NoMemory ended at h = λ told. inr (held, at told, h)

rose_sooner : (before mid now : ℕ) → mid ≤ now → Rose before mid → Rose before now
rose_sooner before mid now le rose = omega arith

rose_later : (before mid now : ℕ) → mid ≡ before → Rose mid now → Rose before now
rose_later before mid now e rose = subst (λ (n : ℕ). Rose n now) e rose

cause_after : (before mid now : ℕ) (written : Ending) (ended : Result Unit PutFault) → EndingHasCause before mid written → PutHasCause mid now ended → before ≤ mid → mid ≤ now → EndsForCause before now (ending_after written ended)
cause_after before mid now (ending.Done count) (Ok done) w p le le' = p ∙ w
cause_after before mid now (ending.Done count) (Err putting.Failed) w p le le' = rose_later before mid now w p
cause_after before mid now (ending.Done count) (Err putting.NoMemory) w p le le' = omega arith
cause_after before mid now (ending.ClipFault n fault) ended w p le le' = omega arith
cause_after before mid now (ending.SliceTooLong n) ended w p le le' = omega arith
cause_after before mid now ending.Sink ended w p le le' = rose_sooner before mid now le' w
cause_after before mid now ending.NoMemory ended w p le le' = omega arith

-- the frames were written into the begun file, which was then ended
pub carries_begun : {F : Type 0} (by : Carrier F) (old mid new : VaultSeen) (c : Carried) (written : Ending) (ended : Result Unit PutFault)
    → c.ending ≡ ending_after written ended → old.begun ≡ Some c.name → KeepsBegun by.tells old mid → (IsTrue by.tells → mid.file c.name ≡ Some mid.held) → (IsTrue by.tells → new.file ≡ mid.file)
    → Ends by.tells mid.held (all_frames by.library c.line by.rate) written → EndingHasCause old.faults mid.faults written → PutHasCause mid.faults new.faults ended
    → mid.faults ≤ new.faults → new.begun ≡ None → CarriesOne by old new c
carries_begun by old mid new c written ended e begun kept lawful same ends why cause later idle = record {
  leaves = subst (Leaves by old new c) (sym e)
      (leaves_at by old new mid.held c written ended (λ told. ap (λ (of : List ℕ → Option (List ℕ)). of c.name) (same told) ∙ lawful told) ends);
  others = λ told other apart. ap (λ (of : List ℕ → Option (List ℕ)). of other) (same told)
      ∙ kept.others told other (λ is. apart (let name : other ≡ c.name = cc in name));
  idle = idle;
  cause = subst (EndsForCause old.faults new.faults) (sym e) (cause_after old.faults mid.faults new.faults written ended why cause kept.later later);
}

-- ---- the begin of the file

old_or_cut : {F : Type 0} (by : Carrier F) (old mid new : VaultSeen) (c : Carried) → (IsTrue by.tells → mid.file c.name ≡ Some []) → IsPartOrOld by mid new c → IsPartOrOld by old new c
old_or_cut by old mid new c empty h = λ told. elim (h told) [
  | inl same ↦ inr ([], same ∙ empty told, empty_cut by.tells (all_frames by.library c.line by.rate))
  | inr cut ↦ inr cut
]

leaves_later : {F : Type 0} (by : Carrier F) (old mid new : VaultSeen) (c : Carried) (why : Ending) → (IsTrue by.tells → mid.file c.name ≡ Some []) → Leaves by mid new c why → Leaves by old new c why
leaves_later by old mid new c (ending.Done count) empty h = h
leaves_later by old mid new c (ending.ClipFault n fault) empty h = h
leaves_later by old mid new c (ending.SliceTooLong n) empty h = h
leaves_later by old mid new c ending.Sink empty h = old_or_cut by old mid new c empty h
leaves_later by old mid new c ending.NoMemory empty h = old_or_cut by old mid new c empty h

-- the file was begun, and then carried out
pub carries_on : {F : Type 0} (by : Carrier F) (old mid new : VaultSeen) (c : Carried) → (IsTrue by.tells → mid.file c.name ≡ Some []) → KeepsOthers by.tells old mid c.name → mid.faults ≡ old.faults → CarriesOne by mid new c → CarriesOne by old new c
carries_on by old mid new c empty others calm h = record {
  leaves = leaves_later by old mid new c c.ending empty h.leaves;
  others = λ told other apart. h.others told other apart ∙ others told other apart;
  idle = h.idle;
  cause = subst (λ (n : ℕ). EndsForCause n new.faults c.ending) calm h.cause;
}

empty_or_old : {F : Type 0} (by : Carrier F) (old new : VaultSeen) (c : Carried) → (IsTrue by.tells → (new.file c.name ≡ old.file c.name) ⊎ (new.file c.name ≡ Some [])) → IsPartOrOld by old new c
empty_or_old by old new c h = λ told. elim (h told) [
  | inl same ↦ inl same
  | inr empty ↦ inr ([], empty, empty_cut by.tells (all_frames by.library c.line by.rate))
]

refused_leaves : {F : Type 0} (by : Carrier F) (old new : VaultSeen) (c : Carried) (fault : PutFault) → (IsTrue by.tells → (new.file c.name ≡ old.file c.name) ⊎ (new.file c.name ≡ Some [])) → Leaves by old new c (ending_of fault)
refused_leaves by old new c putting.Failed h = empty_or_old by old new c h
refused_leaves by old new c putting.NoMemory h = empty_or_old by old new c h

refused_cause : (before now : ℕ) (fault : PutFault) → PutHasCause {A = Unit {0}} before now (Err fault) → EndsForCause before now (ending_of fault)
refused_cause before now putting.Failed h = h
refused_cause before now putting.NoMemory h = omega arith

-- the file wasn't begun
pub carries_refused : {F : Type 0} (by : Carrier F) (old new : VaultSeen) (c : Carried) (fault : PutFault) → c.ending ≡ ending_of fault → new.begun ≡ None
    → (IsTrue by.tells → (new.file c.name ≡ old.file c.name) ⊎ (new.file c.name ≡ Some [])) → KeepsOthers by.tells old new c.name → PutHasCause {A = Unit {0}} old.faults new.faults (Err fault) → CarriesOne by old new c
carries_refused by old new c fault e idle file others cause = record {
  leaves = subst (Leaves by old new c) (sym e) (refused_leaves by old new c fault file);
  others = others;
  idle = idle;
  cause = subst (EndsForCause old.faults new.faults) (sym e) (refused_cause old.faults new.faults fault cause);
}
