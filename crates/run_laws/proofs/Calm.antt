-- What doesn't come where no count rises and the store holds what is asked for.
use Rattle.std.proofs.Common.{◌≡◌, ℕ, ◌+◌, ◌-◌, ◌<◌, ◌≤◌, ◌^◌, min, Bool, false, ◌||◌, List, [], ◌∷◌, ◌++◌, map, length, Option, Some, None, Result, Ok, Err, inl, inr, refl, sym, ap, subst, ◌∙◌, arith, true≢false}
use Rattle.std.specs.Prelude.{IsSome, IsTrue}
use Rattle.std.specs.List.{AllByRecursion, list_any}
use Rattle.tl_model.specs.Cells.{recipes}
use Rattle.tl_model.specs.Media.{Library}
use Rattle.tl_model.specs.declared.fault.Ending.{Ending}
use Rattle.tl_model.specs.declared.fault.Ending.TheVariants as ending
use Rattle.tl_model.specs.declared.fault.RenderFault.{RenderFault}
use Rattle.tl_model.specs.declared.recipe.Recipe.{Recipe}
use Rattle.tl_ports.specs.declared.fault.FetchFault.{FetchFault}
use Rattle.tl_ports.specs.declared.fault.FetchFault.TheVariants as fetching
use Rattle.tl_ports.specs.Outside.{FetchHasCause, Rose, Wanted}
use Rattle.tl_ports.specs.Seen.{StoreSeen, VaultSeen}
use Rattle.smart_export.specs.Ends.{BeginsWith}
use Rattle.smart_export.specs.Rendered.{IsTooLong, packet_of}
use Rattle.play_head.specs.Carrying.{Carried, Carrier, CarriesAll, EndsForCause, Leaves}
use Rattle.timeline_app.specs.Course.{LeaveAll, ended_export}
use Rattle.timeline_app.specs.Ending.{is_fault, is_sink}
use Rattle.run_laws.specs.Sound.{IsExportable, AreExportable, HoldsFile, Stays}

-- ---- counts

rose_by : (before now limit : ℕ) → now ≡ before → before < limit → min (before + 1) limit ≤ now → ⊥
rose_by before now limit e below rose = omega (arith, e, below, rose)

pub not_rose : (before now : ℕ) → Stays before now → Rose before now → ⊥
not_rose before now h rose = rose_by before now (2 ^ 64 - 1) h.0 h.1 rose

-- ---- the store

some_is : {A : Type 0} (o : Option A) (x y : A) → o ≡ Some x → o ≡ Some y → x ≡ y
some_is o x y e f = let same : Some x ≡ Some y = sym e ∙ f in cc

none_some : {A : Type 0} (o : Option A) (x : A) → o ≡ None → o ≡ Some x → ⊥
none_some o x e f = let same : None ≡ Some x = sym e ∙ f in absurd cc

too_long : (a b limit : ℕ) → a ≡ b → a ≤ limit → limit < b → ⊥
too_long a b limit e le lt = omega (arith, e, le, lt)

pub held_fetches : (tells : Bool) (old new : StoreSeen) (file : Wanted) (fault : FetchFault) → Stays old.faults new.faults → (IsTrue tells → HoldsFile old file) → (fault ≡ fetching.NoMemory → ⊥)
    → FetchHasCause tells old new file (Err fault) → ⊥
held_fetches tells old new file fetching.Failed stays held other rose = not_rose old.faults new.faults stays rose
held_fetches tells old new file fetching.Missing stays held other (inl h) = none_some (old.file file.name) (held h.0).0 h.1 (held h.0).1
held_fetches tells old new file fetching.Missing stays held other (inr rose) = not_rose old.faults new.faults stays rose
held_fetches tells old new file (fetching.TooLarge limit) stays held other (e, inl h) =
    let has = held h.0 in too_long (length has.0) (length h.1.0) file.limit (ap length (some_is (old.file file.name) has.0 h.1.0 has.1 h.1.1)) has.2 h.1.2
held_fetches tells old new file (fetching.TooLarge limit) stays held other (e, inr rose) = not_rose old.faults new.faults stays rose
held_fetches tells old new file fetching.NoMemory stays held other calm = other refl

-- what is so of each element is so of one among them
pub among : {A : Type 0} (P : A → Type 0) (front rest : List A) (x : A) → AllByRecursion P (front ++ x ∷ rest) → P x
among P [] rest x h = h.0
among P (y ∷ front) rest x h = among P front rest x h.1

among_rest : {A : Type 0} (P : A → Type 0) (front rest : List A) → AllByRecursion P (front ++ rest) → AllByRecursion P rest
among_rest P [] rest h = h
among_rest P (y ∷ front) rest h = among_rest P front rest h.1

-- ---- the exports

last_count : ℕ
last_count = 2 ^ 64 - 1

keeps_by : (k limit before now : ℕ) → k ≤ limit → k ≤ before → min (before + 1) limit ≤ now → k ≤ now
keeps_by k limit before now a b c = omega (arith, a, b, c)

count_keeps : (k before now : ℕ) (e : Ending) → k ≤ 2 ^ 64 - 1 → k ≤ before → EndsForCause before now e → k ≤ now
count_keeps k before now (ending.Done count) few le h = omega (arith, le, h)
count_keeps k before now (ending.ClipFault at fault) few le h = omega (arith, le, h)
count_keeps k before now (ending.SliceTooLong at) few le h = omega (arith, le, h)
count_keeps k before now ending.Sink few le h = keeps_by k (2 ^ 64 - 1) before now few le h
count_keeps k before now ending.NoMemory few le h = omega (arith, le, h)

counts_keep : {F : Type 0} (by : Carrier F) (k : ℕ) (old new : VaultSeen) (cs : List Carried) → CarriesAll by old new cs → k ≤ 2 ^ 64 - 1 → k ≤ old.faults → k ≤ new.faults
counts_keep by k old new [] h few le = subst (λ (v : VaultSeen). k ≤ v.faults) (sym h) le
counts_keep by k old new (c ∷ cs) h few le = counts_keep by k h.0 new cs h.2 few (count_keeps k old.faults h.0.faults c.ending few le h.1.cause)

more_by : (x limit before now : ℕ) → x < limit → x ≤ before → min (before + 1) limit ≤ now → x + 1 ≤ now
more_by x limit before now a b c = omega (arith, a, b, c)

few_by : (x limit : ℕ) → x < limit → x + 1 ≤ limit
few_by x limit a = omega (arith, a)

le_by : (x limit : ℕ) → x < limit → x ≤ limit
le_by x limit a = omega (arith, a)

past_by : (x n : ℕ) → x + 1 ≤ n → n ≡ x → ⊥
past_by x n a e = omega (arith, a, e)

one_sink : {F : Type 0} (by : Carrier F) (x before : ℕ) (mid new : VaultSeen) (cs : List Carried) (e : Ending) → CarriesAll by mid new cs → x < 2 ^ 64 - 1 → x ≤ before → new.faults ≡ x
    → EndsForCause before mid.faults e → is_sink e ≡ false
one_sink by x before mid new cs (ending.Done count) all below le same h = refl
one_sink by x before mid new cs (ending.ClipFault at fault) all below le same h = refl
one_sink by x before mid new cs (ending.SliceTooLong at) all below le same h = refl
one_sink by x before mid new cs ending.Sink all below le same h =
    absurd (past_by x new.faults (counts_keep by (x + 1) mid new cs all (few_by x (2 ^ 64 - 1) below) (more_by x (2 ^ 64 - 1) before mid.faults below le h)) same)
one_sink by x before mid new cs ending.NoMemory all below le same h = refl

pub no_sink : {F : Type 0} (by : Carrier F) (x : ℕ) (old new : VaultSeen) (cs : List Carried) → CarriesAll by old new cs → x < 2 ^ 64 - 1 → x ≤ old.faults → new.faults ≡ x
    → list_any is_sink (map (λ (c : Carried). c.ending) cs) ≡ false
no_sink by x old new [] h below le same = refl
no_sink by x old new (c ∷ cs) h below le same =
    let one = one_sink by x old.faults h.0 new cs c.ending h.2 below le same h.1.cause in
    let rest = no_sink by x h.0 new cs h.2 below (count_keeps x old.faults h.0.faults c.ending (le_by x (2 ^ 64 - 1) below) le h.1.cause) same in
    ap (λ (b : Bool). b || list_any is_sink (map (λ (c : Carried). c.ending) cs)) one ∙ rest

-- ---- the frames

fault_first : {F : Type 0} (lib : Library F) (rs : List Recipe) (fault : RenderFault) → AllByRecursion (IsExportable lib) rs → BeginsWith (λ recipe. lib.render recipe ≡ Err fault) rs → ⊥
fault_first lib [] fault h b = b
fault_first {F} lib (r ∷ rs) fault h b = let same : ◌≡◌ {A = Result F RenderFault} (Ok h.0.0) (Err fault) = sym h.0.1 ∙ b in absurd cc

long_by : {F : Type 0} (lib : Library F) (r : Recipe) → IsExportable lib r → IsTooLong lib r → ⊥
long_by {F} lib r h b =
    let same : ◌≡◌ {A = Result F RenderFault} (Ok h.0) (Ok b.0) = sym h.1 ∙ b.1 in
    let is : h.0 ≡ b.0 = cc in
    let none : packet_of lib r h.0 ≡ None = ap (packet_of lib r) is ∙ b.2 in
    absurd (true≢false (sym (subst IsSome none h.2)))

long_first : {F : Type 0} (lib : Library F) (rs : List Recipe) → AllByRecursion (IsExportable lib) rs → BeginsWith (IsTooLong lib) rs → ⊥
long_first lib [] h b = b
long_first lib (r ∷ rs) h b = long_by lib r h.0 b

one_fault : {F : Type 0} (by : Carrier F) (old new : VaultSeen) (c : Carried) (e : Ending) → AllByRecursion (IsExportable by.library) (recipes c.line) → Leaves by old new c e → is_fault e ≡ false
one_fault by old new c (ending.Done count) fine h = refl
one_fault by old new c (ending.ClipFault at fault) fine h =
    let cut = h.2.0 in
    absurd (fault_first by.library cut.rest fault (among_rest (IsExportable by.library) cut.front cut.rest (subst (AllByRecursion (IsExportable by.library)) cut.parts fine)) h.2.2)
one_fault by old new c (ending.SliceTooLong at) fine h =
    let cut = h.2.0 in
    absurd (long_first by.library cut.rest (among_rest (IsExportable by.library) cut.front cut.rest (subst (AllByRecursion (IsExportable by.library)) cut.parts fine)) h.2.2)
one_fault by old new c ending.Sink fine h = refl
one_fault by old new c ending.NoMemory fine h = refl

pub no_fault : {F : Type 0} (by : Carrier F) (old new : VaultSeen) (cs : List Carried) → AreExportable by.library (map ended_export cs) → LeaveAll by old new cs
    → list_any is_fault (map (λ (c : Carried). c.ending) cs) ≡ false
no_fault by old new [] fine h = refl
no_fault by old new (c ∷ cs) fine h =
    ap (λ (b : Bool). b || list_any is_fault (map (λ (c : Carried). c.ending) cs)) (one_fault by old new c c.ending fine.0 h.0) ∙ no_fault by old new cs fine.1 h.1
