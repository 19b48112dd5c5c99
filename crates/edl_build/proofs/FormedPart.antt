-- What an event adds is well formed where its times are frame numbers of timecodes.
use Rattle.std.proofs.Common.{◌≡◌, ℕ, ◌+◌, ◌-◌, ◌<◌, ◌≤◌, Bool, true, false, ◌&&◌, ◌||◌, ◌==◌, nat_lt, nat_le, is_none, if◌then◌else◌, List, [], ◌∷◌, length, codes, Option, Some, None, IfSome, Result, Ok, Err, IfOk, refl, arith}
use Rattle.std.specs.Str.{bytes_eq}
use Rattle.std.proofs.lemmas.Bool.{leb-true, ltb-true}
use Rattle.std.proofs.lemmas.Bool.Decides.{Decides-eqb}
use Rattle.tl_limits.specs.Limits.{max_clips, timecode_frames}
use Rattle.tl_model.specs.declared.recipe.Mix.{Mix}
use Rattle.tl_model.specs.declared.recipe.Side.{Side}
use Rattle.tl_model.specs.declared.recipe.Side.TheVariants as side
use Rattle.tl_model.specs.Segment.{IsMix}
use Rattle.tl_model.specs.Edit.{IsSideWithin, IsMixWithin, IsReplacement}
use Rattle.edl_text.specs.declared.event.Event.{Event}
use Rattle.edl_text.specs.declared.fault.EdlWhy.{EdlWhy}
use Rattle.edl_text.specs.declared.fault.EdlWhy.TheVariants as why
use Rattle.edl_text.specs.Line.{◌>>=◌}
use Rattle.edl_text.specs.Law.{IsDuration}
use Rattle.edl_text.specs.Timed.{IsTimed}
use Rattle.edl_build.specs.declared.part.Part.{Part}
use Rattle.edl_build.specs.declared.part.Addition.{Addition}
use Rattle.edl_build.specs.declared.part.Addition.TheVariants.{Outgoing, Whole}
use Rattle.edl_build.specs.Clip.{clip_from}
use Rattle.edl_build.specs.Part.{is_outgoing, is_followed, has_lengths, name_taken, found, clip_named, clip_for, side_at, shown, mix_of, part_of, added}

pub then_ok : {A B : Type 0} (P : A → Type 0) (Q : B → Type 0) (x : Result A EdlWhy) (f : A → Result B EdlWhy) → IfOk x P
    → ((a : A) → P a → IfOk (f a) Q) → IfOk (x >>= f) Q
then_ok P Q (Ok a) f p q = q a p
then_ok P Q (Err e) f p q = tt

known_ok : {A : Type 0} (P : A → Type 0) (b : Bool) (x y : Result A EdlWhy) → (b ≡ true → IfOk x P) → (b ≡ false → IfOk y P)
    → IfOk (if b then x else y) P
known_ok P true x y p q = p refl
known_ok P false x y p q = q refl

both : (a b : Bool) → (a && b) ≡ true → (a ≡ true) × (b ≡ true)
both true b e = (refl, e)
both false b e = absurd (cc)

-- ---- clips have small numbers
abbrev pub IsNumbered : ℕ × ℕ → Type 0
IsNumbered clip = clip.0 ≤ max_clips

abbrev pub AreNumbered : (List ℕ → Option (ℕ × ℕ)) → Type 0
AreNumbered clips = (name : List ℕ) → IfSome (clips name) IsNumbered

some_or : (b : Bool) (clip : ℕ × ℕ) (others : Option (ℕ × ℕ)) → IsNumbered clip → IfSome others IsNumbered
    → IfSome (if b then Some clip else others) IsNumbered
some_or true clip others c o = c
some_or false clip others c o = o

from_numbered : (n : ℕ) (clips : List (List ℕ × ℕ)) (name : List ℕ) → n + length clips ≤ max_clips → IfSome (clip_from n clips name) IsNumbered
unfolding clip_from
from_numbered n [] name few = tt
from_numbered n (clip ∷ more) name few =
    some_or (bytes_eq clip.0 name) (n, clip.1) (clip_from (n + 1) more name) (omega arith) (from_numbered (n + 1) more name (omega arith))

pub clips_numbered : (clips : List (List ℕ × ℕ)) → length clips ≤ max_clips → AreNumbered (clip_from 0 clips)
clips_numbered clips few name = from_numbered 0 clips name (omega arith)

-- ---- sides
abbrev pub IsShown : Side → Type 0
IsShown = IsSideWithin timecode_frames

abbrev IsClip : Option (ℕ × ℕ) → Type 0
IsClip clip = IfSome clip IsNumbered

found_numbered : (clip : Option (ℕ × ℕ)) → IfSome clip IsNumbered → IfOk (found clip) IsClip
found_numbered None s = tt
found_numbered (Some clip) s = s

named_numbered : (clips : List ℕ → Option (ℕ × ℕ)) (name : Option (List ℕ)) → AreNumbered clips → IfOk (clip_named clips name) IsClip
named_numbered clips None s = tt
named_numbered clips (Some name) s = found_numbered (clips name) (s name)

clip_numbered : (clips : List ℕ → Option (ℕ × ℕ)) (e : Event) → AreNumbered clips → IfOk (clip_for clips e) IsClip
clip_numbered clips e s =
    known_ok IsClip (bytes_eq e.reel (codes "BL")) (Ok None) _ (λ _. tt) (λ _.
    known_ok IsClip (bytes_eq e.reel (codes "AX")) (clip_named clips (name_taken e)) (clip_named clips (Some e.reel))
    (λ _. named_numbered clips (name_taken e) s) (λ _. named_numbered clips (Some e.reel) s))

side_shown : (clip : Option (ℕ × ℕ)) (source : ℕ) → IsClip clip → source < timecode_frames → IfOk (side_at clip source) IsShown
side_shown None source s below = tt
side_shown (Some clip) source s below =
    known_ok IsShown (nat_lt source clip.1) (Err why.OutsideClip) (Ok (side.Clip clip.0 (source - clip.1))) (λ _. tt)
    (λ _. (omega arith, omega arith))

with_lengths : (e : Event) (x : Result Side EdlWhy) → has_lengths e ≡ true → IfOk x IsShown → IfOk x (λ y. IsShown y × (has_lengths e ≡ true))
with_lengths e (Ok x) long s = (s, long)
with_lengths e (Err f) long s = tt

event_shown : (clips : List ℕ → Option (ℕ × ℕ)) (e : Event) → AreNumbered clips → IsTimed e
    → IfOk (shown clips e) (λ x. IsShown x × (has_lengths e ≡ true))
unfolding shown
event_shown clips e s timed =
    then_ok IsClip (λ x. IsShown x × (has_lengths e ≡ true)) (clip_for clips e) _ (clip_numbered clips e s) (λ clip numbered.
    known_ok (λ x. IsShown x × (has_lengths e ≡ true)) (has_lengths e) (side_at clip e.source_in) (Err why.Span)
    (λ long. with_lengths e (side_at clip e.source_in) long (side_shown clip e.source_in numbered timed.source_in)) (λ _. tt))

-- ---- the steps of a dissolve
abbrev IsFormedMix : Option Mix → Type 0
IsFormedMix mix = IsMix mix × IsMixWithin timecode_frames mix

some_steps : (b : Bool) (frames : ℕ) (from : Side) → (frames == 0) ≡ b → frames < 1000 → IsShown from
    → IsFormedMix (if b then None else Some (record { from = from; done = 0; steps = frames; total = frames }))
some_steps true frames from none few s = (tt, tt)
some_steps false frames from some few s =
    let positive : 1 ≤ frames = grind (arith, Decides-eqb frames 0) in
    ((positive, omega arith), (s, omega arith, omega arith, omega arith))

mix_formed : (duration : Option ℕ) (from : Option Side) → IsDuration duration → IfSome from IsShown → IfOk (mix_of duration from) IsFormedMix
mix_formed None from few s = (tt, tt)
mix_formed (Some frames) None few s = tt
mix_formed (Some frames) (Some from) few s = some_steps (frames == 0) frames from refl few s

-- ---- parts
pub record IsFormedPart (part : Part) : Type 0 where
  pub start : part.start < timecode_frames
  pub segment : IsReplacement part.segment

apart : (a b : ℕ) → (a == b) ≡ false → a ≤ b → 1 ≤ b - a
apart a b differ order = grind (arith, Decides-eqb a b)

lasting_by : (duration : Option ℕ) (a b : ℕ) → (is_none duration || nat_lt a b) ≡ true → (is_none duration && a == b) ≡ false → a ≤ b → 1 ≤ b - a
lasting_by None a b long other order = apart a b other order
lasting_by (Some frames) a b long other order =
    let below : a < b = ltb-true a b long in
    omega arith

lasting : (e : Event) → has_lengths e ≡ true → is_outgoing e ≡ false → 1 ≤ e.record_out - e.record_in
lasting e long other =
    let ends : Bool = (nat_le e.source_in e.source_out && nat_le e.record_in e.record_out)
    && e.source_out - e.source_in == e.record_out - e.record_in in
    let parts = both ends (is_none e.duration || nat_lt e.record_in e.record_out) long in
    let equal = both (nat_le e.source_in e.source_out && nat_le e.record_in e.record_out) (e.source_out - e.source_in == e.record_out - e.record_in) parts.0 in
    let order = both (nat_le e.source_in e.source_out) (nat_le e.record_in e.record_out) equal.0 in
    lasting_by e.duration e.record_in e.record_out parts.1 other (leb-true e.record_in e.record_out order.1)

part_formed : (e : Event) (first : Side) (mix : Option Mix) → IsTimed e → has_lengths e ≡ true → is_outgoing e ≡ false → IsShown first
    → IsFormedMix mix → IsFormedPart (part_of e first mix)
part_formed e first mix timed long other s m =
    let some = lasting e long other in
    let below : e.record_out < timecode_frames = timed.record_out in
    record { start = timed.record_in; segment = ((some, m.0), (s, omega arith, m.1)) }

abbrev pub IsFormedAddition : Addition → Type 0
IsFormedAddition (Outgoing x) = IsShown x
IsFormedAddition (Whole part) = IsFormedPart part

pub addition_formed : (clips : List ℕ → Option (ℕ × ℕ)) (from : Option Side) (e : Event) (next : Option Event) → AreNumbered clips → IsTimed e
    → IfSome from IsShown → IfOk (added clips from e next) IsFormedAddition
unfolding added
addition_formed clips from e next s timed shows =
    known_ok IsFormedAddition (is_outgoing e) _ _
    (λ lead. known_ok IsFormedAddition (is_followed e next) _ (Err why.PairMissing)
    (λ _. then_ok (λ x. IsShown x × (has_lengths e ≡ true)) IsFormedAddition (shown clips e) _ (event_shown clips e s timed) (λ x is. is.0)) (λ _. tt))
    (λ other. then_ok IsFormedMix IsFormedAddition (mix_of e.duration from) _ (mix_formed e.duration from timed.duration shows) (λ mix formed.
    then_ok (λ x. IsShown x × (has_lengths e ≡ true)) IsFormedAddition (shown clips e) _ (event_shown clips e s timed) (λ x is.
    part_formed e x mix timed is.1 other is.0 formed)))
