-- The segments of a list whose times are frame numbers of timecodes are well formed.
use Rattle.std.proofs.Common.{◌≡◌, ℕ, ◌-◌, ◌<◌, ◌≤◌, Bool, true, false, ◌==◌, nat_lt, if◌then◌else◌, List, [], ◌∷◌, ◌++◌, length, All, Option, None, IfSome, Result, Ok, Err, IfOk, refl, sym, subst, arith}
use Rattle.std.proofs.lemmas.Bool.Decides.{Decides-eqb}
use Rattle.std.proofs.lemmas.List.Elements.{All-nil, All-cons, All-append, All-head, All-tail}
use Rattle.std.proofs.lemmas.List.Sorted.{All-permutation}
use Rattle.tl_limits.specs.Limits.{max_clips, timecode_frames}
use Rattle.tl_model.specs.declared.recipe.Side.{Side}
use Rattle.tl_model.specs.declared.recipe.Side.TheVariants as side
use Rattle.tl_model.specs.declared.segment.Segment.{Segment}
use Rattle.tl_model.specs.Edit.{IsReplacement}
use Rattle.edl_text.specs.declared.event.Event.{Event}
use Rattle.edl_text.specs.declared.fault.EdlWhy.{EdlWhy}
use Rattle.edl_text.specs.declared.fault.EdlFault.{EdlFault}
use Rattle.edl_text.specs.declared.fault.EdlFault.TheVariants as faults
use Rattle.edl_text.specs.declared.fault.EdlWhy.TheVariants as why
use Rattle.edl_text.specs.List.{◌>>=◌, at_line}
use Rattle.edl_text.specs.Timed.{IsTimed}
use Rattle.edl_build.specs.declared.part.Part.{Part}
use Rattle.edl_build.specs.declared.part.Addition.{Addition}
use Rattle.edl_build.specs.declared.part.Addition.TheVariants.{Outgoing, Whole}
use Rattle.edl_build.specs.Clip.{clip_from}
use Rattle.edl_build.specs.Part.{added}
use Rattle.edl_build.specs.Build.{first_of, outgoing_of, parts_of, parts_from, gap, laid_from, start_of, IsAnswer, IsBuilt}
use Rattle.edl_build.proofs.FormedPart.{AreNumbered, IsShown, IsFormedPart, IsFormedAddition, clips_numbered, addition_formed}

-- ---- parts
outgoing_formed : (this : Addition) → IsFormedAddition this → IfSome (outgoing_of this) IsShown
outgoing_formed (Outgoing x) s = s
outgoing_formed (Whole part) s = tt

more_formed : (this : Addition) (parts : List Part) → IsFormedAddition this → All IsFormedPart parts → All IsFormedPart (parts_of this ++ parts)
more_formed (Outgoing x) parts s more = more
more_formed (Whole part) parts s more = All-cons IsFormedPart part parts s more

rest_formed : (this : Addition) (rest : Result (List Part) EdlFault) → IsFormedAddition this → IfOk rest (All IsFormedPart)
    → IfOk (rest >>= λ parts. Ok (parts_of this ++ parts)) (All IsFormedPart)
rest_formed this (Err fault) s more = tt
rest_formed this (Ok parts) s more = more_formed this parts s more

step_formed : (line : ℕ) (this : Result Addition EdlWhy) (rest : Option Side → Result (List Part) EdlFault) → IfOk this IsFormedAddition
    → ((from : Option Side) → IfSome from IsShown → IfOk (rest from) (All IsFormedPart))
    → IfOk (at_line line this >>= λ a. rest (outgoing_of a) >>= λ parts. Ok (parts_of a ++ parts)) (All IsFormedPart)
step_formed line (Err fault) rest s more = tt
step_formed line (Ok a) rest s more = rest_formed a (rest (outgoing_of a)) s (more (outgoing_of a) (outgoing_formed a s))

parts_formed : (clips : List ℕ → Option (ℕ × ℕ)) (from : Option Side) (events : List Event) → AreNumbered clips → All IsTimed events
    → IfSome from IsShown → IfOk (parts_from clips from events) (All IsFormedPart)
unfolding parts_from
parts_formed clips from [] s timed shows = All-nil IsFormedPart
parts_formed clips from (e ∷ more) s timed shows =
    step_formed e.line (added clips from e (first_of more)) (λ next. parts_from clips next more)
    (addition_formed clips from e (first_of more) s (All-head IsTimed e more timed) shows)
    (λ next is. parts_formed clips next more s (All-tail IsTimed e more timed) is)

-- ---- segments
gap_by : (b : Bool) (len : ℕ) → (len == 0) ≡ b → len < timecode_frames
    → All IsReplacement (if b then [] else record { first = side.Black; len = len; mix = None } ∷ [])
gap_by true len none below = All-nil IsReplacement
gap_by false len some below =
    let positive : 1 ≤ len = grind (arith, Decides-eqb len 0) in
    All-cons IsReplacement (record { first = side.Black; len = len; mix = None }) [] ((positive, tt), (tt, omega arith, tt)) (All-nil IsReplacement)

gap_formed : (len : ℕ) → len < timecode_frames → All IsReplacement (gap len)
gap_formed len below = gap_by (len == 0) len refl below

after_formed : (at : ℕ) (part : Part) (rest : Result (List Segment) EdlFault) → IsFormedPart part → IfOk rest (All IsReplacement)
    → IfOk (rest >>= λ more. Ok (gap (part.start - at) ++ part.segment ∷ more)) (All IsReplacement)
after_formed at part (Err fault) s more = tt
after_formed at part (Ok segments) s more =
    let below : part.start < timecode_frames = s.start in
    All-append IsReplacement (gap (part.start - at)) (part.segment ∷ segments) (gap_formed (part.start - at) (omega arith))
    (All-cons IsReplacement part.segment segments s.segment more)

no_overlap : (b : Bool) (fault : EdlFault) (x : Result (List Segment) EdlFault) → IfOk x (All IsReplacement)
    → IfOk (if b then Err fault else x) (All IsReplacement)
no_overlap true fault x s = tt
no_overlap false fault x s = s

laid_formed : (at : ℕ) (parts : List Part) → All IsFormedPart parts → IfOk (laid_from at parts) (All IsReplacement)
unfolding laid_from
laid_formed at [] s = All-nil IsReplacement
laid_formed at (part ∷ more) s =
    no_overlap (nat_lt part.start at) (faults.Line part.line why.Overlap) _
    (after_formed at part (laid_from part.end more) (All-head IsFormedPart part more s) (laid_formed part.end more (All-tail IsFormedPart part more s)))

answer_formed : (parts : Result (List Part) EdlFault) (segments : List Segment) → IfOk parts (All IsFormedPart) → IsAnswer parts (Ok segments)
    → All IsReplacement segments
answer_formed (Err fault) segments s built = absurd (let h : Ok segments ≡ Err fault = built in cc)
answer_formed (Ok parts) segments s built =
    let ordered = built.0 in
    let formed = All-permutation IsFormedPart parts ordered built.1.same s in
    subst (λ (x : Result (List Segment) EdlFault). IfOk x (All IsReplacement)) (sym built.2) (laid_formed (start_of ordered) ordered formed)

-- the segments that are built
pub built_formed : (clips : List (List ℕ × ℕ)) (events : List Event) (segments : List Segment) → length clips ≤ max_clips → All IsTimed events
    → IsBuilt clips events (Ok segments) → All IsReplacement segments
built_formed clips events segments few timed built =
    answer_formed (parts_from (clip_from 0 clips) None events) segments
    (parts_formed (clip_from 0 clips) None events (clips_numbered clips few) timed tt) built
