-- The exports that a script asks for have different names.
use Rattle.std.proofs.Common.{◌≡◌, ℕ, zero, suc, ◌+◌, Bool, true, false, cond, List, [], ◌∷◌, ◌++◌, Result, Ok, Err, ◌⊎◌, inl, inr, refl, sym, ap, subst, ◌∙◌}
use Rattle.std.specs.Prelude.{nat_lt, ◌||◌}
use Rattle.std.specs.List.{flat_map}
use Rattle.std.specs.Str.{bytes_eq}
use Rattle.std.proofs.lemmas.List.{append-nil}
use Rattle.std.proofs.lemmas.List.Concat.{flat_map-append}
use Rattle.tl_model.specs.Cells.{run}
use Rattle.tl_model.specs.declared.journal.Act.{Act}
use Rattle.tl_model.specs.declared.journal.Act.TheVariants as act
use Rattle.tl_model.specs.declared.segment.Segment.{Segment}
use Rattle.render_core.specs.Calls.{CallOf}
use Rattle.render_core.specs.Step.{Reply, Edited, Wanted, Cancelled, PastEnd, Claimed, Filed, Released, Closed, Picture, Fault, Pending, Render, Asked, EmptyTimeline, Taken, Silent}
use Rattle.edl_text.specs.declared.fault.EdlFault.{EdlFault}
use Rattle.script_lang.specs.declared.script.Call.{Call}
use Rattle.script_lang.specs.declared.script.Call.TheVariants as call
use Rattle.script_lang.specs.Line.{is_one_of}
use Rattle.script_lang.specs.ScriptSound.{AreDistinct}
use Rattle.script_lang.specs.ScriptText.{export_files}
use Rattle.play_head.specs.Acts.{line_acts}
use Rattle.play_head.specs.Roll.{ahead, frame_calls}
use Rattle.play_head.specs.Work.{Turn, AreTurns, IsTurn, turns_calls}
use Rattle.play_head.specs.Playing.{HasTurns, acts_of}
use Rattle.timeline_app.proofs.AskedNames.{asked_names, act_asked, name_asked}
use Rattle.timeline_app.proofs.Files.{or_left, or_right}

-- ---- a list within another one, in order

abbrev pub IsWithin : (some all : List (List ℕ)) → Type 0
IsWithin some [] = some ≡ []
IsWithin some (y ∷ all) = IsWithin some all ⊎ ((more : List (List ℕ)) × (some ≡ y ∷ more) × IsWithin more all)

pub nothing_within : (all : List (List ℕ)) → IsWithin [] all
nothing_within [] = refl
nothing_within (y ∷ all) = inl (nothing_within all)

all_within : (all : List (List ℕ)) → IsWithin all all
all_within [] = refl
all_within (y ∷ all) = inr (all, refl, all_within all)

pub within-append : (some all others more : List (List ℕ)) → IsWithin some all → IsWithin others more → IsWithin (some ++ others) (all ++ more)
within-append some [] others more h k = subst (λ (ns : List (List ℕ)). IsWithin (ns ++ others) more) (sym h) k
within-append some (y ∷ all) others more (inl h) k = inl (within-append some all others more h k)
within-append some (y ∷ all) others more (inr h) k =
    inr (h.0 ++ others, ap (λ (ns : List (List ℕ)). ns ++ others) h.1, within-append h.0 all others more h.2 k)

pub within_front : (some all more : List (List ℕ)) → IsWithin some all → IsWithin some (all ++ more)
within_front some all more h = subst (λ (ns : List (List ℕ)). IsWithin ns (all ++ more)) (append-nil some) (within-append some all [] more h (nothing_within more))

neither : (a b : Bool) → a ≡ false → b ≡ false → (a || b) ≡ false
neither a b e h = ap (λ (x : Bool). x || b) e ∙ h

within_apart : (some all : List (List ℕ)) (name : List ℕ) → IsWithin some all → is_one_of all name ≡ false → is_one_of some name ≡ false
within_apart some [] name h e = ap (λ (ns : List (List ℕ)). is_one_of ns name) h
within_apart some (y ∷ all) name (inl h) e = within_apart some all name h (or_right (bytes_eq y name) (is_one_of all name) e)
within_apart some (y ∷ all) name (inr h) e =
    ap (λ (ns : List (List ℕ)). is_one_of ns name) h.1
    ∙ neither (bytes_eq y name) (is_one_of h.0 name) (or_left (bytes_eq y name) (is_one_of all name) e)
    (within_apart h.0 all name h.2 (or_right (bytes_eq y name) (is_one_of all name) e))

pub within_distinct : (some all : List (List ℕ)) → IsWithin some all → AreDistinct all → AreDistinct some
within_distinct some [] h d = subst AreDistinct (sym h) tt
within_distinct some (y ∷ all) (inl h) d = within_distinct some all h d.1
within_distinct some (y ∷ all) (inr h) d = subst AreDistinct (sym h.1) (within_apart h.0 all y h.2 d.0, within_distinct h.0 all h.2 d.1)

-- ---- the names of asks, answered or not

abbrev ask_names : Act → List (List ℕ)
ask_names (act.Ask name) = name ∷ []
ask_names other = []

name_within : {F : Type 0} (name : List ℕ) (told : Reply F) → IsWithin (name_asked name told) (name ∷ [])
name_within name (Asked export) = all_within (name ∷ [])
name_within name (Edited reply) = inl refl
name_within name (Wanted count) = inl refl
name_within name (Cancelled count) = inl refl
name_within name (PastEnd len) = inl refl
name_within name (Claimed job recipe) = inl refl
name_within name Filed = inl refl
name_within name Released = inl refl
name_within name (Closed at) = inl refl
name_within name (Picture frame) = inl refl
name_within name (Fault fault) = inl refl
name_within name (Pending recipe) = inl refl
name_within name (Render recipe) = inl refl
name_within name EmptyTimeline = inl refl
name_within name (Taken export other line) = inl refl
name_within name Silent = inl refl

act_within : {F : Type 0} (what : Act) (told : Reply F) → IsWithin (act_asked what told) (ask_names what)
act_within (act.Ask name) told = name_within name told
act_within (act.Edit edit) told = refl
act_within act.Undo told = refl
act_within act.Redo told = refl
act_within (act.Want first len) told = refl
act_within (act.Cancel first len) told = refl
act_within act.Claim told = refl
act_within (act.File job) told = refl
act_within (act.Release job) told = refl
act_within (act.Play n) told = refl
act_within (act.Show n) told = refl
act_within act.Take told = refl
act_within (act.End export ending) told = refl
act_within (act.Mark turns) told = refl
act_within act.Skip told = refl
act_within act.Stop told = refl

calls_within : {F : Type 0} (calls : List (CallOf F)) → IsWithin (flat_map asked_names calls) (flat_map ask_names (acts_of calls))
calls_within [] = refl
calls_within (c ∷ calls) =
    within-append (asked_names c) (ask_names c.act) (flat_map asked_names calls) (flat_map ask_names (acts_of calls)) (act_within c.act c.told) (calls_within calls)

-- ---- the asks of a line

frame_asks : (first len i : ℕ) (b : Bool) → flat_map ask_names (act.Play (first + i) ∷ cond b (act.Want (first + i + ahead) 1 ∷ []) []) ≡ []
frame_asks first len i true = refl
frame_asks first len i false = refl

frames_ask : (first len from count : ℕ) → flat_map ask_names (flat_map (frame_calls first len) (run (λ i. i) from count)) ≡ []
frames_ask first len from zero = refl
frames_ask first len from (suc count) =
    flat_map-append ask_names (frame_calls first len from) (flat_map (frame_calls first len) (run (λ i. i) (from + 1) count))
    ∙ ap (λ (ns : List (List ℕ)). ns ++ flat_map ask_names (flat_map (frame_calls first len) (run (λ i. i) (from + 1) count))) (frame_asks first len from (nat_lt (from + ahead) len))
    ∙ frames_ask first len (from + 1) count

line_asks : (clips : List (List ℕ × ℕ)) (c : Call) (list : Result (List Segment) EdlFault) → flat_map ask_names (line_acts clips c list) ≡ export_files c
line_asks clips (call.Insert at name first len) list = refl
line_asks clips (call.Overwrite at name first len) list = refl
line_asks clips (call.Extract at len) list = refl
line_asks clips (call.Lift at len) list = refl
line_asks clips (call.Split at) list = refl
line_asks clips (call.TrimIn at by) list = refl
line_asks clips (call.TrimOut at by) list = refl
line_asks clips (call.Slip at by) list = refl
line_asks clips (call.Dissolve at len) list = refl
line_asks clips (call.Relink at name first) list = refl
line_asks clips (call.Edl file) (Ok segments) = refl
line_asks clips (call.Edl file) (Err fault) = refl
line_asks clips call.Undo list = refl
line_asks clips call.Redo list = refl
line_asks clips (call.Want first len) list = refl
line_asks clips (call.Cancel first len) list = refl
line_asks clips (call.Play n) list = refl
line_asks clips (call.Show n) list = refl
line_asks clips (call.Roll first len) list = frames_ask first len 0 len
line_asks clips (call.Work turns) list = refl
line_asks clips (call.Export file) list = refl

-- its calls, or some first ones of them
pub line_within : {F : Type 0} (clips : List (List ℕ × ℕ)) (c : Call) (list : Result (List Segment) EdlFault) (calls : List (CallOf F)) (left : List Act) → line_acts clips c list ≡ acts_of calls ++ left → IsWithin (flat_map asked_names calls) (export_files c)
line_within clips c list calls left e =
    subst (IsWithin (flat_map asked_names calls)) (sym (flat_map-append ask_names (acts_of calls) left) ∙ ap (flat_map ask_names) (sym e) ∙ line_asks clips c list)
    (within_front (flat_map asked_names calls) (flat_map ask_names (acts_of calls)) (flat_map ask_names left) (calls_within calls))

pub whole_within : {F : Type 0} (clips : List (List ℕ × ℕ)) (c : Call) (list : Result (List Segment) EdlFault) (calls : List (CallOf F)) → acts_of calls ≡ line_acts clips c list → IsWithin (flat_map asked_names calls) (export_files c)
whole_within clips c list calls e = line_within clips c list calls [] (sym e ∙ sym (append-nil (acts_of calls)))

-- turns of work ask for none
end_asks : {F : Type 0} (turn : Turn F) → IsTurn turn → act_asked turn.end turn.told ≡ []
end_asks turn (inl e, told) = ap (λ (what : Act). act_asked what turn.told) e
end_asks turn (inr e, told) = ap (λ (what : Act). act_asked what turn.told) e

turns_ask : {F : Type 0} (number : ℕ) (done : List (Turn F)) → AreTurns done → flat_map asked_names (turns_calls number done) ≡ []
turns_ask number [] h = refl
turns_ask number (turn ∷ []) h = ap (λ (ns : List (List ℕ)). ns ++ []) (end_asks turn h)
turns_ask number (turn ∷ next ∷ done) h =
    ap (λ (ns : List (List ℕ)). ns ++ flat_map asked_names (turns_calls number (next ∷ done))) (end_asks turn h.0) ∙ turns_ask number (next ∷ done) h.2

pub work_within : {F : Type 0} (number turns : ℕ) (calls : List (CallOf F)) (done : List (Turn F)) → HasTurns number turns calls done → IsWithin (flat_map asked_names calls) []
work_within number turns calls done h = ap (flat_map asked_names) h.is ∙ turns_ask number done h.are_turns
