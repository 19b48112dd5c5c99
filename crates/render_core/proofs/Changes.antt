-- What an edit, an undo or a redo makes of the machine.
use Rattle.std.proofs.Common.{◌≡◌, ℕ, List, [], ◌∷◌, map, not, Result, Ok, Err, refl, sym, ap, subst, ◌∙◌}
use Rattle.tl_model.specs.Cells.{Cell, recipes, is_among}
use Rattle.tl_model.specs.Media.{Library}
use Rattle.tl_model.specs.declared.edit.EditRefusal.{EditRefusal}
use Rattle.tl_model.specs.declared.edit.EditReply.{EditReply}
use Rattle.tl_model.specs.declared.edit.EditReply.TheVariants as answer
use Rattle.tl_model.specs.declared.edit.Edit.{Edit}
use Rattle.time_list.specs.Apply.{apply}
use Rattle.edit_undo.specs.History.{History, with_line, back_to, forward_to, edit_outcome, undo_outcome, redo_outcome, Makes, AreSoundLines, IsSoundHistory}
use Rattle.render_core.specs.declared.job.Job.{Job}
use Rattle.render_core.specs.State.{State, close_if}
use Rattle.render_core.specs.Step.{Reply, with_history, edit_reply}
use Rattle.render_core.specs.Board.{of_edit}
use Rattle.render_core.specs.Parts.{MachineOf, in_state, jobs_after, HasOneOpen, AreShown}
use Rattle.render_core.proofs.JobLists.{one_open-close}
use Rattle.render_core.proofs.Renders.{shown-close}

-- a reason to change nothing isn't that an edit was made
abbrev pub IsReason : EditReply → Type 0
IsReason (answer.Ok len) = ⊥
IsReason (answer.Refused why) = Unit {0}
IsReason answer.NothingToUndo = Unit {0}
IsReason answer.NothingToRedo = Unit {0}

abbrev pub HasReason : Result History EditReply → Type 0
HasReason (Ok next) = Unit {0}
HasReason (Err why) = IsReason why

reason-line : (h : History) (made : Result (List Cell) EditRefusal) → HasReason (with_line h made)
reason-line h (Ok line) = tt
reason-line h (Err why) = tt

pub reason-edit : {F : Type 0} (lib : Library F) (edit : Edit) (h : History) → HasReason (edit_outcome lib edit h)
reason-edit lib edit h = reason-line h (apply lib edit h.line)

reason-back : (h : History) (past : List (List Cell)) → HasReason (back_to h past)
reason-back h [] = tt
reason-back h (line ∷ past) = tt

pub reason-undo : (h : History) → HasReason (undo_outcome h)
reason-undo h = reason-back h h.past

reason-forward : (h : History) (future : List (List Cell)) → HasReason (forward_to h future)
reason-forward h [] = tt
reason-forward h (line ∷ future) = tt

pub reason-redo : (h : History) → HasReason (redo_outcome h)
reason-redo h = reason-forward h h.future

jobs-reason : (told why : EditReply) (line : List Cell) (at : ℕ) (jobs : List Job) → IsReason why → told ≡ why → jobs_after told line at jobs ≡ jobs
jobs-reason told (answer.Ok len) line at jobs r e = absurd r
jobs-reason told (answer.Refused why) line at jobs r e = ap (λ (t : EditReply). jobs_after t line at jobs) e
jobs-reason told answer.NothingToUndo line at jobs r e = ap (λ (t : EditReply). jobs_after t line at jobs) e
jobs-reason told answer.NothingToRedo line at jobs r e = ap (λ (t : EditReply). jobs_after t line at jobs) e

by_outcome : {F : Type 0} (s : State) (at : ℕ) (o : Result History EditReply) (next : History) (jobs : List Job) (told : EditReply) → HasReason o → Makes o s.history next told → jobs ≡ jobs_after told next.line at s.jobs → (record s { history = next; jobs = jobs } ≡ with_history at o s) × (◌≡◌ {A = Reply F} (of_edit told) (edit_reply o))
by_outcome {F} s at (Ok n) next jobs told r made closed = (
  ap (λ (js : List Job). record s { history = next; jobs = js }) (closed ∙ ap (λ (t : EditReply). jobs_after t next.line at s.jobs) made.1)
      ∙ ap (λ (h : History). record s { history = h; jobs = map (close_if (λ recipe. not (is_among recipe (recipes h.line))) at) s.jobs }) made.0,
  ap (λ (t : EditReply). of_edit {F = F} t) made.1,
)
by_outcome {F} s at (Err why) next jobs told r made closed = (
  ap (λ (js : List Job). record s { history = next; jobs = js }) (closed ∙ jobs-reason told why next.line at s.jobs r made.1)
      ∙ ap (λ (h : History). record s { history = h }) made.0,
  ap (λ (t : EditReply). of_edit {F = F} t) made.1,
)

abbrev ChangesTo : {M F : Type 0} → (State → Result History EditReply) → ℕ → (new now : MachineOf M) → Reply F → Type 0
ChangesTo outcome at new now told = (new ≡ in_state (with_history at (outcome now.state) now.state) now) × (told ≡ edit_reply (outcome now.state))

pub changes : {M F : Type 0} (m now : MachineOf M) (outcome : State → Result History EditReply) (at : ℕ) (next : History) (jobs : List Job) (told : EditReply) → m ≡ now → HasReason (outcome m.state) → Makes (outcome m.state) m.state.history next told → jobs ≡ jobs_after told next.line at m.state.jobs → ChangesTo outcome at (in_state (record m.state { history = next; jobs = jobs }) m) now (of_edit {F = F} told)
changes {M} {F} m now outcome at next jobs told v r made closed =
    let base = by_outcome {F = F} m.state at (outcome m.state) next jobs told r made closed in
    subst (λ (x : MachineOf M). ChangesTo outcome at (in_state (record m.state { history = next; jobs = jobs }) m) x (of_edit {F = F} told)) v
    (ap (λ (s : State). in_state s m) base.0, base.1)

-- what the machine keeps
pub one_open-after : (told : EditReply) (line : List Cell) (at : ℕ) (jobs : List Job) → HasOneOpen jobs → HasOneOpen (jobs_after told line at jobs)
one_open-after (answer.Ok len) line at jobs h = one_open-close (λ recipe. not (is_among recipe (recipes line))) at jobs h
one_open-after (answer.Refused why) line at jobs h = h
one_open-after answer.NothingToUndo line at jobs h = h
one_open-after answer.NothingToRedo line at jobs h = h

pub shown-after : {F : Type 0} (lib : Library F) (told : EditReply) (line : List Cell) (at : ℕ) (jobs : List Job) → AreShown lib jobs → AreShown lib (jobs_after told line at jobs)
shown-after lib (answer.Ok len) line at jobs h = shown-close lib (λ recipe. not (is_among recipe (recipes line))) at jobs h
shown-after lib (answer.Refused why) line at jobs h = h
shown-after lib answer.NothingToUndo line at jobs h = h
shown-after lib answer.NothingToRedo line at jobs h = h

pub sound-made : (P : History → Type 0) (o : Result History EditReply) (h next : History) (told : EditReply) → Makes o h next told → P h → ((n : History) → o ≡ Ok n → P n) → P next
sound-made P (Ok n) h next told made p keeps = subst P (sym made.0) (keeps n refl)
sound-made P (Err why) h next told made p keeps = subst P (sym made.0) p

sound-back : {F : Type 0} (lib : Library F) (h n : History) (past : List (List Cell)) → IsSoundHistory lib h → AreSoundLines lib past → back_to h past ≡ Ok n → IsSoundHistory lib n
sound-back lib h n [] s lines e = absurd cc
sound-back lib h n (line ∷ past) s lines e =
    let is : record { past = past; line = line; future = h.line ∷ h.future } ≡ n = cc in
    subst (IsSoundHistory lib) is (record { past = lines.1; line = lines.0; future = (s.line, s.future) })

pub sound-undo : {F : Type 0} (lib : Library F) (h n : History) → IsSoundHistory lib h → undo_outcome h ≡ Ok n → IsSoundHistory lib n
sound-undo lib h n s e = sound-back lib h n h.past s s.past e

sound-forward : {F : Type 0} (lib : Library F) (h n : History) (future : List (List Cell)) → IsSoundHistory lib h → AreSoundLines lib future → forward_to h future ≡ Ok n → IsSoundHistory lib n
sound-forward lib h n [] s lines e = absurd cc
sound-forward lib h n (line ∷ future) s lines e =
    let is : record { past = h.line ∷ h.past; line = line; future = future } ≡ n = cc in
    subst (IsSoundHistory lib) is (record { past = (s.line, s.past); line = lines.0; future = lines.1 })

pub sound-redo : {F : Type 0} (lib : Library F) (h n : History) → IsSoundHistory lib h → redo_outcome h ≡ Ok n → IsSoundHistory lib n
sound-redo lib h n s e = sound-forward lib h n h.future s s.future e
