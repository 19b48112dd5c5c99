-- A history of edits: the present line, the lines before it with the latest first, and those that were undone with the next to redo first.
use Rattle.std.specs.Prelude.{◌≡◌, List, [], ◌∷◌, length, Result, Ok, Err}
use Rattle.tl_model.specs.Media.{Library}
use Rattle.tl_model.specs.declared.edit.Edit.{Edit}
use Rattle.tl_model.specs.declared.edit.EditRefusal.{EditRefusal}
use Rattle.tl_model.specs.declared.edit.EditReply.{EditReply}
use Rattle.tl_model.specs.declared.edit.EditReply.TheVariants as answer
use Rattle.tl_model.specs.Cells.{Cell}
use Rattle.time_list.specs.Apply.{apply}
use Rattle.tl_model.specs.Sound.{IsSound}

pub record History : Type 0 where
  pub past : List (List Cell)
  pub line : List Cell
  pub future : List (List Cell)

abbrev pub blank : History
blank = record { past = []; line = []; future = [] }

-- A call gives the next history, or the reason for which all stays. An accepted edit puts the line on the past and clears the future.
abbrev pub with_line : History → Result (List Cell) EditRefusal → Result History EditReply
with_line h (Ok line) = Ok (record { past = h.line ∷ h.past; line = line; future = [] })
with_line h (Err why) = Err (answer.Refused why)

abbrev pub edit_outcome : {F : Type 0} → Library F → Edit → History → Result History EditReply
edit_outcome lib edit h = with_line h (apply lib edit h.line)

-- The latest line of the past comes back.
abbrev pub back_to : History → List (List Cell) → Result History EditReply
back_to h [] = Err answer.NothingToUndo
back_to h (line ∷ past) = Ok (record { past = past; line = line; future = h.line ∷ h.future })

abbrev pub undo_outcome : History → Result History EditReply
undo_outcome h = back_to h h.past

-- The next line of the future comes again.
abbrev pub forward_to : History → List (List Cell) → Result History EditReply
forward_to h [] = Err answer.NothingToRedo
forward_to h (line ∷ future) = Ok (record { past = h.line ∷ h.past; line = line; future = future })

abbrev pub redo_outcome : History → Result History EditReply
redo_outcome h = forward_to h h.future

-- A call makes its outcome.
abbrev pub Makes : Result History EditReply → (old new : History) → EditReply → Type 0
Makes (Ok next) old new told = (new ≡ next) × (told ≡ answer.Ok (length next.line))
Makes (Err why) old new told = (new ≡ old) × (told ≡ why)

-- Or it wants memory and changes nothing.
abbrev pub Gives : {E : Type 0} → Result History EditReply → (old new : History) → Result EditReply E → Type 0
Gives outcome old new (Ok told) = Makes outcome old new told
Gives outcome old new (Err error) = new ≡ old

abbrev pub AreSoundLines : {F : Type 0} → Library F → List (List Cell) → Type 0
AreSoundLines lib [] = Unit {0}
AreSoundLines lib (line ∷ lines) = IsSound lib line × AreSoundLines lib lines

-- Every line of the history is sound.
pub record IsSoundHistory {F : Type 0} (lib : Library F) (h : History) : Type 0 where
  pub past : AreSoundLines lib h.past
  pub line : IsSound lib h.line
  pub future : AreSoundLines lib h.future
