use Rattle.std.proofs.Common.{◌≡◌, List, [], ◌∷◌, Result, Ok, Err, refl, subst}
use Rattle.tl_model.specs.Cells.{Cell}
use Rattle.tl_model.specs.Media.{Library}
use Rattle.tl_model.specs.Sound.{IsSound}
use Rattle.tl_model.specs.declared.edit.EditRefusal.{EditRefusal}
use Rattle.time_list.specs.Apply.{apply}
use Rattle.edit_undo.specs.History.{History, with_line, IsSoundHistory}
use Rattle.edit_undo.proofs.editor.keeps_sound_history.Goals as goal

with_line-sound : {F : Type 0} (lib : Library F) (h next : History) (made : Result (List Cell) EditRefusal) → IsSoundHistory lib h → ((line : List Cell) → made ≡ Ok line → IsSound lib line) → with_line h made ≡ Ok next → IsSoundHistory lib next
with_line-sound lib h next (Err why) s sound e = absurd cc
with_line-sound lib h next (Ok line) s sound e =
    let next_is : record { past = h.line ∷ h.past; line = line; future = [] } ≡ next = cc in
    let kept : IsSoundHistory lib (record { past = h.line ∷ h.past; line = line; future = [] }) = record { past = (s.line, s.past); line = sound line refl; future = tt } in
    subst (IsSoundHistory lib) next_is kept

pub returns-clause-edit : goal.returns-clause-edit
returns-clause-edit g c = λ h next s e.
    with_line-sound (g.M.Media.library c.args.media.now) h next (apply (g.M.Media.library c.args.media.now) c.args.edit.now h.line) s (λ line made. c.keeps_sound.ensures h.line line s.line made) e
