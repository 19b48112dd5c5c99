-- The lines that a stack of patches leads back to. The top of a stack stands first here.
use Rattle.std.specs.Prelude.{◌≡◌, List, [], ◌∷◌, reverse}
use Rattle.tl_model.specs.Cells.{Cell}
use Rattle.time_list.specs.Patch.{PatchOf, patched, IsPatchOf}
use Rattle.edit_undo.specs.History.{History}

abbrev pub lines_back : List PatchOf → List Cell → List (List Cell)
lines_back [] line = []
lines_back (patch ∷ patches) line = patched patch line ∷ lines_back patches (patched patch line)

-- Each patch fits the line that those before it lead to.
abbrev pub LeadBack : List PatchOf → List Cell → Type 0
LeadBack [] line = Unit {0}
LeadBack (patch ∷ patches) line = IsPatchOf patch line × LeadBack patches (patched patch line)

-- A line and two stacks of patches as the code has them, the top last.
pub record Stacks : Type 0 where
  pub line : List Cell
  pub undos : List PatchOf
  pub redos : List PatchOf

abbrev pub history_of : Stacks → History
history_of s = record { past = lines_back (reverse s.undos) s.line; line = s.line; future = lines_back (reverse s.redos) s.line }

pub record AreStacks (s : Stacks) : Type 0 where
  pub undos : LeadBack (reverse s.undos) s.line
  pub redos : LeadBack (reverse s.redos) s.line

-- The line before is the first that one stack led to, and comes on top of the other.
pub record Moves (old new : Stacks) : Type 0 where
  pub stacks : AreStacks new
  pub undos : lines_back (reverse old.undos) old.line ≡ new.line ∷ lines_back (reverse new.undos) new.line
  pub redos : lines_back (reverse new.redos) new.line ≡ old.line ∷ lines_back (reverse old.redos) old.line

pub record IsSame (old new : Stacks) : Type 0 where
  pub line : new.line ≡ old.line
  pub undos : new.undos ≡ old.undos
  pub redos : new.redos ≡ old.redos
