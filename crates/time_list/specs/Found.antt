-- What is wrong with sides that are to be shown.
use Rattle.std.specs.Prelude.{◌≡◌, List}
use Rattle.std.specs.List.{list_any}
use Rattle.tl_model.specs.Media.{Library}
use Rattle.tl_model.specs.declared.recipe.Side.{Side}
use Rattle.time_list.specs.Apply.{names_no_clip, differs, is_late}
use Rattle.time_list.specs.declared.replace.Found.{Found}

pub record IsFound {F : Type 0} (lib : Library F) (sides : List Side) (found : Found) : Type 0 where
  pub no_clip : found.no_clip ≡ list_any (names_no_clip lib) sides
  pub differs : found.differs ≡ list_any (differs lib) sides
  pub late : found.late ≡ list_any (is_late lib) sides
