-- What one line says.
use Rattle.std.specs.Prelude.{ℕ, List}
use Rattle.edl_text.specs.declared.row.Edit.{Edit}
use Rattle.edl_text.specs.declared.row.Row.{Row}
use Rattle.edl_text.specs.declared.row.Row.TheVariants as rows

-- A line that has no fault: it is passed over, or has the title, or the name of the clip that an event comes from or goes to, or is
-- an event without video, or one with video.
pub data Said : Type 0 where
  Passed : Said
  Title : List ℕ → Said
  From : List ℕ → Said
  To : List ℕ → Said
  Other : (number : ℕ) → Said
  Video : (number : ℕ) (reel : List ℕ) (edit : Edit) → Said

-- the same without where it lies in memory
abbrev pub said : Row → Said
said rows.Passed = Passed
said (rows.Title text) = Title text.now
said (rows.From text) = From text.now
said (rows.To text) = To text.now
said (rows.Other number) = Other number
said (rows.Video shown) = Video shown.number shown.reel.now shown.edit
