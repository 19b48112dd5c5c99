-- What giving frames to a writer does.
use Rattle.std.specs.Prelude.{◌≡◌, ℕ, Bool, IsTrue, List, [], ◌∷◌, Result, Ok, Err}
use Rattle.tl_model.specs.Media.{Library}
use Rattle.tl_model.specs.declared.recipe.Recipe.{Recipe}
use Rattle.tl_model.specs.declared.fault.Ending.{Ending}
use Rattle.mkv_write.specs.Writing.{Writing, put_of}
use Rattle.smart_export.specs.Rendered.{AreRendered}
use Rattle.smart_export.specs.Ends.{Frames, with_packets, Stops, EndingHasCause}

-- Frames of these recipes, that go on a file.
abbrev pub frames_on : {F : Type 0} → Library F → List Recipe → Writing → Frames F
frames_on lib recipes file = record { library = lib; recipes = recipes; file = file }

-- One frame.
abbrev pub one_frame : {F : Type 0} → Library F → Recipe → Writing → Frames F
one_frame lib recipe file = frames_on lib (recipe ∷ []) file

-- At `Ok` the writer was given the packet of each frame, and what the begun file holds, where it is told, is what it has put.
abbrev pub PutsFrames : {F : Type 0} → (tells : Bool) (held : List ℕ) → Frames F → (after : Writing) → Result Unit Ending → Type 0
PutsFrames tells held frames after (Ok done) = (packets : List (List ℕ)) × AreRendered frames.library frames.recipes packets
    × (after ≡ with_packets frames.file packets) × (IsTrue tells → held ≡ put_of after)
PutsFrames tells held frames after (Err why) = Stops tells held frames why

-- An ending has its cause, and `Ok` leaves the count as it was.
abbrev pub PutsHasCause : (before now : ℕ) → Result Unit Ending → Type 0
PutsHasCause before now (Ok done) = now ≡ before
PutsHasCause before now (Err why) = EndingHasCause before now why
