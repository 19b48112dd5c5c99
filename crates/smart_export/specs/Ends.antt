-- What an export has written when it ends, and why it ends so.
use Rattle.std.specs.Prelude.{◌≡◌, ℕ, Bool, IsTrue, List, [], ◌∷◌, ◌++◌, length, Err}
use Rattle.tl_ports.specs.Outside.{Rose}
use Rattle.tl_model.specs.Media.{Library}
use Rattle.tl_model.specs.Cells.{Cell, recipes}
use Rattle.tl_model.specs.declared.recipe.Recipe.{Recipe}
use Rattle.tl_model.specs.declared.fault.Ending.{Ending}
use Rattle.tl_model.specs.declared.fault.Ending.TheVariants as ending
use Rattle.mkv_write.specs.Writing.{Writing, nothing_yet, file_of, IsPrefix}
use Rattle.smart_export.specs.Rendered.{AreRendered, IsTooLong}

-- Frames that go on a file: their recipes over a library, and the file as it was before them.
pub record Frames (F : Type 0) : Type 0 where
  pub library : Library F
  pub recipes : List Recipe
  pub file : Writing

-- All frames of a timeline, and a file that has none yet.
abbrev pub all_frames : {F : Type 0} → Library F → List Cell → (rate : ℕ) → Frames F
all_frames lib line rate = record {
  library = lib;
  recipes = recipes line;
  file = nothing_yet lib.record_bytes lib.width lib.height rate;
}

-- The file with these packets after those that it had.
abbrev pub with_packets : Writing → List (List ℕ) → Writing
with_packets file packets = record file { packets = file.packets ++ packets }

-- The front of the frames has these packets, and the rest wasn't reached. What the begun file holds, where it is told, is a prefix of the
-- whole file over these packets.
pub record IsCut {F : Type 0} (tells : Bool) (held : List ℕ) (frames : Frames F) : Type 0 where
  pub front : List Recipe
  pub rest : List Recipe
  pub packets : List (List ℕ)
  pub parts : frames.recipes ≡ front ++ rest
  pub rendered : AreRendered frames.library front packets
  pub prefix : IsTrue tells → IsPrefix held (file_of (with_packets frames.file packets))

-- The first of these recipes is such a one.
abbrev pub BeginsWith : (Recipe → Type 0) → List Recipe → Type 0
BeginsWith Is [] = ⊥
BeginsWith Is (recipe ∷ rest) = Is recipe

-- The file is cut before the frame at a place, which is how many packets stand before it, and that frame's recipe is such a one.
abbrev pub IsCutAt : {F : Type 0} → (tells : Bool) (held : List ℕ) → Frames F → (at : ℕ) → (Recipe → Type 0) → Type 0
IsCutAt tells held frames at Is = (cut : IsCut tells held frames)
    × (at ≡ length (with_packets frames.file cut.packets).packets) × BeginsWith Is cut.rest

-- Why not all frames were written, and what was.
abbrev pub Stops : {F : Type 0} → (tells : Bool) (held : List ℕ) → Frames F → Ending → Type 0
Stops tells held frames (ending.Done count) = ⊥
Stops tells held frames (ending.ClipFault at fault) = IsCutAt tells held frames at (λ recipe. frames.library.render recipe ≡ Err fault)
Stops tells held frames (ending.SliceTooLong at) = IsCutAt tells held frames at (IsTooLong frames.library)
Stops tells held frames ending.Sink = IsCut tells held frames
Stops tells held frames ending.NoMemory = IsCut tells held frames

-- There is one packet for each frame, and what the begun file holds, where it is told, is the whole file over them.
pub record IsWritten {F : Type 0} (tells : Bool) (held : List ℕ) (frames : Frames F) : Type 0 where
  pub packets : List (List ℕ)
  pub rendered : AreRendered frames.library frames.recipes packets
  pub whole : IsTrue tells → held ≡ file_of (with_packets frames.file packets)

-- `Done` tells how many frames there are, and the whole file was written. Any other ending stops before, or while the end of the file
-- was put.
abbrev pub Ends : {F : Type 0} → (tells : Bool) (held : List ℕ) → Frames F → Ending → Type 0
Ends tells held frames (ending.Done count) = (count ≡ length frames.recipes) × IsWritten tells held frames
Ends tells held frames (ending.ClipFault at fault) = Stops tells held frames (ending.ClipFault at fault)
Ends tells held frames (ending.SliceTooLong at) = Stops tells held frames (ending.SliceTooLong at)
Ends tells held frames ending.Sink = Stops tells held frames ending.Sink
Ends tells held frames ending.NoMemory = Stops tells held frames ending.NoMemory

-- `Sink` comes only where the vault's count rose in that call, and every other ending leaves the count as it was.
abbrev pub EndingHasCause : (before now : ℕ) → Ending → Type 0
EndingHasCause before now (ending.Done count) = now ≡ before
EndingHasCause before now (ending.ClipFault at fault) = now ≡ before
EndingHasCause before now (ending.SliceTooLong at) = now ≡ before
EndingHasCause before now ending.Sink = Rose before now
EndingHasCause before now ending.NoMemory = now ≡ before

-- The whole file was written, or memory ran out.
abbrev pub IsDoneOrNoMemory : Ending → Type 0
IsDoneOrNoMemory (ending.Done count) = Unit {0}
IsDoneOrNoMemory (ending.ClipFault at fault) = ⊥
IsDoneOrNoMemory (ending.SliceTooLong at) = ⊥
IsDoneOrNoMemory ending.Sink = ⊥
IsDoneOrNoMemory ending.NoMemory = Unit {0}
