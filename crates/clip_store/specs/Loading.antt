-- What a load does to the clips of a shelf.
use Rattle.std.specs.Prelude.{◌≡◌, ℕ, ◌+◌, ◌*◌, ◌≤◌, ◌<◌, Bool, IsTrue, List, [], ◌∷◌, ◌++◌, length, All, bytes_eq, Result, Ok, Err}
use Rattle.std.specs.List.{list_any}
use Rattle.tl_limits.specs.Limits.{max_total_bytes}
use Rattle.clip_store.specs.declared.fault.LoadFault.{LoadFault}
use Rattle.clip_store.specs.declared.fault.LoadFault.TheVariants as faults
use Rattle.clip_store.specs.Clip.{ClipOf, FileOf, IsClip, IsClipOf, IsFaulty}

-- whether a clip has this name
abbrev pub has_name : List ClipOf → List ℕ → Bool
has_name clips name = list_any (λ clip. bytes_eq clip.name name) clips

-- the bytes of all files together
abbrev pub total : List ClipOf → ℕ
total [] = 0
total (clip ∷ clips) = length clip.bytes + total clips

-- No clip has the file's name, and the files together aren't too long with it.
pub record HasRoom (clips : List ClipOf) (file : FileOf) : Type 0 where
  pub name : ¬ IsTrue (has_name clips file.name)
  pub bytes : total clips + length file.bytes ≤ max_total_bytes

-- Why a file isn't loaded: the first reason in this order.
abbrev pub Refuses : List ClipOf → FileOf → LoadFault → Type 0
Refuses clips file faults.SameName = IsTrue (has_name clips file.name)
Refuses clips file faults.Total = (¬ IsTrue (has_name clips file.name)) × (max_total_bytes < total clips + length file.bytes)
Refuses clips file (faults.Clip fault) = HasRoom clips file × IsFaulty file.bytes (faults.Clip fault)
Refuses clips file (faults.Record fault) = HasRoom clips file × IsFaulty file.bytes (faults.Record fault)
Refuses clips file faults.Slices = HasRoom clips file × IsFaulty file.bytes faults.Slices
Refuses clips file faults.NoMemory = Unit {0}

-- The clips gained the file's clip, and its number is that of the clips before.
pub record Gains (clips : List ClipOf) (file : FileOf) (number : ℕ) (after : List ClipOf) : Type 0 where
  pub room : HasRoom clips file
  pub last : number ≡ length clips
  pub clip : ClipOf
  pub read : IsClipOf file clip
  pub put : after ≡ clips ++ clip ∷ []

-- What a load answers, and the clips after it: after a refusal they are as before.
abbrev pub Loads : List ClipOf → FileOf → Result ℕ LoadFault → List ClipOf → Type 0
Loads clips file (Ok number) after = Gains clips file number after
Loads clips file (Err fault) after = Refuses clips file fault × (after ≡ clips)

-- A clip was put behind the others, and its number is that of the clips before.
abbrev pub Puts : List ClipOf → ClipOf → Result ℕ LoadFault → List ClipOf → Type 0
Puts clips clip (Ok number) after = (number ≡ length clips) × (after ≡ clips ++ clip ∷ [])
Puts clips clip (Err faults.NoMemory) after = after ≡ clips
Puts clips clip (Err faults.SameName) after = ⊥
Puts clips clip (Err faults.Total) after = ⊥
Puts clips clip (Err (faults.Clip fault)) after = ⊥
Puts clips clip (Err (faults.Record fault)) after = ⊥
Puts clips clip (Err faults.Slices) after = ⊥

-- What is true of the clips of a shelf.
pub record AreClips (clips : List ClipOf) : Type 0 where
  pub each : All IsClip clips
  pub bytes : total clips ≤ max_total_bytes
  pub few : 2 * length clips ≤ total clips
