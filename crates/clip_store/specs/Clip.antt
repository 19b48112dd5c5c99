-- What a file gives: its clip, or the first fault of the clip, of its record, and of its slices.
use Rattle.std.specs.Prelude.{◌≡◌, ℕ, List, take, drop, length, Result, Ok, Err}
use Rattle.std.specs.List.{AllByRecursion}
use Rattle.pic_planes.specs.Shape.{Layout, layout}
use Rattle.mkv_read.specs.declared.clip.Place.{Place}
use Rattle.mkv_read.specs.declared.clip.ClipIndex.{ClipIndex}
use Rattle.mkv_read.specs.Plain.{LiesBefore}
use Rattle.mkv_read.specs.Clip.{clip_of, IsWithinLimits}
use Rattle.ffv1_record.specs.declared.fault.RecordFault.{RecordFault}
use Rattle.ffv1_record.specs.Parameters.{Parameters}
use Rattle.ffv1_record.specs.Reading.{parameters}
use Rattle.ffv1_record.specs.Suits.{Suits}
use Rattle.clip_store.specs.declared.fault.LoadFault.{LoadFault}
use Rattle.clip_store.specs.declared.fault.LoadFault.TheVariants as faults

-- a file, and the name and the start under which it is to be loaded
pub record FileOf : Type 0 where
  pub name : List ℕ
  pub start : ℕ
  pub bytes : List ℕ

abbrev pub file_of : List ℕ → ℕ → List ℕ → FileOf
file_of name start bytes = record { name = name; start = start; bytes = bytes }

-- A clip: its name, its start, its file's bytes, where the record and the packets lie in them, the record, and the shape of its
-- pictures.
pub record ClipOf : Type 0 where
  pub name : List ℕ
  pub start : ℕ
  pub bytes : List ℕ
  pub index : ClipIndex
  pub parameters : Parameters
  pub shape : Layout

-- the bytes of a place
abbrev pub piece : List ℕ → Place → List ℕ
piece bytes place = take place.len (drop place.from bytes)

-- what the record of a clip's file says
abbrev pub record_in : List ℕ → ClipIndex → Result Parameters RecordFault
record_in bytes index = parameters (piece bytes index.private)

-- the shape of a clip's pictures: the size is the track's, and the chroma is the record's
abbrev pub shape_of : ClipIndex → Parameters → Layout
shape_of index p = layout index.width index.height p.chroma

-- The places lie in the file, and the numbers are within the limits.
pub record IsIndex (bytes : List ℕ) (index : ClipIndex) : Type 0 where
  pub read : clip_of bytes ≡ Ok index
  pub limits : IsWithinLimits index
  pub private : LiesBefore (length bytes) index.private
  pub packets : AllByRecursion (LiesBefore (length bytes)) index.packets

-- The clip is what its bytes give, and its record suits its pictures.
pub record IsClip (clip : ClipOf) : Type 0 where
  pub index : IsIndex clip.bytes clip.index
  pub read : record_in clip.bytes clip.index ≡ Ok clip.parameters
  pub shape : clip.shape ≡ shape_of clip.index clip.parameters
  pub suits : Suits clip.parameters clip.shape

-- The clip of a file, under the file's name and start.
pub record IsClipOf (file : FileOf) (clip : ClipOf) : Type 0 where
  pub name : clip.name ≡ file.name
  pub start : clip.start ≡ file.start
  pub bytes : clip.bytes ≡ file.bytes
  pub sound : IsClip clip

-- The file has a clip, whose record has this fault.
pub record HasRecordFault (bytes : List ℕ) (fault : RecordFault) : Type 0 where
  pub index : ClipIndex
  pub indexed : clip_of bytes ≡ Ok index
  pub faulty : record_in bytes index ≡ Err fault

-- The file has a clip with a record, which doesn't suit the clip's pictures.
pub record IsUnsuited (bytes : List ℕ) : Type 0 where
  pub index : ClipIndex
  pub indexed : clip_of bytes ≡ Ok index
  pub parameters : Parameters
  pub read : record_in bytes index ≡ Ok parameters
  pub slices : ¬ Suits parameters (shape_of index parameters)

-- Why a file gives no clip.
abbrev pub IsFaulty : List ℕ → LoadFault → Type 0
IsFaulty bytes faults.SameName = ⊥
IsFaulty bytes faults.Total = ⊥
IsFaulty bytes (faults.Clip fault) = clip_of bytes ≡ Err fault
IsFaulty bytes (faults.Record fault) = HasRecordFault bytes fault
IsFaulty bytes faults.Slices = IsUnsuited bytes
IsFaulty bytes faults.NoMemory = Unit {0}

-- What reading a file answers.
abbrev pub Reads : FileOf → Result ClipOf LoadFault → Type 0
Reads file (Ok clip) = IsClipOf file clip
Reads file (Err fault) = IsFaulty file.bytes fault

-- ---- its steps
-- where the record and the packets lie
abbrev pub ReadsIndex : List ℕ → Result ClipIndex LoadFault → Type 0
ReadsIndex bytes (Ok index) = IsIndex bytes index
ReadsIndex bytes (Err faults.SameName) = ⊥
ReadsIndex bytes (Err faults.Total) = ⊥
ReadsIndex bytes (Err (faults.Clip fault)) = clip_of bytes ≡ Err fault
ReadsIndex bytes (Err (faults.Record fault)) = ⊥
ReadsIndex bytes (Err faults.Slices) = ⊥
ReadsIndex bytes (Err faults.NoMemory) = Unit {0}

-- the record, from its own bytes
abbrev pub ReadsRecord : List ℕ → Result Parameters LoadFault → Type 0
ReadsRecord bytes (Ok p) = parameters bytes ≡ Ok p
ReadsRecord bytes (Err faults.SameName) = ⊥
ReadsRecord bytes (Err faults.Total) = ⊥
ReadsRecord bytes (Err (faults.Clip fault)) = ⊥
ReadsRecord bytes (Err (faults.Record fault)) = parameters bytes ≡ Err fault
ReadsRecord bytes (Err faults.Slices) = ⊥
ReadsRecord bytes (Err faults.NoMemory) = Unit {0}
