-- What a reader has taken of the blocks so far, and what its calls answer.
use Rattle.std.specs.Prelude.{◌≡◌, ℕ, ◌+◌, nat_lt, nat_le, List, [], ◌∷◌, ◌++◌, length, Option, Some, None, Result, Ok, Err, if◌then◌else◌}
use Rattle.std.specs.List.{AllByRecursion}
use Rattle.ebml_core.specs.Reading.{◌>>=◌}
use Rattle.mkv_elements.specs.declared.TheConstants.{EBML}
use Rattle.mkv_elements.specs.declared.table.TheConstants.{FILE}
use Rattle.mkv_read.specs.declared.clip.Place.{Place}
use Rattle.mkv_read.specs.declared.clip.ClipIndex.{ClipIndex}
use Rattle.mkv_read.specs.declared.fault.Which.TheVariants as limits
use Rattle.mkv_read.specs.declared.track.Track.{Track}
use Rattle.mkv_read.specs.declared.fault.ClipFault.{ClipFault}
use Rattle.mkv_read.specs.declared.fault.ClipFault.TheVariants as faults
use Rattle.mkv_read.specs.declared.block.Block.{Block}
use Rattle.mkv_read.specs.declared.block.Blocks.{Blocks}
use Rattle.mkv_read.specs.Plain.{LiesBefore}
use Rattle.mkv_read.specs.Elements.{elements}
use Rattle.mkv_read.specs.Faults.{fault_in}
use Rattle.mkv_read.specs.Blocks.{blocks_in, block_fault}
use Rattle.mkv_read.specs.Tracks.{track_of}
use Rattle.mkv_read.specs.Clip.{segment_of, file_of, begins_with, is_matroska, require}
use Rattle.mkv_read.specs.Limits.{depth, max_frames}

-- A call fails so where reading does, and where memory runs out.
abbrev pub Fails : {Y : Type 0} → ClipFault → Result Y ClipFault → Type 0
Fails faults.NoMemory read = Unit {0}
Fails fault read = read ≡ Err fault

-- What a call answered, seen by view, is what reading gives, unless memory ran out.
abbrev pub Gives : {X Y : Type 0} → (X → Y) → Result X ClipFault → Result Y ClipFault → Type 0
Gives view (Ok x) read = read ≡ Ok (view x)
Gives view (Err fault) read = Fails fault read

pub record Taken : Type 0 where
  pub count : ℕ
  pub packets : List Place
  pub last : ℕ
  pub fault : Option ClipFault

abbrev pub taken_of : Blocks → Taken
taken_of blocks = record { count = blocks.count; packets = blocks.packets.items; last = blocks.last; fault = blocks.fault }

abbrev pub nothing_taken : Taken
nothing_taken = record { count = 0; packets = []; last = 0; fault = None }

-- one more, up to one more than a clip may have
abbrev pub counted : ℕ → ℕ
counted count = if nat_le count max_frames then count + 1 else count

-- one more packet, up to as many as a clip may have
abbrev pub kept : List Place → Place → List Place
kept packets packet = if nat_lt (length packets) max_frames then packets ++ packet ∷ [] else packets

abbrev pub taken_after : Block → Taken → Option ClipFault → Option ClipFault → Taken
taken_after block t (Some fault) now = record t { count = counted t.count }
taken_after block t None (Some fault) = record t { count = counted t.count; fault = Some fault }
taken_after block t None None = record { count = counted t.count; packets = kept t.packets block.packet; last = block.time; fault = None }

unfoldable pub take : Block → Taken → Taken
take block t = taken_after block t t.fault (block_fault t.last block)

unfoldable pub take_all : List Block → Taken → Taken
take_all [] t = t
take_all (block ∷ blocks) t = take_all blocks (take block t)

-- what is taken of elements with these blocks, whose first faulty element is at this place
abbrev pub outcome : Option ℕ → List Block → Taken → Result Taken ClipFault
outcome (Some at) blocks t = Err (faults.Ebml at)
outcome None blocks t = Ok (take_all blocks t)

-- that these places lie before an end
abbrev pub Lie : ℕ → List Place → Type 0
Lie end places = AllByRecursion (LiesBefore end) places

abbrev pub finished_as : Track → Taken → Option ClipFault → List Place → Result ClipIndex ClipFault
finished_as track t (Some fault) packets = Err fault
finished_as track t None [] = Err faults.NoFrames
finished_as track t None (packet ∷ packets) =
    Ok (record { width = track.width; height = track.height; private = track.private; packets = packet ∷ packets })

-- the clip of a track of which this was taken
abbrev pub finished : Track → Taken → Result ClipIndex ClipFault
finished track t =
    if nat_lt max_frames t.count then Err (faults.Limit limits.Frames) else finished_as track t t.fault t.packets

abbrev pub number_in : Result Track ClipFault → Option ℕ
number_in (Ok track) = Some track.number
number_in (Err fault) = None

-- what reading a file once over gives
unfoldable pub read : List ℕ → Result ClipIndex ClipFault
read bytes =
    if begins_with EBML (elements bytes 0 (length bytes)) then (do
      taken ← outcome (fault_in depth bytes FILE (file_of bytes))
          (blocks_in depth bytes (number_in (track_of bytes (segment_of bytes))) FILE 0 (file_of bytes)) nothing_taken
      matroska ← require (is_matroska bytes) faults.DocType
      track ← track_of bytes (segment_of bytes)
      finished track taken) else Err (faults.Ebml 0)
