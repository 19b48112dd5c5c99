-- What a session is begun with: its format and its clips' names by the script, and the line of what stops it before its start.
use Rattle.std.specs.Prelude.{ℕ, List, map, codes, Option, Some, None}
use Rattle.pic_planes.specs.Shape.{layout}
use Rattle.mkv_read.specs.declared.fault.ClipFault.{ClipFault}
use Rattle.mkv_read.specs.declared.fault.ClipFault.TheVariants as clips
use Rattle.ffv1_record.specs.declared.fault.RecordFault.{RecordFault}
use Rattle.ffv1_record.specs.declared.fault.RecordFault.TheVariants as records
use Rattle.ffv1_record.specs.declared.record.Coder.{Coder}
use Rattle.ffv1_record.specs.declared.record.Coder.TheVariants as coder
use Rattle.clip_store.specs.declared.fault.LoadFault.{LoadFault}
use Rattle.clip_store.specs.declared.fault.LoadFault.TheVariants as load
use Rattle.clip_store.specs.declared.format.Format.{Format}
use Rattle.clip_store.specs.declared.format.Format.TheVariants as format
use Rattle.script_lang.specs.declared.out_line.OutLine.{OutLine}
use Rattle.script_lang.specs.declared.out_line.OutLine.TheVariants as out
use Rattle.script_lang.specs.declared.script.CoderWord.{CoderWord}
use Rattle.script_lang.specs.declared.script.CoderWord.TheVariants as word
use Rattle.script_lang.specs.declared.script.FormatLine.{FormatLine}
use Rattle.script_lang.specs.declared.script.FormatLine.TheVariants as line
use Rattle.script_lang.specs.declared.script.Script.{Script}
use Rattle.script_lang.specs.Fault.{script_word}
use Rattle.script_lang.specs.Header.{chroma_planes}
use Rattle.play_head.specs.Acts.{clip_number}
use Rattle.play_head.specs.PlayingScript.{store_word}
use Rattle.timeline_app.specs.declared.session.HeadStop.{HeadStop}
use Rattle.timeline_app.specs.declared.session.HeadStop.TheVariants as stop

-- ---- the format

-- The name and the start of each clip, in order.
abbrev pub clips_of : Script → List (List ℕ × ℕ)
clips_of head = map (λ clip. (clip.name, clip.start)) head.clips

abbrev pub coder_for : CoderWord → Coder
coder_for word.Range = coder.Range
coder_for word.Rice = coder.Rice

-- The format that a line asks for: that of the clip of a name, or one of its own.
abbrev pub format_for : (clips : List (List ℕ × ℕ)) → FormatLine → Format
format_for clips (line.As name) = format.As (clip_number clips name)
format_for clips (line.Own width height chroma coding columns rows) =
    format.Own (layout width height (chroma_planes chroma)) (coder_for coding) columns rows

-- ---- the line of a stop before the start

-- what is wrong with a clip's file and with its record, in a word; none for want of memory
abbrev pub clip_word : ClipFault → Option (List ℕ)
clip_word (clips.Ebml at) = Some (codes "Ebml")
clip_word clips.DocType = Some (codes "DocType")
clip_word clips.NoTrack = Some (codes "NoTrack")
clip_word clips.Codec = Some (codes "Codec")
clip_word clips.NoPrivate = Some (codes "NoPrivate")
clip_word clips.Encoded = Some (codes "Encoded")
clip_word (clips.Limit which) = Some (codes "Limit")
clip_word (clips.Laced at) = Some (codes "Laced")
clip_word (clips.TimeOrder at) = Some (codes "TimeOrder")
clip_word clips.NoFrames = Some (codes "NoFrames")
clip_word clips.NoMemory = None

abbrev pub record_word : RecordFault → Option (List ℕ)
record_word records.Short = Some (codes "Short")
record_word records.Parity = Some (codes "Parity")
record_word records.Symbol = Some (codes "Symbol")
record_word records.Version = Some (codes "Version")
record_word records.Micro = Some (codes "Micro")
record_word records.Coder = Some (codes "Coder")
record_word records.Transition = Some (codes "Transition")
record_word records.Color = Some (codes "Color")
record_word records.Depth = Some (codes "Depth")
record_word records.Subsample = Some (codes "Subsample")
record_word records.ExtraPlane = Some (codes "ExtraPlane")
record_word records.Slices = Some (codes "Slices")
record_word records.Tables = Some (codes "Tables")
record_word records.InitialStates = Some (codes "InitialStates")
record_word records.Ec = Some (codes "Ec")
record_word records.NoMemory = None

-- The line of a faulty file, of line n of the script.
abbrev pub clip_line : (n : ℕ) → Option (List ℕ) → OutLine
clip_line n None = out.NoMemory
clip_line n (Some kind) = out.FaultClip n kind

abbrev pub record_line : (n : ℕ) → Option (List ℕ) → OutLine
record_line n None = out.NoMemory
record_line n (Some kind) = out.FaultRecord n kind

abbrev pub load_line : (n : ℕ) → LoadFault → OutLine
load_line n load.SameName = out.FaultLine n (codes "SameName")
load_line n load.Total = out.FaultLine n (codes "Total")
load_line n (load.Clip fault) = clip_line n (clip_word fault)
load_line n (load.Record fault) = record_line n (record_word fault)
load_line n load.Slices = out.FaultLine n (codes "Slices")
load_line n load.NoMemory = out.NoMemory

abbrev pub head_line : HeadStop → OutLine
head_line (stop.Store name fault) = out.Store name (store_word fault)
head_line (stop.Script n why) = out.FaultLine n (script_word why)
head_line (stop.Clip n fault) = load_line n fault
head_line stop.NoMemory = out.NoMemory

-- Its status: 4 where a file wasn't fetched, 3 where the script or a clip is faulty, 5 for want of memory.
abbrev pub head_status : HeadStop → ℕ
head_status (stop.Store name fault) = 4
head_status (stop.Script n why) = 3
head_status (stop.Clip n fault) = 3
head_status stop.NoMemory = 5
