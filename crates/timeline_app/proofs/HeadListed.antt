-- The words of the lines that a session puts before its start are in their lists.
use Rattle.std.specs.Prelude.{◌≡◌, ℕ, List, IsTrue, refl}
use Rattle.std.proofs.Common.{inl, inr, rules}
use Rattle.tl_ports.specs.declared.fault.FetchFault.{FetchFault}
use Rattle.tl_ports.specs.declared.fault.FetchFault.TheVariants as fetching
use Rattle.mkv_read.specs.declared.fault.ClipFault.{ClipFault}
use Rattle.mkv_read.specs.declared.fault.ClipFault.TheVariants as clips
use Rattle.ffv1_record.specs.declared.fault.RecordFault.{RecordFault}
use Rattle.ffv1_record.specs.declared.fault.RecordFault.TheVariants as records
use Rattle.clip_store.specs.declared.fault.LoadFault.{LoadFault}
use Rattle.clip_store.specs.declared.fault.LoadFault.TheVariants as load
use Rattle.script_lang.specs.declared.out_line.OutLine.TheVariants as out
use Rattle.script_lang.specs.declared.script.ScriptFault.{ScriptFault}
use Rattle.script_lang.specs.declared.script.ScriptFault.TheVariants as script
use Rattle.script_lang.specs.Fault.{script_word}
use Rattle.script_lang.specs.Line.{fields, is_listed}
use Rattle.play_head.specs.PlayingScript.{store_word}
use Rattle.timeline_app.specs.declared.session.HeadStop.{HeadStop}
use Rattle.timeline_app.specs.declared.session.HeadStop.TheVariants as stop
use Rattle.timeline_app.specs.Session.{Fetching}
use Rattle.timeline_app.specs.Opening.{IsHeadCause}
use Rattle.timeline_app.specs.Head.{clip_line, clip_word, head_line, load_line, record_line, record_word}

store_listed : (name : List ℕ) (fault : FetchFault) → (fault ≡ fetching.NoMemory → ⊥) → IsTrue (is_listed (out.Store name (store_word fault)))
unfolding fields
store_listed name fetching.Failed sound = refl
store_listed name fetching.Missing sound = refl
store_listed name (fetching.TooLarge limit) sound = refl
store_listed name fetching.NoMemory sound = absurd (sound refl)

script_listed : (n : ℕ) (why : ScriptFault) → IsTrue (is_listed (out.FaultLine n (script_word why)))
unfolding fields
script_listed n script.Limit = refl
script_listed n script.Utf8 = refl
script_listed n script.Word = refl
script_listed n script.Order = refl
script_listed n script.Count = refl
script_listed n script.Number = refl
script_listed n script.Timecode = refl
script_listed n script.Format = refl
script_listed n script.SameName = refl
script_listed n script.UnknownClip = refl
script_listed n script.SameExport = refl

clip_listed : (n : ℕ) (fault : ClipFault) → IsTrue (is_listed (clip_line n (clip_word fault)))
unfolding fields
clip_listed n (clips.Ebml at) = refl
clip_listed n clips.DocType = refl
clip_listed n clips.NoTrack = refl
clip_listed n clips.Codec = refl
clip_listed n clips.NoPrivate = refl
clip_listed n clips.Encoded = refl
clip_listed n (clips.Limit which) = refl
clip_listed n (clips.Laced at) = refl
clip_listed n (clips.TimeOrder at) = refl
clip_listed n clips.NoFrames = refl
clip_listed n clips.NoMemory = refl

record_listed : (n : ℕ) (fault : RecordFault) → IsTrue (is_listed (record_line n (record_word fault)))
unfolding fields
record_listed n records.Short = refl
record_listed n records.Parity = refl
record_listed n records.Symbol = refl
record_listed n records.Version = refl
record_listed n records.Micro = refl
record_listed n records.Coder = refl
record_listed n records.Transition = refl
record_listed n records.Color = refl
record_listed n records.Depth = refl
record_listed n records.Subsample = refl
record_listed n records.ExtraPlane = refl
record_listed n records.Slices = refl
record_listed n records.Tables = refl
record_listed n records.InitialStates = refl
record_listed n records.Ec = refl
record_listed n records.NoMemory = refl

load_listed : (n : ℕ) (fault : LoadFault) → IsTrue (is_listed (load_line n fault))
unfolding fields
load_listed n load.SameName = refl
load_listed n load.Total = refl
load_listed n (load.Clip fault) = clip_listed n fault
load_listed n (load.Record fault) = record_listed n fault
load_listed n load.Slices = refl
load_listed n load.NoMemory = refl

-- A file that isn't fetched isn't so for want of memory.
not_wanting : (by : Fetching) (name file : List ℕ) (fault : FetchFault) → IsHeadCause by name (stop.Store file fault) → fault ≡ fetching.NoMemory → ⊥
not_wanting by name file fault (inl (inl read)) = read.2
not_wanting by name file fault (inl (inr among)) = among.2.stops.2
not_wanting by name file fault (inr wanting) = let same = wanting.0 in absurd (search rules)

pub head_listed : (by : Fetching) (name : List ℕ) (why : HeadStop) → IsHeadCause by name why → IsTrue (is_listed (head_line why))
unfolding fields
head_listed by name (stop.Store file fault) cause = store_listed file fault (not_wanting by name file fault cause)
head_listed by name (stop.Script n why) cause = script_listed n why
head_listed by name (stop.Clip n fault) cause = load_listed n fault
head_listed by name stop.NoMemory cause = refl
