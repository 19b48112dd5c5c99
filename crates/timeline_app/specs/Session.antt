-- The head of a session: its script is fetched and read, and then the clips of its lines are loaded, one after another.
use Rattle.std.specs.Prelude.{◌≡◌, ◌⊎◌, ℕ, Bool, List, [], ◌∷◌, ◌++◌, Result, Ok, Err}
use Rattle.tl_limits.specs.Limits.{max_text_bytes, max_clip_bytes}
use Rattle.tl_ports.specs.declared.fault.FetchFault.TheVariants as fetching
use Rattle.tl_ports.specs.Outside.{Wanted, IsFetched, FetchHasCause}
use Rattle.tl_ports.specs.Seen.{StoreSeen}
use Rattle.script_lang.specs.declared.script.ClipLine.{ClipLine}
use Rattle.script_lang.specs.declared.script.Script.{Script}
use Rattle.script_lang.specs.declared.script.ScriptRefusal.TheVariants as refusal
use Rattle.script_lang.specs.ScriptText.{script}
use Rattle.clip_store.specs.Clip.{ClipOf, file_of}
use Rattle.clip_store.specs.declared.fault.LoadFault.TheVariants as load
use Rattle.clip_store.specs.Loading.{Loads, Refuses}
use Rattle.timeline_app.specs.declared.session.HeadStop.{HeadStop}
use Rattle.timeline_app.specs.declared.session.HeadStop.TheVariants as stop

-- A store before and after, and whether it tells its files.
pub record Fetching : Type 0 where
  pub tells : Bool
  pub old : StoreSeen
  pub new : StoreSeen

abbrev pub fetched_by : Bool → (old new : StoreSeen) → Fetching
fetched_by tells old new = record { tells = tells; old = old; new = new }

-- The store's count is as it was.
abbrev pub IsCalm : Fetching → Type 0
IsCalm by = by.new.faults ≡ by.old.faults

-- A file that is asked for, and so a script and a clip.
abbrev pub file_within : (name : List ℕ) → (limit : ℕ) → Wanted
file_within name limit = record { name = name; limit = limit }

abbrev pub text_at : (name : List ℕ) → Wanted
text_at name = file_within name max_text_bytes

abbrev pub clip_at : ClipLine → Wanted
clip_at line = file_within line.file max_clip_bytes

-- The file wasn't fetched, and the stop says why.
abbrev pub IsUnfetchedStop : Fetching → Wanted → HeadStop → Type 0
IsUnfetchedStop by file (stop.Store name fault) =
    (name ≡ file.name) × FetchHasCause by.tells by.old by.new file (Err fault) × (fault ≡ fetching.NoMemory → ⊥)
IsUnfetchedStop by file stop.NoMemory = IsCalm by
IsUnfetchedStop by file (stop.Script n why) = ⊥
IsUnfetchedStop by file (stop.Clip n fault) = ⊥

-- A text is this script, or has this fault.
abbrev pub ReadsText : (text : List ℕ) → Result Script HeadStop → Type 0
ReadsText text (Ok head) = script text ≡ Ok head
ReadsText text (Err (stop.Script n why)) = script text ≡ Err (refusal.Fault n why)
ReadsText text (Err stop.NoMemory) = Unit {0}
ReadsText text (Err (stop.Store name fault)) = ⊥
ReadsText text (Err (stop.Clip n fault)) = ⊥

-- The file of a clip line was fetched and loaded behind the clips.
pub record LoadsFile (by : Fetching) (line : ClipLine) (before after : List ClipOf) : Type 0 where
  pub bytes : List ℕ
  pub fetched : IsFetched by.tells by.old (clip_at line) bytes
  pub number : ℕ
  pub loads : Loads before (file_of line.name line.start bytes) (Ok number) after

-- It wasn't fetched, or is faulty.
abbrev pub StopsAt : Fetching → ClipLine → (before : List ClipOf) → HeadStop → Type 0
StopsAt by line before (stop.Store name fault) = IsUnfetchedStop by (clip_at line) (stop.Store name fault)
StopsAt by line before (stop.Clip n fault) = (n ≡ line.n) × IsCalm by × (fault ≡ load.NoMemory → ⊥) × ((bytes : List ℕ)
    × IsFetched by.tells by.old (clip_at line) bytes × Refuses before (file_of line.name line.start bytes) fault)
StopsAt by line before stop.NoMemory = IsCalm by
StopsAt by line before (stop.Script n why) = ⊥

-- The one or the other. After a stop the clips are as before.
abbrev pub LoadsOr : Fetching → ClipLine → (before after : List ClipOf) → Result Unit HeadStop → Type 0
LoadsOr by line before after (Ok done) = LoadsFile by line before after × IsCalm by
LoadsOr by line before after (Err why) = StopsAt by line before why × (after ≡ before)

-- The files of these lines were fetched and loaded in their order.
abbrev pub LoadsLines : Fetching → List ClipLine → (before after : List ClipOf) → Type 0
LoadsLines by [] before after = after ≡ before
LoadsLines by (line ∷ lines) before after =
    (between : List ClipOf) × LoadsFile by line before between × LoadsLines by lines between after

-- Some first lines were loaded, and the next one stops.
pub record StopsAmong (by : Fetching) (lines : List ClipLine) (why : HeadStop) : Type 0 where
  pub front : List ClipLine
  pub line : ClipLine
  pub rest : List ClipLine
  pub parts : lines ≡ front ++ line ∷ rest
  pub before : List ClipOf
  pub loads : LoadsLines by front [] before
  pub stops : StopsAt by line before why

abbrev pub LoadsClips : Fetching → List ClipLine → Result (List ClipOf) HeadStop → Type 0
LoadsClips by lines (Ok clips) = LoadsLines by lines [] clips × IsCalm by
LoadsClips by lines (Err why) = StopsAmong by lines why

-- The text of a script's name was fetched, and is this script.
pub record IsHead (by : Fetching) (name : List ℕ) (head : Script) : Type 0 where
  pub text : List ℕ
  pub fetched : IsFetched by.tells by.old (text_at name) text
  pub read : script text ≡ Ok head

-- The script wasn't fetched, or is faulty.
abbrev pub StopsReading : Fetching → (name : List ℕ) → HeadStop → Type 0
StopsReading by name (stop.Store file fault) = IsUnfetchedStop by (text_at name) (stop.Store file fault)
StopsReading by name (stop.Script n why) = IsCalm by × ((text : List ℕ)
    × IsFetched by.tells by.old (text_at name) text × (script text ≡ Err (refusal.Fault n why)))
StopsReading by name stop.NoMemory = IsCalm by
StopsReading by name (stop.Clip n fault) = ⊥

-- The script was fetched and read and its clips loaded, or the first thing stops that isn't fetched or is faulty.
abbrev pub Opens : Fetching → (name : List ℕ) → Result (Script × List ClipOf) HeadStop → Type 0
Opens by name (Ok (head, clips)) = IsHead by name head × LoadsLines by head.clips [] clips × IsCalm by
Opens by name (Err why) = StopsReading by name why ⊎ ((head : Script) × IsHead by name head × StopsAmong by head.clips why)
