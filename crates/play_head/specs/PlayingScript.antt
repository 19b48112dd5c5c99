-- What playing a script's body does: its lines one after another, and where one stops it, the stop line.
use Rattle.std.specs.Prelude.{◌≡◌, ◌⊎◌, ◌≤◌, ℕ, Bool, true, false, List, [], ◌∷◌, ◌++◌, map, codes, Option, Some, None, Result, Ok, Err}
use Rattle.std.specs.List.{flat_map}
use Rattle.pic_planes.specs.Picture.{Image}
use Rattle.tl_model.specs.Media.{Library}
use Rattle.tl_ports.specs.declared.fault.FetchFault.{FetchFault}
use Rattle.tl_ports.specs.declared.fault.FetchFault.TheVariants as fetching
use Rattle.tl_ports.specs.Outside.{Rose}
use Rattle.tl_ports.specs.Seen.{SinkSeen}
use Rattle.edit_desk.specs.Desk.{Hears, heard}
use Rattle.script_lang.specs.declared.out_line.OutLine.{OutLine}
use Rattle.script_lang.specs.declared.out_line.OutLine.TheVariants as out
use Rattle.script_lang.specs.declared.script.BodyLine.{BodyLine}
use Rattle.script_lang.specs.declared.script.Call.{Call}
use Rattle.play_head.specs.declared.halt.Halt.{Halt}
use Rattle.play_head.specs.declared.halt.Halt.TheVariants as halt
use Rattle.play_head.specs.declared.stop.Stop.{Stop}
use Rattle.play_head.specs.declared.stop.Stop.TheVariants as stop
use Rattle.play_head.specs.Playing.{Tells, Setting, Player, Played, AreWhole, lines_of, rows_of}
use Rattle.play_head.specs.PlayingActs.{image_rows}
use Rattle.play_head.specs.PlayingLine.{Output, PutsAll, Lasts, PlaysPart, file_wanted, texts}
use Rattle.play_head.specs.Putting.{GotAll, GotFront}

abbrev pub outputs_of : {M F : Type 0} → Setting M F → Library F → List (Played F) → Output
outputs_of s lib played = record { lines = flat_map (lines_of lib) played; rows = flat_map (rows_of s lib) played }

-- why a file wasn't fetched, in a word
abbrev pub store_word : FetchFault → List ℕ
store_word fetching.Failed = codes "Failed"
store_word fetching.Missing = codes "Missing"
store_word (fetching.TooLarge limit) = codes "TooLarge"
store_word fetching.NoMemory = codes "NoMemory"

-- The line that says why a script stopped at a call. None says that a line couldn't be put.
abbrev pub stop_lines : Call → Halt → List OutLine
stop_lines call (halt.Store fault) = out.Store (file_wanted call).name (store_word fault) ∷ []
stop_lines call halt.Screen = out.ScreenFailed ∷ []
stop_lines call halt.Out = []
stop_lines call halt.NoMemory = out.NoMemory ∷ []
stop_lines call halt.OutMemory = []
stop_lines call (halt.JournalFull len owing) = out.JournalFull len owing ∷ []

abbrev pub list_of : Option OutLine → List OutLine
list_of None = []
list_of (Some line) = line ∷ []

abbrev pub stop_of : Halt → Stop
stop_of (halt.Store fault) = stop.Store
stop_of halt.Screen = stop.Screen
stop_of halt.Out = stop.Out
stop_of halt.NoMemory = stop.NoMemory
stop_of halt.OutMemory = stop.OutMemory
stop_of (halt.JournalFull len owing) = stop.JournalFull len owing

-- Nothing more may be put to `out`: a put wasn't answered `Ok`, or memory ran out for a line.
abbrev pub is_silent : Halt → Bool
is_silent halt.Out = true
is_silent halt.OutMemory = true
is_silent other = false

-- The stop line is put, and whether nothing more may be put then. Want of memory for it is what stops the script.
abbrev pub SaysStop : Bool → (old new : SinkSeen) → Call × Halt → Stop × Bool → Type 0
SaysStop tells old new (call, why) (what, false) = (is_silent why ≡ false) × (what ≡ stop_of why)
    × GotAll tells old new (texts (stop_lines call why))
SaysStop tells old new (call, why) (what, true) = ((what ≡ stop_of why) × (is_silent why ≡ true) × (new ≡ old))
    ⊎ (GotFront tells old new (texts (stop_lines call why))
    × (((what ≡ stop_of why) × Rose old.faults new.faults) ⊎ (what ≡ stop.OutMemory)))

abbrev pub StopsBy : Bool → (old new : SinkSeen) → Call × Halt → Result Unit Stop × Bool → Type 0
StopsBy tells old new at (Ok done, silenced) = ⊥
StopsBy tells old new at (Err what, silenced) = SaysStop tells old new at (what, silenced)

-- With clips and a rate, as pictures go to the screen.
abbrev pub setting_of : {M : Type 0} → (M → Library Image) → (clips : List (List ℕ × ℕ)) → (rate : ℕ)
    → (List ℕ → Option (List ℕ)) → Tells → Setting M Image
setting_of library clips rate files tells =
    record { library = library; rows = image_rows; clips = clips; rate = rate; files = files; tells = tells }

-- Whether each of the three tells what it holds.
abbrev pub tells_of : (store screen out : Bool) → Tells
tells_of store screen out = record { store = store; screen = screen; out = out }

module _ {M K : Type 0} where
  -- Nothing but `out` changes, and its count of faults doesn't fall.
  pub record OnlyPuts (old new : Player M K) : Type 0 where
    pub desk : new.desk ≡ old.desk
    pub store : new.store ≡ old.store
    pub screen : new.screen ≡ old.screen
    pub later : old.out.faults ≤ new.out.faults

module _ {M K F : Type 0} where
  -- Lines were played to their end, one after another.
  pub record PlaysLines (s : Setting M F) (old new : Player M K) (lines : List BodyLine) : Type 0 where
    pub played : List (Played F)
    pub is : map (λ p. p.line) played ≡ lines
    pub whole : AreWhole s new.desk (heard s.library old.desk) played
    pub hears : Hears s.library old.desk new.desk (flat_map (λ p. p.calls) played)
    pub puts : PutsAll s old new (outputs_of s (s.library old.desk.fixed.library) played)
    pub lasts : Lasts old new

  -- Some first lines were played to their end, and the next one stopped.
  pub record PlaysFront (s : Setting M F) (old new : Player M K) (body : List BodyLine) (why : Halt) : Type 0 where
    pub front : List BodyLine
    pub line : BodyLine
    pub rest : List BodyLine
    pub is : body ≡ front ++ line ∷ rest
    pub between : Player M K
    pub plays : PlaysLines s old between front
    pub part : PlaysPart s between new line why
    pub lasts : Lasts between new

  -- A script stopped.
  pub record StopsScript (s : Setting M F) (old new : Player M K) (body : List BodyLine) (ended : Stop × Bool) : Type 0 where
    pub why : Halt
    pub halted : Player M K
    pub plays : PlaysFront s old halted body why
    pub says : SaysStop s.tells.out halted.out new.out (plays.line.call, why) ended
    pub only : OnlyPuts halted new

  -- The whole body was played; or it was stopped, and whether nothing more may be put to `out`.
  abbrev pub PlaysScript : Setting M F → (old new : Player M K) → List BodyLine → Result Unit Stop × Bool → Type 0
  PlaysScript s old new body (Ok done, false) = PlaysLines s old new body
  PlaysScript s old new body (Ok done, true) = ⊥
  PlaysScript s old new body (Err what, silenced) = StopsScript s old new body (what, silenced)
