-- What a session does from its start to its end: the lines of its script, the stop, and the exports.
use Rattle.std.specs.Prelude.{◌≡◌, ◌⊎◌, ◌<◌, ◌≤◌, ℕ, ◌+◌, Bool, IsTrue, List, [], ◌∷◌, ◌++◌, length, map, Option, Some, None, Result, Ok, Err}
use Rattle.std.specs.List.{flat_map}
use Rattle.std.specs.Option.{option_map}
use Rattle.pic_planes.specs.Picture.{Image}
use Rattle.tl_model.specs.Media.{Library}
use Rattle.tl_model.specs.declared.journal.Act.{Act}
use Rattle.tl_model.specs.declared.journal.Act.TheVariants as act
use Rattle.tl_model.specs.declared.journal.Entry.{Entry}
use Rattle.tl_ports.specs.declared.fault.FetchFault.TheVariants as fetching
use Rattle.tl_ports.specs.declared.fault.PutFault.{PutFault}
use Rattle.tl_ports.specs.declared.fault.PutFault.TheVariants as putting
use Rattle.tl_ports.specs.Outside.{Rose, FetchHasCause}
use Rattle.tl_ports.specs.Seen.{Outside, VaultSeen, SinkSeen, Telling}
use Rattle.render_core.specs.declared.export.Stage.TheVariants as stage
use Rattle.render_core.specs.Calls.{CallOf, calls_of, own, own_calls}
use Rattle.render_core.specs.Export.{ExportOf}
use Rattle.render_core.specs.State.{owed}
use Rattle.render_core.specs.Step.{Silent}
use Rattle.edit_desk.specs.Desk.{DeskOf, IsDesk, Enters, setup_of, state_of, heard}
use Rattle.edit_desk.specs.Was.{Was}
use Rattle.script_lang.specs.declared.out_line.OutLine.{OutLine}
use Rattle.script_lang.specs.declared.script.BodyLine.{BodyLine}
use Rattle.script_lang.specs.declared.script.Script.{Script}
use Rattle.script_lang.specs.declared.script.Call.TheVariants as call
use Rattle.play_head.specs.declared.halt.Halt.{Halt}
use Rattle.play_head.specs.declared.halt.Halt.TheVariants as halt
use Rattle.play_head.specs.declared.stop.Stop.{Stop}
use Rattle.play_head.specs.Carrying.{Carried, Carrier, CarriesAll, Leaves, FinishesAll, carried_calls, carrier, exporter}
use Rattle.play_head.specs.Playing.{Setting, Player, Played, AreWhole, HasSomeCalls, ReadsList, lines_of, player, rows_of}
use Rattle.play_head.specs.PlayingLine.{Output, IsUnrendered, file_wanted, next_need, no_output, output_of, texts}
use Rattle.play_head.specs.PlayingScript.{PlaysScript, setting_of, stop_lines, stop_of, tells_of}
use Rattle.play_head.specs.Putting.{GotAll, GotFront}
use Rattle.play_head.specs.Work.{Turn, AreTurns, turns_calls}
use Rattle.timeline_app.specs.Ending.{end_lines, final_status}

-- The line that stopped a script: what it did and what it put by then, the acts that are left of it, and why it stopped.
pub record Halted (F : Type 0) : Type 0 where
  pub played : Played F
  pub left : List Act
  pub output : Output
  pub why : Halt

-- What a session did: the lines that were played to their end, the one that stopped, the exports that the exporter carried out, those
-- that were left and carried out after them, and how the puts to `out` went.
pub record Course (F : Type 0) : Type 0 where
  pub played : List (Played F)
  pub halted : Option (Halted F)
  pub early : List Carried
  pub late : List Carried
  pub said : Result Unit PutFault

-- The exports that were carried out, in order.
abbrev pub all_carried : {F : Type 0} → Course F → List Carried
all_carried c = c.early ++ c.late

-- ---- its calls

abbrev pub halted_calls : {F : Type 0} → Option (Halted F) → List (CallOf F)
halted_calls None = []
halted_calls (Some h) = h.played.calls

-- The calls of the lines, and then the stop and those of the exports that were left.
abbrev pub script_calls : {F : Type 0} → Course F → List (CallOf F)
script_calls c = flat_map (λ p. p.calls) c.played ++ halted_calls c.halted

abbrev pub stop_call : {F : Type 0} → CallOf F
stop_call = record { pass = 0; act = act.Stop; told = Silent }

abbrev pub course_calls : {F : Type 0} → Course F → List (CallOf F)
course_calls c = script_calls c ++ stop_call ∷ flat_map (carried_calls 0) c.late

-- ---- what it puts

abbrev pub halted_lines : {F : Type 0} → Option (Halted F) → List OutLine
halted_lines None = []
halted_lines (Some h) = h.output.lines ++ stop_lines h.played.line.call h.why

abbrev pub halted_rows : {F : Type 0} → Option (Halted F) → List (List ℕ)
halted_rows None = []
halted_rows (Some h) = h.output.rows

-- The lines of the calls, the stop line, and the end lines.
abbrev pub course_lines : {M F : Type 0} → Setting M F → Library F → Course F → List OutLine
course_lines s lib c = flat_map (lines_of lib) c.played ++ halted_lines c.halted ++ end_lines s.clips (all_carried c)

abbrev pub course_rows : {M F : Type 0} → Setting M F → Library F → Course F → List (List ℕ)
course_rows s lib c = flat_map (rows_of s lib) c.played ++ halted_rows c.halted

-- The lines were put; or some front of them, since a put failed or memory ran out for a line or a put.
abbrev pub SaysBy : Bool → (old new : SinkSeen) → List OutLine → (said : Result Unit PutFault) → Type 0
SaysBy tells old new lines (Ok done) = GotAll tells old new (texts lines)
SaysBy tells old new lines (Err putting.Failed) = GotFront tells old new (texts lines) × Rose old.faults new.faults
SaysBy tells old new lines (Err putting.NoMemory) = GotFront tells old new (texts lines)

-- What is put after lines that went as the first says, and how that went: nothing more after a put that wasn't `Ok`.
abbrev pub SaysRest : Bool → (old new : SinkSeen) → List OutLine → Result Unit PutFault × Result Unit PutFault → Type 0
SaysRest tells old new lines (Ok done, said) = SaysBy tells old new lines said
SaysRest tells old new lines (Err fault, said) = (said ≡ Err fault) × (new ≡ old)

-- The rows were put; or some front of them, since the screen or `out` failed or memory ran out.
abbrev pub ShowsBy : Bool → (old new : SinkSeen) → List (List ℕ) → Option Halt → Type 0
ShowsBy tells old new rows None = GotAll tells old new rows
ShowsBy tells old new rows (Some (halt.Store fault)) = GotAll tells old new rows
ShowsBy tells old new rows (Some halt.Screen) = GotFront tells old new rows × Rose old.faults new.faults
ShowsBy tells old new rows (Some halt.Out) = GotFront tells old new rows
ShowsBy tells old new rows (Some halt.NoMemory) = GotFront tells old new rows
ShowsBy tells old new rows (Some halt.OutMemory) = GotFront tells old new rows
ShowsBy tells old new rows (Some (halt.JournalFull len owing)) = GotAll tells old new rows

-- A sink that tells its bytes got these pieces first, whatever came after them.
abbrev pub GotFirst : Bool → (old new : SinkSeen) → (pieces : List (List ℕ)) → Type 0
GotFirst tells old new pieces = IsTrue tells → (more : List (List ℕ)) × (new.pieces ≡ old.pieces ++ pieces ++ more)

-- ---- its exports

-- The first has this number, and each next one more.
abbrev pub AreNumbered : (first : ℕ) → List Carried → Type 0
AreNumbered first [] = Unit {0}
AreNumbered first (c ∷ more) = (c.export ≡ first) × AreNumbered (first + 1) more

abbrev pub ended_export : Carried → ExportOf
ended_export c = record { name = c.name; line = c.line; stage = stage.Ended c.ending }

-- What the file of each holds, from before the first to after the last.
abbrev pub LeaveAll : {F : Type 0} → Carrier F → (old new : VaultSeen) → List Carried → Type 0
LeaveAll by old new [] = Unit {0}
LeaveAll by old new (c ∷ more) = Leaves by old new c c.ending × LeaveAll by old new more

-- ---- the whole

-- What a session plays: the setting of its player, whether its vault tells its files, how many passes there are beside the player's,
-- and the lines of its script.
pub record Program (M F : Type 0) : Type 0 where
  pub setting : Setting M F
  pub vault_tells : Bool
  pub others : ℕ
  pub body : List BodyLine

-- What a session has: what its player has, and what is seen of its vault.
pub record Session (M K : Type 0) : Type 0 where
  pub player : Player M K
  pub vault : VaultSeen

-- The session of a desk, over the outside as it is seen.
abbrev pub session_at : {M K : Type 0} → DeskOf M K → Outside → Session M K
session_at desk seen = record { player = player desk seen.store seen.screen seen.out; vault = seen.vault }

-- A script with its clips, and how many passes there are beside the player's.
pub record Planned : Type 0 where
  pub script : Script
  pub clips : List (List ℕ × ℕ)
  pub others : ℕ

-- What is played of it, over a store of these files.
abbrev pub program_for : {M : Type 0} → (M → Library Image) → Planned → (files : List ℕ → Option (List ℕ)) → Telling → Program M Image
program_for library plan files tells = record {
  setting = setting_of library plan.clips plan.script.rate files (tells_of tells.store tells.screen tells.out);
  vault_tells = tells.vault;
  others = plan.others;
  body = plan.script.body;
}

-- The script's lines are those played to their end; or these, the one that stopped, and the rest.
abbrev pub AreLines : {F : Type 0} → List BodyLine → List (Played F) → Option (Halted F) → Type 0
AreLines body played None = body ≡ map (λ p. p.line) played
AreLines body played (Some h) = (rest : List BodyLine) × (body ≡ map (λ p. p.line) played ++ h.played.line ∷ rest)

-- A line that stopped put what its calls ask for; but of a show for which memory ran out, nothing.
abbrev pub IsOutputOf : {M F : Type 0} → Setting M F → Library F → Halted F → Type 0
IsOutputOf s lib h = (h.output ≡ output_of s lib h.played)
    ⊎ (IsUnrendered h.played × (h.why ≡ halt.NoMemory) × (h.output ≡ no_output))

module _ {M K F : Type 0} where
  -- The calls that a line made that stopped: a front of those of the whole line, of which these acts are left.
  abbrev pub IsBegun : Setting M F → DeskOf M K → Option (Halted F) → Type 0
  IsBegun s d None = Unit {0}
  IsBegun s d (Some h) = HasSomeCalls s d h.played h.played.line.call h.left
      × ((h.played.calls ≡ []) ⊎ ReadsList s h.played.line.call h.played.list) × IsOutputOf s (s.library d.fixed.library) h

  -- After just these calls the next act was refused: its entries don't fit with those that were there and those owed.
  pub record IsRefused (s : Setting M F) (d : DeskOf M K) (calls : List (CallOf F)) (left : List Act) (told : ℕ × ℕ) : Type 0 where
    pub front : List Entry
    pub rest : List Entry
    pub seen : d.seen ≡ front ++ rest
    pub heard : heard s.library (record d { seen = front }) ≡ calls
    pub len : told.0 ≡ length front
    pub owing : told.1 ≡ owed (state_of s.library (record d { seen = front }))
    pub full : d.fixed.limit < told.0 + told.1 + next_need left (state_of s.library (record d { seen = front }))

  -- Why a line stopped after these calls, by what is seen of the store and of the sinks from the session's start to its end. Only a
  -- line of an edit list stops for the store, before its call. Want of memory is free.
  abbrev pub IsCause : Setting M F → (old new : Player M K) → List (CallOf F) × Halted F → Halt → Type 0
  IsCause s old new (calls, h) (halt.Store fault) =
      FetchHasCause s.tells.store old.store new.store (file_wanted h.played.line.call) (Err fault) × (fault ≡ fetching.NoMemory → ⊥)
      × ((file : List ℕ) × (h.played.line.call ≡ call.Edl file)) × (h.played.calls ≡ [])
  IsCause s old new (calls, h) halt.Screen = Rose old.screen.faults new.screen.faults
  IsCause s old new (calls, h) halt.Out = Rose old.out.faults new.out.faults
  IsCause s old new (calls, h) halt.NoMemory = Unit {0}
  IsCause s old new (calls, h) halt.OutMemory = Unit {0}
  IsCause s old new (calls, h) (halt.JournalFull len owing) = IsRefused s new.desk calls h.left (len, owing)

  abbrev pub HasCause : Setting M F → (old new : Player M K) → List (CallOf F) → Option (Halted F) → Type 0
  HasCause s old new calls None = Unit {0}
  HasCause s old new calls (Some h) = IsCause s old new (calls, h) h.why

  -- The calls of the pass of this number in what is seen, and what each was told.
  abbrev pub calls_by : (M → Library F) → DeskOf M K → (number : ℕ) → List (CallOf F)
  calls_by library d number = own_calls number (calls_of (setup_of library d) d.seen)

  -- The pass of this number made turns of work, and no other calls.
  pub record IsWorker (library : M → Library F) (d : DeskOf M K) (number : ℕ) : Type 0 where
    pub turns : List (Turn F)
    pub are_turns : AreTurns turns
    pub calls : calls_by library d number ≡ turns_calls number turns

  -- What other passes than number 0 did: number 1 is the exporter and carried out these exports, the rest are workers, and no number
  -- above this has an entry.
  pub record IsCrew (library : M → Library F) (d : DeskOf M K) (others : ℕ) (early : List Carried) : Type 0 where
    pub exporter : calls_by library d 1 ≡ flat_map (carried_calls 1) early
    pub workers : (number : ℕ) → 2 ≤ number → IsWorker library d number
    pub few : (number : ℕ) → others < number → own number d.seen ≡ []

  -- A session from its start, where the journal is empty, to its end, by the journal that it then has.
  -- 1 is the journal, 2 `out`, 3 the screen, 4 the files, 5 the exports, 6 the status, and 7 that no line of work ends early.
  pub record RunsCourse (p : Program M F) (old new : Session M K) (c : Course F) (code : ℕ) : Type 0 where
    -- 1: the journal is legal and within its limit
    pub known : IsDesk p.setting.library new.player.desk
    -- 1: each line was played whole, but for one that stopped and those after it
    pub lines : AreLines p.body c.played c.halted
    -- 1 and 7: a whole line has all its calls, and one of work its turns
    pub whole : AreWhole p.setting new.player.desk [] c.played
    -- 7: nothing stops the session before its stop: with just some first calls of the script it wasn't stopped
    pub going : (front rest : List (CallOf F)) → script_calls c ≡ front ++ rest
        → Was p.setting.library new.player.desk front (λ state. IsTrue state.is_stopped) → ⊥
    -- 1: the line that stopped has some first of its calls
    pub begun : IsBegun p.setting new.player.desk c.halted
    -- 1: the caller's calls in the journal are those of these lines, the stop, and those of the exports that were left
    pub calls : heard p.setting.library new.player.desk ≡ course_calls c
    -- 1: and the others' are those of the other exports, and turns of work
    pub crew : IsCrew p.setting.library new.player.desk p.others c.early
    -- 2: `out` got the lines
    pub says : SaysBy p.setting.tells.out old.player.out new.player.out
        (course_lines p.setting (p.setting.library new.player.desk.fixed.library) c) c.said
    -- 2: those of each line that was played to its end, whole: so none is played after a put that wasn't `Ok`
    pub said_whole : GotFirst p.setting.tells.out old.player.out new.player.out
        (texts (flat_map (lines_of (p.setting.library new.player.desk.fixed.library)) c.played))
    -- 3: the screen got the rows
    pub shows : ShowsBy p.setting.tells.screen old.player.screen new.player.screen
        (course_rows p.setting (p.setting.library new.player.desk.fixed.library) c) (option_map (λ h. h.why) c.halted)
    -- 3: those of each line that was played to its end, whole
    pub shown_whole : GotFirst p.setting.tells.screen old.player.screen new.player.screen
        (flat_map (rows_of p.setting (p.setting.library new.player.desk.fixed.library)) c.played)
    -- 4: the exports were carried out one after another
    pub carries : CarriesAll (carrier p.setting.library new.player.desk p.setting.rate p.vault_tells) old.vault new.vault (all_carried c)
    -- 4: and each one's file is there at the end
    pub files : LeaveAll (carrier p.setting.library new.player.desk p.setting.rate p.vault_tells) old.vault new.vault (all_carried c)
    -- 5: the exports that were asked for are those carried out, each with its ending
    pub exports : (state_of p.setting.library new.player.desk).exports ≡ map ended_export (all_carried c)
    -- 5: in the order of their numbers
    pub numbers : AreNumbered 1 (all_carried c)
    -- 6: the status
    pub status : code ≡ final_status c.said (option_map (λ h. stop_of h.why) c.halted) (map (λ e. e.ending) (all_carried c))
    -- 6: and the cause of what stopped the script
    pub cause : HasCause p.setting old.player new.player (script_calls c) c.halted
    -- the store's files stay, and no file is left begun
    pub store : new.player.store.file ≡ old.player.store.file
    pub idle : new.vault.begun ≡ None

  -- What the session's player and its stop and exports do, one after another, by how playing the script ended.
  pub record PlaysAll (p : Program M F) (old new : Session M K) (ended : Result Unit Stop × Bool) : Type 0 where
    pub played : Player M K
    pub plays : PlaysScript p.setting old.player played p.body ended
    pub stopped : DeskOf M K
    pub stops : Enters p.setting.library played.desk stopped act.Stop Silent
    pub finishes : FinishesAll p.setting.library (carrier p.setting.library stopped p.setting.rate p.vault_tells)
        (exporter stopped old.vault) (exporter new.player.desk new.vault)
    pub stays : new.player ≡ record played { desk = new.player.desk }
    pub idle : new.vault.begun ≡ None
