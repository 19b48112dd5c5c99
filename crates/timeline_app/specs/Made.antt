-- A script that is made from a number, and what its session runs over.
use Rattle.std.specs.Prelude.{◌≡◌, ◌≢◌, ℕ, true, List, Option, Some, None, codes}
use Rattle.tl_ports.specs.Seen.{Outside, StoreSeen, Telling}
use Rattle.work_gen.specs.Clip.{IsClip}
use Rattle.work_gen.specs.Script.{script}
use Rattle.timeline_app.specs.Words.{made_frames}

-- The store has the script for so many frames under this name, their clip as `g.mkv`, and no other file. It had no fault.
pub record IsMade (name : List ℕ) (frames : ℕ) (store : StoreSeen) : Type 0 where
  pub script : store.file name ≡ Some (script frames)
  pub bytes : List ℕ
  pub clip : store.file (codes "g.mkv") ≡ Some bytes
  pub whole : IsClip frames bytes
  pub others : (other : List ℕ) → other ≢ name → other ≢ codes "g.mkv" → store.file other ≡ None
  pub faults : store.faults ≡ 0

-- What a session runs over: the outside before it and after it, and which of it tells its contents.
pub record Around : Type 0 where
  pub old : Outside
  pub new : Outside
  pub tells : Telling

abbrev pub around : (old new : Outside) → Telling → Around
around old new tells = record { old = old; new = new; tells = tells }

-- The same with another store, which tells its files and is as it was at the end.
abbrev pub with_store : StoreSeen → Around → Around
with_store store given = record {
  old = record given.old { store = store };
  new = record given.new { store = store };
  tells = record given.tells { store = true };
}

-- A store was made, and the session runs over it. The one that was given is as it was.
pub record IsOverMade (name : List ℕ) (frames : ℕ) (given over : Around) : Type 0 where
  pub made : StoreSeen
  pub is : IsMade name frames made
  pub over_made : over ≡ with_store made given
  pub store : given.new.store ≡ given.old.store

abbrev pub IsOverBy : Option ℕ → (name : List ℕ) → (given over : Around) → Type 0
IsOverBy None name given over = over ≡ given
IsOverBy (Some frames) name given over = IsOverMade name frames given over

-- The session of the script `gen:N` runs over a store that was made, and that of any other over what was given.
abbrev pub IsOver : (name : List ℕ) → (given over : Around) → Type 0
IsOver name given over = IsOverBy (made_frames name) name given over
