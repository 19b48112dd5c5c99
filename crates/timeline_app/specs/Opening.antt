-- A session that is begun: its script is read, its clips are loaded, and they are a library of the script's format.
use Rattle.std.specs.Prelude.{◌≡◌, ◌⊎◌, ℕ, List, Result, Ok, Err}
use Rattle.clip_store.specs.Readying.{IsOutputOf}
use Rattle.timeline_app.specs.declared.opening.Opening.{Opening}
use Rattle.timeline_app.specs.declared.session.HeadStop.{HeadStop}
use Rattle.timeline_app.specs.declared.session.HeadStop.TheVariants as stop
use Rattle.timeline_app.specs.Head.{clips_of, format_for}
use Rattle.timeline_app.specs.Session.{Fetching, IsCalm, Opens}

-- Its script and clips were fetched and are these, the names are those of the clips, and the library has the script's format.
pub record IsOpened (by : Fetching) (name : List ℕ) (o : Opening) : Type 0 where
  pub opens : Opens by name (Ok (o.script, o.library.clips))
  pub names : o.clips ≡ clips_of o.script
  pub output : IsOutputOf o.library.clips (format_for o.clips o.script.format) o.library.output

-- Why none is: the first thing that isn't fetched or is faulty; or memory ran out.
abbrev pub IsHeadCause : Fetching → (name : List ℕ) → HeadStop → Type 0
IsHeadCause by name why = Opens by name (Err why) ⊎ ((why ≡ stop.NoMemory) × IsCalm by)

abbrev pub OpensLibrary : Fetching → (name : List ℕ) → Result Opening HeadStop → Type 0
OpensLibrary by name (Ok opening) = IsOpened by name opening
OpensLibrary by name (Err why) = IsHeadCause by name why
