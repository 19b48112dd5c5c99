-- What a pass of a studio knows, as a desk.
use Rattle.std.specs.Prelude.{◌≡◌, ℕ, true, false, List}
use Rattle.tl_model.specs.Media.{Library}
use Rattle.turn_lock.specs.declared.pass.Held.{Held}
use Rattle.turn_lock.specs.declared.view.Joined.{Joined}
use Rattle.turn_lock.specs.Entering.{entered_by}
use Rattle.turn_lock.specs.Entries.{entries_of}
use Rattle.turn_lock.specs.Passes.{TurnOf, PassOf, IsOf}
use Rattle.render_core.specs.Board.{BoardOf}
use Rattle.edit_desk.specs.Alone.{desk_of}
use Rattle.edit_desk.specs.Desk.{DeskOf, IsDesk}

-- What no call changes beside the desk's own fixed parts: the studio, how many passes the pass made, and those that were joined into it.
pub record KeptOf (M : Type 0) : Type 0 where
  pub studio : TurnOf (BoardOf M)
  pub made : ℕ
  pub joined : List Joined

-- A desk over a pass: its studio, and the pass.
pub record AtPassOf (M : Type 0) : Type 0 where
  pub studio : TurnOf (BoardOf M)
  pub pass : PassOf (BoardOf M)

module _ {M : Type 0} where
  abbrev pub kept_by : TurnOf (BoardOf M) → PassOf (BoardOf M) → KeptOf M
  kept_by studio pass = record { studio = studio; made = pass.made; joined = pass.joined }

  -- The library and the limits are those of the board that the studio started with.
  abbrev pub desk_at : TurnOf (BoardOf M) → PassOf (BoardOf M) → DeskOf M (KeptOf M)
  desk_at studio pass = record {
    fixed = record {
      number = pass.number;
      library = studio.start.library;
      cache = studio.start.cache;
      limit = studio.start.limit;
      kept = kept_by studio pass;
    };
    seen = pass.seen;
  }

  module _ {F : Type 0} (library : M → Library F) (studio : TurnOf (BoardOf M)) (pass : PassOf (BoardOf M)) where
    -- The pass is one of the studio and doesn't hold the turn. What it has seen is a legal journal within the limit, with all its own
    -- entries.
    pub record Knows : Type 0 where
      pub is_of : IsOf studio pass
      pub free : pass.holds ≡ false
      pub own : entries_of pass.number pass.seen ≡ pass.own
      pub known : IsDesk library (desk_at studio pass)

    -- The same of a pass that holds the turn with a board, whose whole journal it has seen.
    pub record Holds (held : Held (BoardOf M)) : Type 0 where
      pub is_of : IsOf studio pass
      pub holds : pass.holds ≡ true
      pub entered : entered_by held ≡ pass
      pub own : entries_of pass.number pass.seen ≡ pass.own
      pub known : IsDesk library (desk_at studio pass)
      pub journal : held.value.journal ≡ pass.seen
      pub fixed : (desk_of held.value).fixed ≡ (desk_of studio.start).fixed
