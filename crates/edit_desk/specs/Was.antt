-- What held in some state between two calls of a caller.
use Rattle.std.specs.Prelude.{◌≡◌, List, ◌++◌}
use Rattle.tl_model.specs.Media.{Library}
use Rattle.tl_model.specs.declared.journal.Entry.{Entry}
use Rattle.render_core.specs.Calls.{CallOf}
use Rattle.render_core.specs.State.{State}
use Rattle.edit_desk.specs.Desk.{DeskOf, state_of, heard}

module _ {M K F : Type 0} where
  -- After some front of what the caller has seen this held, and of its own calls the front has these.
  pub record Was (library : M → Library F) (d : DeskOf M K) (calls : List (CallOf F)) (fact : State → Type 0) : Type 0 where
    pub front : List Entry
    pub rest : List Entry
    pub seen : d.seen ≡ front ++ rest
    pub heard : heard library (record d { seen = front }) ≡ calls
    pub holds : fact (state_of library (record d { seen = front }))
