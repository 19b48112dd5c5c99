-- The desk of a part.
use Rattle.studio.specs.Known.{KeptOf, AtPassOf, desk_at}
use Rattle.edit_desk.specs.Desk.{DeskOf}

-- What a part works over, as a desk.
abbrev pub desk_in : {M : Type 0} → AtPassOf M → DeskOf M (KeptOf M)
desk_in at = desk_at at.studio at.pass
