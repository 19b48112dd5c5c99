use Rattle.std.proofs.Common.{inr}
use Rattle.edit_desk.proofs.Heard.{hears_enters}
use Rattle.play_head.proofs.work.give_back.Goals as goal

pub returns-in-Released : goal.returns-in-Released
returns-in-Released g c = hears_enters _ _ _ _ _ c.in-Released.ensures

pub returns-in-Closed : goal.returns-in-Closed
returns-in-Closed g c = (c.in-Closed.at, inr (hears_enters _ _ _ _ _ c.in-Closed.ensures))
