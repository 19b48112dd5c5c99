use Rattle.std.proofs.Common.{rules}
use Rattle.turn_lock.proofs.Passing.{notes_ok}
use Rattle.turn_lock.proofs.Seen.{not_held}
use Rattle.turn_lock.proofs.turn.Turn.note.Goals as goal

pub split_seat-seat-requires : goal.split_seat-seat-requires
split_seat-seat-requires g c = (search rules, search rules, notes_ok _ _ _ _ c.pass.invariant.named (not_held _ _ _ _ _ c.pass.invariant c.pass.view_is c.requires.free))
