use Rattle.studio.proofs.Meeting.{meet_told}
use Rattle.studio.proofs.studio.Studio.meet.Goals as goal

pub returns-clause-b_told : goal.returns-clause-b_told
returns-clause-b_told g c =
    meet_told c.args.a.now c.args.b.now c.take_note.new.pass c.note-of_b.new.pass c.take_note-2.new.pass c.note-of_b.result c.note-of_a.result c.note-of_b.ensures.same c.note-of_b.ensures.given c.take_note.ensures.told c.take_note.ensures.extends.1 c.note-of_a.ensures.given c.take_note-2.ensures.told
