use Rattle.play_head.proofs.Stopping.{screen-listed, memory-listed, full-listed}
use Rattle.play_head.proofs.ending.stop_line.Goals as goal

pub returns-in-Screen-clause-listed : goal.returns-in-Screen-clause-listed
returns-in-Screen-clause-listed c = screen-listed

pub returns-in-NoMemory-clause-listed : goal.returns-in-NoMemory-clause-listed
returns-in-NoMemory-clause-listed c = memory-listed

pub returns-in-JournalFull-clause-listed : goal.returns-in-JournalFull-clause-listed
returns-in-JournalFull-clause-listed c = full-listed c.in-JournalFull.len c.in-JournalFull.owed
