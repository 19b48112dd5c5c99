use Rattle.ffv1_frame.proofs.Writings.{writing_exists, one_writing}
use Rattle.ffv1_frame.proofs.written.writes_one_packet.Goals as goal

pub returns-clause-exists : goal.returns-clause-exists
returns-clause-exists c = writing_exists

pub returns-clause-one : goal.returns-clause-one
returns-clause-one c = one_writing
