use Rattle.ffv1_range.proofs.Part.{is_read_back}
use Rattle.ffv1_range.proofs.writer.RangeWriter.finish.Goals as goal

pub returns-clause-read_back : goal.returns-clause-read_back
returns-clause-read_back c = is_read_back c.args.sentinel c.args.self c.in_ok-bytes.bytes.items c.in_ok-bytes.ensures
