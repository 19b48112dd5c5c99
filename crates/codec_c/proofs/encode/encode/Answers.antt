use Rattle.codec_c.specs.Call.{call}
use Rattle.codec_c.proofs.Refused.{no_encoding}
use Rattle.codec_c.proofs.encode.encode.Goals as goal

pub returns-in-Err : goal.returns-in-Err
returns-in-Err c = no_encoding (call c.args.record.now c.args.width c.args.height) c.args.samples.now c.args.packet.now c.in-Err.answer c.in-Err.ensures.err
