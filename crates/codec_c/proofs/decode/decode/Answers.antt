use Rattle.codec_c.specs.Call.{call}
use Rattle.codec_c.proofs.Refused.{no_decoding}
use Rattle.codec_c.proofs.decode.decode.Goals as goal

pub returns-in-Err : goal.returns-in-Err
returns-in-Err c = no_decoding (call c.args.record.now c.args.width c.args.height) c.args.packet.now c.args.samples.now c.in-Err.answer c.in-Err.ensures.err
