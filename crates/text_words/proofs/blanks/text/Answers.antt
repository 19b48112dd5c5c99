use Rattle.std.proofs.Common.{ap, ◌∙◌, Some}
use Rattle.text_words.proofs.Utf8.{text-utf8, text-other}
use Rattle.text_words.proofs.blanks.text.Goals as goal

pub returns-in-Ok : goal.returns-in-Ok
returns-in-Ok c = ap Some c.in-Ok.ensures.cases.0 ∙ text-utf8 c.args.bytes.now c.in-Ok.ensures.cases.1

pub returns-in-Err : goal.returns-in-Err
returns-in-Err c = text-other c.args.bytes.now c.in-Err.ensures.cases.0
