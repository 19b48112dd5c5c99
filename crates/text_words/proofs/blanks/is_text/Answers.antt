use Rattle.std.proofs.Common.{◌∙◌}
use Rattle.text_words.proofs.Utf8.{tested_by}
use Rattle.text_words.proofs.blanks.is_text.Goals as goal

pub returns : goal.returns
returns c = c.is_ok.ensures.value ∙ tested_by _ _ c.args.bytes.now c.from_utf8.result c.from_utf8.ensures.cases
