use Rattle.std.proofs.Common.{sym, ◌∙◌}
use Rattle.text_words.proofs.Lining.{lines-first_of, lines-last}
use Rattle.text_words.proofs.lines.next_line.Goals as goal

pub returns-in-Some-clause-some : goal.returns-in-Some-clause-some
returns-in-Some-clause-some c = lines-first_of c.args.text.now c.without_return.result.now c.in-Some.at (sym c.in-Some.ensures.exact) c.without_return.ensures

pub returns-in-None-clause-some : goal.returns-in-None-clause-some
returns-in-None-clause-some c = lines-last c.args.text.now (sym c.is_empty.ensures ∙ c.if-is_empty.false) (sym c.in-None.ensures.exact)
