use Rattle.std.proofs.Common.{◌∙◌, sym, arith, rules}
use Rattle.text_words.proofs.Trimming.{trailing-blank_at, trailing-other_at}
use Rattle.text_words.proofs.blanks.without_trailing.Goals as goal

pub loop-kept-preserved : goal.loop-kept-preserved
loop-kept-preserved c = trailing-blank_at c.args.blanks c.loop-kept.kept.now (omega arith) (search rules) ∙ c.loop-kept.invariant

pub returns-then-not-is_blank : goal.returns-then-not-is_blank
returns-then-not-is_blank c = sym (trailing-other_at c.args.blanks c.loop-kept.kept.now (omega arith) (search rules)) ∙ c.loop-kept.invariant
