use Rattle.std.proofs.Common.{◌≡◌, ◌∙◌}
use Rattle.std.specs.Str.{bytes_eq}
use Rattle.script_lang.specs.State.{has_word}
use Rattle.script_lang.proofs.Keeping.{or_cond}
use Rattle.script_lang.proofs.state.put_word.Goals as goal

pub returns : goal.returns
returns c = λ other. c.in_ok-insert.ensures.updates.0 (record { ref_ptr = (0, 0); now = other }) ∙ or_cond (bytes_eq c.args.word.now other) (has_word c.args.set.now other)
