use Rattle.std.proofs.Common.{◌≡◌}
use Rattle.script_lang.specs.ScriptText.{names}
use Rattle.script_lang.specs.State.{begun}
use Rattle.script_lang.proofs.header.format_of.Goals as goal

pub returns-in_ok-own_format-in_default-clause-sound : goal.returns-in_ok-own_format-in_default-clause-sound
returns-in_ok-own_format-in_default-clause-sound c = c.in_ok-own_format-in_default.ensures.sound (names (begun c.args.state.now))
