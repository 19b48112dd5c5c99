use Rattle.std.proofs.Common.{◌+◌, ◌<◌, arith, rules}
use Rattle.text_words.proofs.Writing.{put_step, put_none}
use Rattle.text_words.proofs.numbers.+put_number.Goals as goal
use Rattle.text_words.proofs.numbers.+put_number.Goals.{then-least-gt0-via-then-least-gt0, then-least-gt0-via-else-least-gt0+then-number-gt0}

pub returns-in_ok-push-clause-ok : goal.returns-in_ok-push-clause-ok
returns-in_ok-push-clause-ok t c =
    let some : 0 < c.args.least + c.args.number = elim c.then-least-gt0.branch [ then-least-gt0-via-then-least-gt0 w ↦ omega arith | then-least-gt0-via-else-least-gt0+then-number-gt0 w ↦ omega arith ] in
    put_step c.args.out.now.items c.put_number.new.out.items c.push.new.self.items c.args.least c.args.number c.saturating_sub.result some (search rules) c.in_ok-put_number.ensures.ok c.in_ok-push.ensures.items

pub returns-else-number-gt0-clause-ok : goal.returns-else-number-gt0-clause-ok
returns-else-number-gt0-clause-ok t c = put_none c.args.out.now.items c.args.least c.args.number c.if-least-gt0.false c.if-number-gt0.false
