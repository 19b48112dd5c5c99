use Rattle.std.proofs.Common.{◌≡◌, ◌++◌, take, flat_map}
use Rattle.script_lang.specs.Writing.{ended_line, call_words}
use Rattle.script_lang.proofs.writing.put_body.Given as goal

abbrev pub invariant-loop-line : goal.invariant-loop-line
invariant-loop-line l = l.out.items ≡ l.fn.out.items ++ flat_map (λ line. ended_line (call_words line.call)) (take l.line-index l.lines)
