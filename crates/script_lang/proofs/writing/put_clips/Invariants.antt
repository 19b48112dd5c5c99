use Rattle.std.proofs.Common.{◌≡◌, ◌++◌, take, flat_map}
use Rattle.script_lang.specs.Writing.{ended_line, clip_words}
use Rattle.script_lang.proofs.writing.put_clips.Given as goal

abbrev pub invariant-loop-clip : goal.invariant-loop-clip
invariant-loop-clip l = l.out.items ≡ l.fn.out.items ++ flat_map (λ clip. ended_line (clip_words l.rate clip)) (take l.clip-index l.clips)
