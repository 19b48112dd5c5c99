-- How many entries the session of a script needs at most, with the workers that it has.
use Rattle.std.specs.Prelude.{ℕ, ◌+◌, ◌*◌, ◌-◌, Bool, true, false, List, length}
use Rattle.std.specs.List.{count_by, sum_by}
use Rattle.tl_model.specs.declared.journal.Act.{Act}
use Rattle.tl_model.specs.declared.journal.Act.TheVariants as act
use Rattle.script_lang.specs.declared.script.BodyLine.{BodyLine}
use Rattle.script_lang.specs.declared.script.Call.{Call}
use Rattle.script_lang.specs.declared.script.Call.TheVariants as call
use Rattle.play_head.specs.Roll.{roll_calls}

-- How many frames an act wants.
abbrev pub wanted_by : Act → ℕ
wanted_by (act.Want first len) = len
wanted_by other = 0

-- How many calls a line has, turns of work aside: those of a roll, and else one.
abbrev pub call_count : Call → ℕ
call_count (call.Roll first len) = length (roll_calls first len)
call_count other = 1

-- How many frames a line's calls want.
abbrev pub wanted : Call → ℕ
wanted (call.Want first len) = len
wanted (call.Roll first len) = sum_by wanted_by (roll_calls first len)
wanted other = 0

abbrev pub is_work : Call → Bool
is_work (call.Work turns) = true
is_work other = false

abbrev pub is_export : Call → Bool
is_export (call.Export file) = true
is_export other = false

-- How many workers there are among so many passes beside main's: all but the exporter. Where there is no pass, none.
abbrev pub workers_in : (others : ℕ) → ℕ
workers_in others = others - 1

-- The stop, the calls of the lines, for each frame that is wanted a claim and its end, for each worker and each line of work one more of
-- these, for a job that is given back, and for each export its take and its end.
abbrev pub room : (workers : ℕ) → List BodyLine → ℕ
room workers body = 1 + sum_by (λ line. call_count line.call) body + 2 * sum_by (λ line. wanted line.call) body
    + 2 * (workers + count_by (λ line. is_work line.call) body) + 2 * count_by (λ line. is_export line.call) body
