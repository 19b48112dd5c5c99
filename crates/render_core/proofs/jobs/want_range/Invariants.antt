use Rattle.std.proofs.Common.{◌≡◌, ◌≤◌, ◌-◌, ◌+◌, take, drop, vec_len, vec_capacity}
use Rattle.tl_model.specs.Cells.{recipes}
use Rattle.render_core.specs.State.{range, want_all}
use Rattle.render_core.specs.Parts.{recipes_of}
use Rattle.render_core.proofs.jobs.want_range.Given as goal

abbrev pub invariant-loop-n : goal.invariant-loop-n
invariant-loop-n g l = record {
  room : vec_len l.jobs + ((l.first + l.len) - l.n) ≤ vec_capacity l.jobs;
  few : vec_len l.jobs + ((l.first + l.len) - l.n) ≤ vec_len l.fn.jobs + l.len;
  longer : vec_len l.fn.jobs ≤ vec_len l.jobs;
  left : want_all (recipes_of l.results) (take ((l.first + l.len) - l.n) (drop l.n (recipes (g.L.Lane.cells l.lane)))) l.jobs.items ≡ want_all (recipes_of l.results) (range l.first l.len (g.L.Lane.cells l.lane)) l.fn.jobs.items;
}
