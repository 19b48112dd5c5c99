use Rattle.std.proofs.Common.{◌≡◌, ◌-◌, ℕ}
use Rattle.tl_model.specs.Cells.{run, cell_at, cells_of, recipe_of, recipes, is_among}
use Rattle.time_list.proofs.piece.uses.Given as goal

-- what is left of the segment is still to be searched
abbrev pub invariant-loop-n : goal.invariant-loop-n
invariant-loop-n l = is_among l.recipe (run (λ (k : ℕ). recipe_of (cell_at l.segment k)) l.n (l.segment.len - l.n)) ≡ is_among l.recipe (recipes (cells_of l.segment))
