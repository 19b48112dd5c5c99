use Rattle.ffv1_frame.proofs.frame.uncovered.Goals as goal

pub returns : goal.returns
returns c = rw (← c.columns.ensures.columns, ← c.rows.ensures.rows) c.first_uncovered.ensures
