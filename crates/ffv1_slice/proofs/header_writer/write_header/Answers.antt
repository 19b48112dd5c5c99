-- The set that the numbers are written with is fresh.
use Rattle.std.proofs.Common.{ℕ, List, [], ◌∷◌, ◌∙◌, ap}
use Rattle.ffv1_slice.specs.Header.{Numbering, numbering, with_numbers}
use Rattle.ffv1_slice.proofs.header_writer.write_header.Goals as goal

pub returns-clause-ok : goal.returns-clause-ok
returns-clause-ok c =
    let numbers : List ℕ = c.args.x ∷ c.args.y ∷ 0 ∷ 0 ∷ 0 ∷ 0 ∷ 0 ∷ 0 ∷ 0 ∷ [] in
    ap (λ (n : Numbering). n.writing) c.in_ok-write_numbers.ensures.ok ∙ ap (λ (set : List ℕ). (with_numbers (numbering c.args.writer.now set) numbers).writing) c.fresh-set.ensures
