use Rattle.std.proofs.Common.{◌++◌, List, ℕ, ap, ◌∙◌}
use Rattle.mkv_write.proofs.Octets.{range-bytes_high_first}
use Rattle.mkv_write.proofs.element.put_octets.Goals as goal

pub returns-clause-ok : goal.returns-clause-ok
returns-clause-ok c =
    let b = c.to_be_bytes-bytes.ensures in
    c.in_ok-extend_from_slice.ensures.items ∙ ap (λ (x : List ℕ). c.args.out.now.items ++ x) (rw b (range-bytes_high_first 8 c.args.octets c.args.value c.requires))
