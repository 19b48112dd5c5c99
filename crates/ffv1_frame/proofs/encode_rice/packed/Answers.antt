use Rattle.std.proofs.Common.{ℕ, List, ◌≡◌, sym, subst, ap, ◌∙◌}
use Rattle.ffv1_rice.specs.Bits.{bits_of_bytes}
use Rattle.ffv1_frame.proofs.encode_rice.packed.Goals as goal

pub returns : goal.returns
returns c = sym c.as_slice.ensures.value ∙ c.spells_packed.ensures c.args.bits (ap bits_of_bytes c.as_slice.ensures.value ∙ c.finish-bytes.ensures)
