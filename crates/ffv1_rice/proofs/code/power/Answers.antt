use Rattle.std.proofs.lemmas.Nat.{one_shl}
use Rattle.ffv1_rice.proofs.code.power.Goals as goal

pub returns : goal.returns
returns c = one_shl c.args.k 32 c.requires
