use Rattle.run_laws.proofs.NeverFull as laws
use Rattle.run_laws.proofs.never_full.Goals as goal

pub returns : goal.returns
returns c = laws.never_full
