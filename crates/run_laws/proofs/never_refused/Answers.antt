use Rattle.run_laws.proofs.NeverFull as laws
use Rattle.run_laws.proofs.never_refused.Goals as goal

pub returns : goal.returns
returns c = laws.never_refused
