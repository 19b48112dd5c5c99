use Rattle.run_laws.proofs.NeverFull as laws
use Rattle.run_laws.proofs.session_never_full.Goals as goal

pub returns : goal.returns
returns c = laws.session_never_full
