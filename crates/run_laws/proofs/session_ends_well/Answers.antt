use Rattle.run_laws.proofs.EndsWell as laws
use Rattle.run_laws.proofs.session_ends_well.Goals as goal

pub returns : goal.returns
returns c = laws.session_ends_well
