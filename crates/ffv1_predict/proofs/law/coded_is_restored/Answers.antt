use Rattle.ffv1_predict.proofs.Restoring.{restored_back}
use Rattle.ffv1_predict.proofs.law.coded_is_restored.Goals as goal

pub returns : goal.returns
returns c = restored_back
