use Rattle.std.proofs.Common.{sym, ◌∙◌}
use Rattle.ebml_core.proofs.Pieces.{same_fronts, same_readings}
use Rattle.ebml_core.proofs.laws.one_reading.Goals as goal

pub returns-clause-reading : goal.returns-clause-reading
returns-clause-reading c = λ bytes ps qs hp hq. same_readings ps qs hp.each hq.each (sym hp.whole ∙ hq.whole)

pub returns-clause-front : goal.returns-clause-front
returns-clause-front c = λ p q x y hp hq e. same_fronts p q x y hp hq e
