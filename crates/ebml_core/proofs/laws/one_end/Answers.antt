use Rattle.ebml_core.proofs.Listings.{listed}
use Rattle.ebml_core.proofs.Scans.{parted, exact-before}
use Rattle.ebml_core.proofs.laws.one_end.Goals as goal

pub returns-clause-some : goal.returns-clause-some
returns-clause-some c = λ ids place text.
    let all = listed place text in
    let s = parted ids all.0 place text all.1 in
    (s.content, s.rest, s.whole, s.ended)

pub returns-clause-one : goal.returns-clause-one
returns-clause-one c = λ ids place x y v w same first second. exact-before ids place x y v w same first second
