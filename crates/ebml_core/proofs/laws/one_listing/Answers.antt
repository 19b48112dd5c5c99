use Rattle.ebml_core.specs.Listing.{EndsWithParent, EndsBeforeNext}
use Rattle.ebml_core.proofs.Listings.{lists-one, exact-parent, listed}
use Rattle.ebml_core.proofs.Scans.{exact-next, listed_next}
use Rattle.ebml_core.proofs.laws.one_listing.Goals as goal

pub returns-clause-some : goal.returns-clause-some
returns-clause-some c = λ place text. listed place text

pub returns-clause-one : goal.returns-clause-one
returns-clause-one c = λ place text a b ha hb. lists-one EndsWithParent exact-parent a b place text ha hb

pub returns-clause-some_before : goal.returns-clause-some_before
returns-clause-some_before c = λ ids place text. listed_next ids place text

pub returns-clause-one_before : goal.returns-clause-one_before
returns-clause-one_before c = λ ids place text a b ha hb. lists-one (EndsBeforeNext ids) (exact-next ids) a b place text ha hb
