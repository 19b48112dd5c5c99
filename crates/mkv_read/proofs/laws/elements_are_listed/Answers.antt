use Rattle.mkv_read.proofs.Listing.{elements-listed, elements-only}
use Rattle.mkv_read.proofs.laws.elements_are_listed.Goals as goal

pub returns-clause-listed : goal.returns-clause-listed
returns-clause-listed c = λ bytes from to. elements-listed bytes from to

pub returns-clause-only : goal.returns-clause-only
returns-clause-only c = λ bytes from to listing h. elements-only bytes from to listing h
