use Rattle.ebml_core.specs.Listing.{EndsWithParent, EndsBeforeNext}
use Rattle.ebml_core.proofs.Knowns.{holds-lists, lists-holds}
use Rattle.ebml_core.proofs.laws.known_is_spelled.Goals as goal

pub returns-clause-listed : goal.returns-clause-listed
returns-clause-listed c = λ bytes from to es holds. holds-lists EndsWithParent bytes from to es holds

pub returns-clause-spelled : goal.returns-clause-spelled
returns-clause-spelled c = λ bytes from to es known h. lists-holds EndsWithParent bytes from to es known h

pub returns-clause-listed_before : goal.returns-clause-listed_before
returns-clause-listed_before c = λ ids bytes from to es holds. holds-lists (EndsBeforeNext ids) bytes from to es holds

pub returns-clause-spelled_before : goal.returns-clause-spelled_before
returns-clause-spelled_before c = λ ids bytes from to es known h. lists-holds (EndsBeforeNext ids) bytes from to es known h
