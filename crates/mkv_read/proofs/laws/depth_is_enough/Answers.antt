use Rattle.mkv_read.proofs.Depths.{fault_in-more, blocks_in-more}
use Rattle.mkv_read.proofs.laws.depth_is_enough.Goals as goal

pub returns-clause-fault : goal.returns-clause-fault
returns-clause-fault c = λ more bytes es. fault_in-more more bytes es

pub returns-clause-blocks : goal.returns-clause-blocks
returns-clause-blocks c = λ more bytes track time es. blocks_in-more more bytes track time es
