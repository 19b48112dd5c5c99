use Rattle.std.proofs.Common.{ℕ, zero, suc, ◌<◌, replicate, arith}
use Rattle.std.specs.Prelude.{slice_index}
use Rattle.codec_tests.proofs.rice.a_run_goes_on.Goals as goal

zeros_below : (n k : ℕ) → slice_index (replicate n 0) k < 1
zeros_below zero k = omega arith
zeros_below (suc n) zero = omega arith
zeros_below (suc n) (suc k) = zeros_below n k

pub line-requires-clause-contexts : goal.line-requires-clause-contexts
line-requires-clause-contexts g c k h = zeros_below 300 k

pub line-requires-2-clause-contexts : goal.line-requires-2-clause-contexts
line-requires-2-clause-contexts g c k h = zeros_below 3 k
