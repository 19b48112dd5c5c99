use Rattle.std.proofs.Common.{◌≡◌, ◌<◌, ℕ, length, get_or}
use Rattle.work_gen.specs.Picture.{sample}
use Rattle.work_gen.proofs.pictures.fill.Given as goal

abbrev pub invariant-loop-x : goal.invariant-loop-x
invariant-loop-x l = record {
  len : length l.samples ≡ length l.initial.samples;
  each : (k : ℕ) → k < l.x → get_or l.samples k 0 ≡ sample l.plane k l.y l.frame;
}
