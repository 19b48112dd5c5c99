use Rattle.std.proofs.Common.{◌≡◌, ◌+◌, length}
use Rattle.studio.specs.Known.{Knows}
use Rattle.timeline_app.specs.Together.{AreReadyAs, IsFresh}
use Rattle.timeline_app.proofs.together.seat_workers.Given as goal

abbrev pub invariant-loop : goal.invariant-loop
invariant-loop g l = record {
  main : l.main ≡ record l.fn.main { made = 1 + l.counter };
  knows : Knows g.M.Media.library l.studio l.main;
  len : length l.seats.items ≡ l.counter;
  seats : AreReadyAs l.seats.items (λ number seat. (seat.studio.now ≡ l.studio) × IsFresh g.M.Media.library l.studio number seat.pass);
}
