use Rattle.std.proofs.Common.{◌≡◌, ◌-◌, ◌≤◌}
use Rattle.ebml_core.specs.Listing.{Listing}
use Rattle.ebml_core.specs.Walking.{HasAhead}
use Rattle.ebml_core.proofs.Scans.{end_before}
use Rattle.ebml_core.proofs.walker.Walker.end_before.Given as goal

abbrev pub invariant-loop-element : goal.invariant-loop-element
invariant-loop-element l = record {
  same : (later : Listing) → HasAhead l.self later → (listing : Listing) × HasAhead l.initial.self listing × (end_before l.ids l.self.end later ≡ end_before l.ids l.initial.self.end listing);
  bytes : l.self.bytes ≡ l.initial.self.bytes;
  end : l.self.end ≡ l.initial.self.end;
  place : l.initial.self.place ≤ l.self.place;
}

abbrev pub decreases-loop-element : goal.decreases-loop-element
decreases-loop-element l = l.self.end - l.self.place
