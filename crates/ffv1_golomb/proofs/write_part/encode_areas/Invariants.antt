use Rattle.ffv1_golomb.specs.Writing.{encoding, WritesArea}
use Rattle.ffv1_golomb.specs.Gathered.{SameRoom}
use Rattle.ffv1_golomb.proofs.TurnSteps.{AreLeft}
use Rattle.ffv1_golomb.proofs.write_part.encode_areas.Given as goal

abbrev pub invariant-loop-area : goal.invariant-loop-area
invariant-loop-area l = record {
  left : AreLeft (WritesArea l.tables l.picture) (λ area e. ⊥) l.areas l.area-index (encoding l.initial.states l.initial.bits) (encoding l.states l.bits);
  room : SameRoom l.initial.line l.line;
}
