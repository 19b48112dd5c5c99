use Rattle.std.proofs.Common.{◌≡◌, ◌-◌, ◌≤◌}
use Rattle.mkv_read.specs.Elements.{elements, first_where}
use Rattle.mkv_read.specs.Tracks.{is_wanted}
use Rattle.mkv_read.proofs.track.first_entry.Given as goal

abbrev pub invariant-loop-element : goal.invariant-loop-element
invariant-loop-element l = record {
  same : first_where (is_wanted l.bytes l.ffv1) (elements l.bytes l.place l.tracks.end) ≡ first_where (is_wanted l.bytes l.ffv1) (elements l.bytes l.tracks.content l.tracks.end);
  order : l.place ≤ l.tracks.end;
}

abbrev pub decreases-loop-element : goal.decreases-loop-element
decreases-loop-element l = l.tracks.end - l.place
