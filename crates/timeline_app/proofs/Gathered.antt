-- Main played a script beside its crew, and joined them.
use Rattle.std.proofs.Common.{◌≡◌, ℕ, ◌≤◌, ap, subst, ◌∙◌}
use Rattle.tl_model.specs.Media.{Library}
use Rattle.tl_ports.specs.Seen.{Outside}
use Rattle.turn_lock.specs.Passes.{TurnOf, PassOf}
use Rattle.render_core.specs.Board.{BoardOf}
use Rattle.play_head.specs.declared.ending.Playback.{Playback}
use Rattle.crew.specs.Joining.{HasIn, Stays}
use Rattle.crew.specs.Scripts.{PlaysAndStops}
use Rattle.crew.proofs.Joins.{has_still, stays_then}
use Rattle.timeline_app.specs.Course.{Program}
use Rattle.timeline_app.specs.Together.{HasWorked, PlaysTogether, WorkTogether, player_at}

module _ {M F : Type 0} (p : Program M F) (studio : TurnOf (BoardOf M)) where
  pub played_together : (first seated joined last : PassOf (BoardOf M)) (old new : Outside) (left : PassOf (BoardOf M) × PassOf (BoardOf M) × Playback)
      → seated ≡ record first { made = p.others } → WorkTogether p studio (record { pass = seated; seen = old }) new left
      → Stays p.setting.library studio left.1 joined → HasIn joined left.0 → Stays p.setting.library studio joined last
      → ((number : ℕ) → 2 ≤ number → number ≤ p.others → HasWorked p.setting.library studio last number)
      → PlaysTogether p studio (record { pass = first; seen = old }) (record { pass = last; seen = new }) (left.2.result, left.2.is_silenced)
  played_together first seated joined last old new left seats work one has others workers = record {
    stopped = left.1;
    plays = subst (λ (x : PassOf (BoardOf M)). PlaysAndStops p.setting (player_at p studio (record { pass = x; seen = old })) (player_at p studio (record { pass = left.1; seen = new })) p.body (left.2.result, left.2.is_silenced))
        seats work.plays;
    stays = stays_then p.setting.library studio left.1 joined last one others;
    knows = work.main.knows;
    early = work.early;
    exports = (left.0, work.exports, has_still p.setting.library studio joined last left.0 others has);
    carries = work.carries;
    workers = workers;
    number = others.number ∙ one.number ∙ work.main.number ∙ ap (λ (x : PassOf (BoardOf M)). x.number) seats;
    made = others.made ∙ one.made ∙ work.main.made ∙ ap (λ (x : PassOf (BoardOf M)). x.made) seats;
    idle = work.idle;
  }
