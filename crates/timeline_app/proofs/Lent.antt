-- What was lent to the parts of a session is given back as they left it.
use Rattle.std.proofs.Common.{◌≡◌, sym, ap, subst, ◌∙◌}
use Rattle.tl_ports.specs.Seen.{Outside, SinkSeen, StoreSeen, VaultSeen}
use Rattle.turn_lock.specs.Passes.{TurnOf, PassOf}
use Rattle.render_core.specs.Board.{BoardOf}
use Rattle.play_head.specs.declared.ending.Playback.{Playback}
use Rattle.timeline_app.specs.Course.{Program}
use Rattle.timeline_app.specs.Together.{MainOf, WorkTogether}

outside_is : (new : Outside) (store : StoreSeen) (vault : VaultSeen) (screen out : SinkSeen) → new.store ≡ store → new.vault ≡ vault → new.screen ≡ screen → new.out ≡ out
    → new ≡ record { store = store; vault = vault; screen = screen; out = out }
outside_is new store vault screen out e f g h =
    ap (λ (s : StoreSeen). record { store = s; vault = new.vault; screen = new.screen; out = new.out }) e
    ∙ ap (λ (v : VaultSeen). record { store = store; vault = v; screen = new.screen; out = new.out }) f
    ∙ ap (λ (k : SinkSeen). record { store = store; vault = vault; screen = k; out = new.out }) g
    ∙ ap (λ (k : SinkSeen). record { store = store; vault = vault; screen = screen; out = k }) h

pub work_by : {M F : Type 0} (p : Program M F) (studio : TurnOf (BoardOf M)) (old : MainOf M) (new : Outside) (left : PassOf (BoardOf M) × PassOf (BoardOf M) × Playback) (store : StoreSeen) (vault : VaultSeen) (screen out : SinkSeen)
    → new.store ≡ store → new.vault ≡ vault → new.screen ≡ screen → new.out ≡ out
    → WorkTogether p studio old (record { store = store; vault = vault; screen = screen; out = out }) left → WorkTogether p studio old new left
work_by p studio old new left store vault screen out e f g h work =
    subst (λ (o : Outside). WorkTogether p studio old o left) (sym (outside_is new store vault screen out e f g h)) work
