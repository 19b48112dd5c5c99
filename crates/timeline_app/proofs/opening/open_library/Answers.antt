use Rattle.std.proofs.Common.{sym, subst}
use Rattle.clip_store.specs.declared.format.Format.{Format}
use Rattle.clip_store.specs.Readying.{IsFormat}
use Rattle.timeline_app.specs.Session.{fetched_by}
use Rattle.timeline_app.proofs.Formats.{asked_sound, format_sound, shelf_count}
use Rattle.timeline_app.proofs.opening.open_library.Goals as goal

pub format_for-format-requires-clause-sound : goal.format_for-format-requires-clause-sound
format_for-format-requires-clause-sound g c =
    asked_sound c.in_ok-script.script c.as_slice.result.now c.in-Ok.clips c.in_ok-script.ensures.sound c.as_slice.ensures c.in-Ok.ensures

pub ready-requires : goal.ready-requires
ready-requires g c =
    let asked = asked_sound c.in_ok-script.script c.as_slice.result.now c.in-Ok.clips c.in_ok-script.ensures.sound c.as_slice.ensures c.in-Ok.ensures in
    let count = shelf_count c.in_ok-script.script c.as_slice.result.now c.in-Ok.clips c.in_ok-script.shelf
    (fetched_by g.T.Store.tells (g.T.Store.seen c.args.store.now) (g.T.Store.seen c.open.new.store)) c.as_slice.ensures c.in-Ok.ensures
    c.in_ok-script.ensures.opens.1 in
    subst (λ (asked : Format). IsFormat c.in_ok-script.shelf asked) (sym c.format_for-format.ensures)
    (format_sound c.in-Ok.clips c.in_ok-script.shelf c.in_ok-script.script.format asked count)
