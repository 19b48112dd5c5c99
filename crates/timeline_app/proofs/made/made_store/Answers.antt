use Rattle.std.proofs.Common.{refl}
use Rattle.timeline_app.proofs.MadeStore.{made_of}
use Rattle.timeline_app.proofs.made.made_store.Goals as goal

pub returns : goal.returns
returns c =
    made_of c.args.name.now c.args.frames c.in-Ok.generated.script.items c.in-Ok.generated.clip.items _ _ _ c.requires.named c.start-store.ensures
    c.in_ok-add.ensures.ok c.in_ok-add-2.ensures.ok c.in-Ok.ensures.0 c.in-Ok.ensures.1 refl
