use Rattle.std.proofs.Common.{◌∙◌}
use Rattle.clip_store.proofs.Gaining.{keeps}
use Rattle.clip_store.proofs.shelf.Shelf.put.Goals as goal

pub invariant_of-self-2 : goal.invariant_of-self-2
invariant_of-self-2 c = keeps _ _ _ _ _ _ _ c.self.view_is c.clip.view_is c.in_ok-push.ensures.items c.self.invariant.0 c.self.invariant.1 c.requires.clip c.requires.room (c.len-len.ensures ∙ c.clip.inside.bytes.ok.0)
