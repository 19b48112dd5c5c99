use Rattle.std.proofs.Common.{sym, ◌∙◌}
use Rattle.clip_store.proofs.Lawful.{shape_shown}
use Rattle.clip_store.proofs.library.Library.mixed.Goals as goal

pub blend-requires : goal.blend-requires
blend-requires c =
    shape_shown c.args.self.now c.args.to c.in-Ok-2.to c.requires.to (sym c.in_ok-fault-in-Ok.ensures ∙ c.in-Ok-2.is)
    ∙ sym (shape_shown c.args.self.now c.args.from c.in-Ok.from c.requires.from (sym c.in_ok-fault.ensures ∙ c.in-Ok.is))
