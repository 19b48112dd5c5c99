use Rattle.std.proofs.Common.{refl, sym, ◌∙◌}
use Rattle.time_list.proofs.Replacing.{replaced_is, four_clear}
use Rattle.time_list.proofs.replace.replace.Goals as goal

pub returns-in-Ok : goal.returns-in-Ok
returns-in-Ok g c =
    let long = sym c.has_long_mix.ensures ∙ c.if-has_long_mix.false in (
      four_clear _ _ _ _ (sym c.look-found.ensures.no_clip ∙ c.if-found.false) (sym c.look-found.ensures.differs ∙ c.if-found-2.false) (sym c.look-found.ensures.late ∙ c.if-found-3.false) long,
      replaced_is c.args.items.now c.args.segments.now _ c.requires long refl refl refl c.in-Ok.ensures.items,
    )
