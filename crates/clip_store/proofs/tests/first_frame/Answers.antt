use Rattle.std.proofs.Common.{◌≡◌, Ok, sym, ◌∙◌, ap, rules}
use Rattle.tl_model.specs.declared.recipe.Recipe.TheVariants as recipe
use Rattle.tl_model.specs.Media.{CanRender, outcome_of}
use Rattle.clip_store.specs.Render.{library_of, render}
use Rattle.clip_store.proofs.tests.first_frame.Goals as goal

pub encode-requires : goal.encode-requires
encode-requires c =
    let can : CanRender (library_of c.args.library.now) (recipe.Source 0 0) = search rules in
    let rendered : render c.args.library.now (recipe.Source 0 0) ≡ Ok c.deref-in-Ok.result.now =
    sym c.in-Ok-Frame.ensures ∙ ap outcome_of c.in-Ok-Frame.field-0-is ∙ ap Ok (sym c.deref-in-Ok.ensures) in
    c.lawful.ensures.shaped (recipe.Source 0 0) c.deref-in-Ok.result.now can rendered
