use Rattle.std.proofs.Common.{◌≡◌, List, Result, Ok, Err, refl, sym, subst}
use Rattle.tl_model.specs.Media.{Library}
use Rattle.tl_model.specs.Cells.{Cell}
use Rattle.tl_model.specs.Sound.{IsSound}
use Rattle.tl_model.specs.declared.edit.EditRefusal.{EditRefusal}
use Rattle.time_list.specs.Apply.{apply, Applies}
use Rattle.time_list.specs.Patch.{PatchOf}
use Rattle.time_list.specs.declared.lane.ApplyFault.{ApplyFault}
use Rattle.time_list.specs.declared.lane.ApplyFault.TheVariants as fault
use Rattle.export_tests.proofs.exporting.make.Goals as goal

-- An edit that keeps a timeline sound leaves it sound, whatever it answers.
still-sound : {F : Type 0} (lib : Library F) (outcome : Result (List Cell) EditRefusal) (old new : List Cell) (told : Result PatchOf ApplyFault)
    → ((after : List Cell) → outcome ≡ Ok after → IsSound lib after) → IsSound lib old → Applies outcome old new told → IsSound lib new
still-sound lib (Ok after) old new (Ok patch) keeps sound made = subst (IsSound lib) (sym made.0) (keeps after refl)
still-sound lib (Err why) old new (Ok patch) keeps sound made = absurd made
still-sound lib (Ok after) old new (Err (fault.Refused given)) keeps sound made = absurd made
still-sound lib (Err why) old new (Err (fault.Refused given)) keeps sound made = subst (IsSound lib) (sym made.1) sound
still-sound lib (Ok after) old new (Err fault.NoMemory) keeps sound made = subst (IsSound lib) (sym made) sound
still-sound lib (Err why) old new (Err fault.NoMemory) keeps sound made = subst (IsSound lib) (sym made) sound

pub returns-in_err-apply : goal.returns-in_err-apply
returns-in_err-apply g c =
    still-sound (g.M.Media.library c.args.media.now) (apply (g.M.Media.library c.args.media.now) c.args.edit.now c.args.lane.now) c.args.lane.now
    c.apply.new.self c.apply.result (λ after. c.keeps_sound.ensures c.args.lane.now after c.requires) c.requires c.apply.ensures

pub returns : goal.returns
returns g c =
    still-sound (g.M.Media.library c.args.media.now) (apply (g.M.Media.library c.args.media.now) c.args.edit.now c.args.lane.now) c.args.lane.now
    c.apply.new.self c.apply.result (λ after. c.keeps_sound.ensures c.args.lane.now after c.requires) c.requires c.apply.ensures
