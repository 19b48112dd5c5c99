use Rattle.std.proofs.Common.{List, ap, ◌∙◌, ◌++◌, ◌∷◌, [], refl}
use Rattle.time_list.specs.Apply.{apply}
use Rattle.time_list.specs.Patch.{PatchOf}
use Rattle.edit_undo.proofs.Applied.{AreStacks-made, Makes-made, AreStacks-refused, Makes-refused}
use Rattle.edit_undo.proofs.editor.Editor.apply.Goals as goal

pub invariant_of-self-in-Ok : goal.invariant_of-self-in-Ok
invariant_of-self-in-Ok g c =
    AreStacks-made (apply (g.M.Media.library c.args.media.now) c.args.edit.now (g.L.Lane.cells c.self.inside.lane)) (record { line = g.L.Lane.cells c.self.inside.lane; undos = c.self.inside.undos.items; redos = c.self.inside.redos.items }) (record { line = g.L.Lane.cells c.apply.new.self; undos = c.push_reserved.new.self.items; redos = c.clear.new.self.items }) c.in-Ok.patch c.in-Ok.ensures
    (c.push_reserved.ensures.items ∙ ap (λ (ps : List PatchOf). ps ++ c.in-Ok.patch ∷ []) c.reserve.ensures.items) c.clear.ensures.items c.self.invariant

pub invariant_of-self-in-Err-Refused : goal.invariant_of-self-in-Err-Refused
invariant_of-self-in-Err-Refused g c =
    AreStacks-refused (apply (g.M.Media.library c.args.media.now) c.args.edit.now (g.L.Lane.cells c.self.inside.lane)) (record { line = g.L.Lane.cells c.self.inside.lane; undos = c.self.inside.undos.items; redos = c.self.inside.redos.items }) (record { line = g.L.Lane.cells c.apply.new.self; undos = c.reserve.new.self.items; redos = c.self.inside.redos.items }) c.in-Err-Refused.why (rw c.in-Err-Refused.field-0-is at c.in-Err-Refused.ensures) c.reserve.ensures.items refl c.self.invariant

pub returns-in-Ok : goal.returns-in-Ok
returns-in-Ok g c =
    Makes-made (apply (g.M.Media.library c.args.media.now) c.args.edit.now) (record { line = g.L.Lane.cells c.self.inside.lane; undos = c.self.inside.undos.items; redos = c.self.inside.redos.items }) (record { line = g.L.Lane.cells c.apply.new.self; undos = c.push_reserved.new.self.items; redos = c.clear.new.self.items }) c.args.self.now c.in-Ok.patch c.frames.result c.self.view_is c.in-Ok.ensures
    (c.push_reserved.ensures.items ∙ ap (λ (ps : List PatchOf). ps ++ c.in-Ok.patch ∷ []) c.reserve.ensures.items) c.clear.ensures.items c.frames.ensures

pub returns-in-Err-Refused : goal.returns-in-Err-Refused
returns-in-Err-Refused g c =
    Makes-refused (apply (g.M.Media.library c.args.media.now) c.args.edit.now) (record { line = g.L.Lane.cells c.self.inside.lane; undos = c.self.inside.undos.items; redos = c.self.inside.redos.items }) (record { line = g.L.Lane.cells c.apply.new.self; undos = c.reserve.new.self.items; redos = c.self.inside.redos.items }) c.args.self.now c.in-Err-Refused.why c.self.view_is (rw c.in-Err-Refused.field-0-is at c.in-Err-Refused.ensures) c.reserve.ensures.items refl
