use Rattle.std.proofs.Common.{◌≤◌, ◌+◌, Option, ℕ, ap, refl, subst, sym, ◌∙◌, arith, length}
use Rattle.std.specs.Prelude.{slice_get, vec_len, vec_capacity}
use Rattle.tl_model.specs.Cells.{cells}
use Rattle.tl_model.specs.declared.journal.Act.TheVariants as act
use Rattle.render_core.specs.Step.{after_take}
use Rattle.render_core.specs.Parts.{MachineOf, in_state}
use Rattle.render_core.specs.State.{State, HoldsExport}
use Rattle.render_core.specs.Board.{IsBoard, of_take}
use Rattle.render_core.proofs.Ends.{took_holds, take_told}
use Rattle.render_core.proofs.Grows.{was_owed, grown_owed, pays, some_of}
use Rattle.render_core.proofs.board.Board.take_export.Goals as goal

pub push_reserved-requires : goal.push_reserved-requires
push_reserved-requires g c =
    let some = was_owed g.M.Media.library c.self.inside.machine 0 c.args.by act.Take c.self.inside.journal.items c.self.inside.limit c.self.inside.owed (vec_capacity c.self.inside.journal) c.self.invariant (some_of _ c.in-Some.place (sym c.in-Some.ensures)) refl in
    let kept : length c.self.inside.journal.items + c.self.inside.owed ≤ vec_capacity c.self.inside.journal = c.self.invariant.kept in
    omega (arith, some, kept, c.self.inside.journal.ok.0)

pub overflow_sub-self : goal.overflow_sub-self
overflow_sub-self g c =
    was_owed g.M.Media.library c.self.inside.machine 0 c.args.by act.Take c.self.inside.journal.items c.self.inside.limit c.self.inside.owed (vec_capacity c.self.inside.journal) c.self.invariant (some_of _ c.in-Some.place (sym c.in-Some.ensures)) refl

pub invariant_of-self : goal.invariant_of-self
invariant_of-self g c =
    let m = c.self.inside.machine in
    let found = sym c.in-Some.ensures in
    let turn = c.take-job.ensures.state ∙ ap (λ (o : Option ℕ). in_state (after_take c.args.by o m.state) m) (sym found) in
    grown_owed g.M.Media.library m c.take-job.new.self (length c.self.inside.journal.items + 1) c.args.by act.Take c.self.inside.journal.items c.push_reserved.new.self.items c.self.inside.limit c.self.inside.owed (vec_capacity c.self.inside.journal) (vec_capacity c.push_reserved.new.self)
    c.self.invariant (some_of _ c.in-Some.place found) refl refl turn c.push_reserved.ensures.items c.push_reserved.ensures.capacity

pub returns-clause-done : goal.returns-clause-done
returns-clause-done g c =
    let m = c.self.inside.machine in
    let found = sym c.in-Some.ensures in
    let turn = c.take-job.ensures.state ∙ ap (λ (o : Option ℕ). in_state (after_take c.args.by o m.state) m) (sym found) in
    let some = was_owed g.M.Media.library m 0 c.args.by act.Take c.self.inside.journal.items c.self.inside.limit c.self.inside.owed (vec_capacity c.self.inside.journal) c.self.invariant (some_of _ c.in-Some.place found) refl in
    let told = take_told {F = g.row.M-Frame.Denot} m.state c.in-Some.place c.take-job.result.export c.take-job.result.name (cells c.take-job.result.segments) found c.take-job.ensures.number c.take-job.ensures.parts in
    pays g.M.Media.library c.args.self.now m c.take-job.new.self (length c.self.inside.journal.items + 1) (record { pass = c.args.by; act = act.Take; view = of_take }) c.self.inside.journal.items c.push_reserved.new.self.items c.self.inside.limit c.self.inside.owed (vec_len c.self.inside.journal) (vec_len c.push_reserved.new.self) (vec_capacity c.self.inside.journal) (vec_capacity c.push_reserved.new.self) c.take-job.result
    c.self.view_is c.self.invariant.stands (some_of _ c.in-Some.place found) turn c.push_reserved.ensures.items told some c.push_reserved.ensures.len c.push_reserved.ensures.capacity

pub returns-clause-held : goal.returns-clause-held
returns-clause-held g c =
    let m = c.self.inside.machine in
    let nm = c.take-job.new.self in
    let job = c.take-job.result in
    let turned = took_holds c.args.by c.in-Some.place (slice_get m.state.exports c.in-Some.place) job.name (cells job.segments) m.state nm.state (ap (λ (x : MachineOf _). x.state) c.take-job.ensures.state) refl c.take-job.ensures.parts in
    let held = subst (λ (n : ℕ). HoldsExport nm.state c.args.by n job.name (cells job.segments)) (sym c.take-job.ensures.number) turned in
    subst (λ (s : State). HoldsExport s c.args.by job.export job.name (cells job.segments)) (let b : IsBoard _ _ = invariant_of-self g c in b.stands) held
