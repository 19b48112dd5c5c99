use Rattle.std.proofs.Common.{◌≡◌, ◌≤◌, ◌++◌, ◌∷◌, [], ◌+◌, ℕ, refl, subst, arith, length}
use Rattle.std.specs.Prelude.{vec_len, vec_capacity}
use Rattle.tl_model.specs.declared.journal.Act.TheVariants as act
use Rattle.render_core.specs.Board.{of_file}
use Rattle.render_core.proofs.Grows.{was_owed, grown_owed, pays, Holds-inside}
use Rattle.render_core.proofs.board.Board.file.Goals as goal

pub push_reserved-requires : goal.push_reserved-requires
push_reserved-requires g c =
    let held = Holds-inside g.M.Media.library c.args.self.now c.self.inside.machine c.self.inside.limit c.self.inside.journal.items _ c.args.by c.args.claim.job c.args.claim.recipe c.self.view_is c.self.invariant.stands c.requires.held in
    let some = was_owed g.M.Media.library c.self.inside.machine 0 c.args.by (act.File c.args.claim.job) c.self.inside.journal.items c.self.inside.limit c.self.inside.owed (vec_capacity c.self.inside.journal) c.self.invariant (c.args.claim.recipe, held) refl in
    let kept : length c.self.inside.journal.items + c.self.inside.owed ≤ vec_capacity c.self.inside.journal = c.self.invariant.kept in
    omega (arith, some, kept, c.self.inside.journal.ok.0)

pub overflow_sub-self : goal.overflow_sub-self
overflow_sub-self g c =
    let held = Holds-inside g.M.Media.library c.args.self.now c.self.inside.machine c.self.inside.limit c.self.inside.journal.items _ c.args.by c.args.claim.job c.args.claim.recipe c.self.view_is c.self.invariant.stands c.requires.held in
    was_owed g.M.Media.library c.self.inside.machine 0 c.args.by (act.File c.args.claim.job) c.self.inside.journal.items c.self.inside.limit c.self.inside.owed (vec_capacity c.self.inside.journal) c.self.invariant (c.args.claim.recipe, held) refl

pub invariant_of-self : goal.invariant_of-self
invariant_of-self g c =
    let held = Holds-inside g.M.Media.library c.args.self.now c.self.inside.machine c.self.inside.limit c.self.inside.journal.items _ c.args.by c.args.claim.job c.args.claim.recipe c.self.view_is c.self.invariant.stands c.requires.held in
    let items = subst (λ (n : ℕ). c.push_reserved.new.self.items ≡ c.self.inside.journal.items ++ record { pass = c.args.by; act = act.File n } ∷ []) c.job-job.ensures c.push_reserved.ensures.items in
    grown_owed g.M.Media.library c.self.inside.machine c.file.new.self (c.len.result + 1) c.args.by (act.File c.args.claim.job) c.self.inside.journal.items c.push_reserved.new.self.items c.self.inside.limit c.self.inside.owed (vec_capacity c.self.inside.journal) (vec_capacity c.push_reserved.new.self)
    c.self.invariant (c.args.claim.recipe, held) refl (omega (arith, c.len.ensures, c.self.inside.journal.ok.0)) c.in-Ok.ensures.done.0 items c.push_reserved.ensures.capacity

pub returns-in-Ok-clause-done : goal.returns-in-Ok-clause-done
returns-in-Ok-clause-done g c =
    let held = Holds-inside g.M.Media.library c.args.self.now c.self.inside.machine c.self.inside.limit c.self.inside.journal.items _ c.args.by c.args.claim.job c.args.claim.recipe c.self.view_is c.self.invariant.stands c.requires.held in
    let some = was_owed g.M.Media.library c.self.inside.machine 0 c.args.by (act.File c.args.claim.job) c.self.inside.journal.items c.self.inside.limit c.self.inside.owed (vec_capacity c.self.inside.journal) c.self.invariant (c.args.claim.recipe, held) refl in
    let items = subst (λ (n : ℕ). c.push_reserved.new.self.items ≡ c.self.inside.journal.items ++ record { pass = c.args.by; act = act.File n } ∷ []) c.job-job.ensures c.push_reserved.ensures.items in
    pays g.M.Media.library c.args.self.now c.self.inside.machine c.file.new.self (c.len.result + 1) (record { pass = c.args.by; act = act.File c.args.claim.job; view = of_file }) c.self.inside.journal.items c.push_reserved.new.self.items c.self.inside.limit c.self.inside.owed (vec_len c.self.inside.journal) (vec_len c.push_reserved.new.self) (vec_capacity c.self.inside.journal) (vec_capacity c.push_reserved.new.self) c.in-Ok.reply
    c.self.view_is c.self.invariant.stands (c.args.claim.recipe, held) c.in-Ok.ensures.done.0 items c.in-Ok.ensures.done.1 some c.push_reserved.ensures.len c.push_reserved.ensures.capacity
