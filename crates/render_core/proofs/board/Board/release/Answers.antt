use Rattle.std.proofs.Common.{◌≡◌, ◌≤◌, ◌++◌, ◌∷◌, [], ◌+◌, ℕ, refl, subst, arith, length}
use Rattle.std.specs.Prelude.{vec_len, vec_capacity}
use Rattle.tl_model.specs.declared.journal.Act.TheVariants as act
use Rattle.render_core.specs.Board.{of_release}
use Rattle.render_core.proofs.Grows.{was_owed, grown_owed, pays, Holds-inside}
use Rattle.render_core.proofs.board.Board.release.Goals as goal

pub push_reserved-requires : goal.push_reserved-requires
push_reserved-requires g c =
    let held = Holds-inside g.M.Media.library c.args.self.now c.self.inside.machine c.self.inside.limit c.self.inside.journal.items _ c.args.by c.args.claim.job c.args.claim.recipe c.self.view_is c.self.invariant.stands c.requires in
    let some = was_owed g.M.Media.library c.self.inside.machine 0 c.args.by (act.Release c.args.claim.job) c.self.inside.journal.items c.self.inside.limit c.self.inside.owed (vec_capacity c.self.inside.journal) c.self.invariant (c.args.claim.recipe, held) refl in
    let kept : length c.self.inside.journal.items + c.self.inside.owed ≤ vec_capacity c.self.inside.journal = c.self.invariant.kept in
    omega (arith, some, kept, c.self.inside.journal.ok.0)

pub overflow_sub-self : goal.overflow_sub-self
overflow_sub-self g c =
    let held = Holds-inside g.M.Media.library c.args.self.now c.self.inside.machine c.self.inside.limit c.self.inside.journal.items _ c.args.by c.args.claim.job c.args.claim.recipe c.self.view_is c.self.invariant.stands c.requires in
    was_owed g.M.Media.library c.self.inside.machine 0 c.args.by (act.Release c.args.claim.job) c.self.inside.journal.items c.self.inside.limit c.self.inside.owed (vec_capacity c.self.inside.journal) c.self.invariant (c.args.claim.recipe, held) refl

pub invariant_of-self : goal.invariant_of-self
invariant_of-self g c =
    let held = Holds-inside g.M.Media.library c.args.self.now c.self.inside.machine c.self.inside.limit c.self.inside.journal.items _ c.args.by c.args.claim.job c.args.claim.recipe c.self.view_is c.self.invariant.stands c.requires in
    let items = subst (λ (n : ℕ). c.push_reserved.new.self.items ≡ c.self.inside.journal.items ++ record { pass = c.args.by; act = act.Release n } ∷ []) c.job-job.ensures c.push_reserved.ensures.items in
    grown_owed g.M.Media.library c.self.inside.machine c.release-reply.new.self (length c.self.inside.journal.items + 1) c.args.by (act.Release c.args.claim.job) c.self.inside.journal.items c.push_reserved.new.self.items c.self.inside.limit c.self.inside.owed (vec_capacity c.self.inside.journal) (vec_capacity c.push_reserved.new.self)
    c.self.invariant (c.args.claim.recipe, held) refl refl c.release-reply.ensures.0 items c.push_reserved.ensures.capacity

pub returns : goal.returns
returns g c =
    let held = Holds-inside g.M.Media.library c.args.self.now c.self.inside.machine c.self.inside.limit c.self.inside.journal.items _ c.args.by c.args.claim.job c.args.claim.recipe c.self.view_is c.self.invariant.stands c.requires in
    let some = was_owed g.M.Media.library c.self.inside.machine 0 c.args.by (act.Release c.args.claim.job) c.self.inside.journal.items c.self.inside.limit c.self.inside.owed (vec_capacity c.self.inside.journal) c.self.invariant (c.args.claim.recipe, held) refl in
    let items = subst (λ (n : ℕ). c.push_reserved.new.self.items ≡ c.self.inside.journal.items ++ record { pass = c.args.by; act = act.Release n } ∷ []) c.job-job.ensures c.push_reserved.ensures.items in
    pays g.M.Media.library c.args.self.now c.self.inside.machine c.release-reply.new.self (length c.self.inside.journal.items + 1) (record { pass = c.args.by; act = act.Release c.args.claim.job; view = of_release }) c.self.inside.journal.items c.push_reserved.new.self.items c.self.inside.limit c.self.inside.owed (vec_len c.self.inside.journal) (vec_len c.push_reserved.new.self) (vec_capacity c.self.inside.journal) (vec_capacity c.push_reserved.new.self) c.release-reply.result
    c.self.view_is c.self.invariant.stands (c.args.claim.recipe, held) c.release-reply.ensures.0 items c.release-reply.ensures.1 some c.push_reserved.ensures.len c.push_reserved.ensures.capacity
