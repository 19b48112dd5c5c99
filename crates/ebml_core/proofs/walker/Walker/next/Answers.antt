use Rattle.std.proofs.Common.{◌≤◌, ◌-◌, take, drop, subst, arith}
use Rattle.std.proofs.lemmas.List.{length-take}
use Rattle.std.proofs.lemmas.Result.{err_from_is_err_and}
use Rattle.ebml_core.specs.Listing.{ends, breaks, gives}
use Rattle.ebml_core.specs.Walking.{Position, HasAhead}
use Rattle.ebml_core.proofs.Endings.{ahead-end, ahead-fault, ahead-gives}
use Rattle.ebml_core.proofs.walker.Walker.next.Goals as goal

pub returns-then-self-clause-listed : goal.returns-then-self-clause-listed
returns-then-self-clause-listed c = λ later h. subst (λ (p : Position). HasAhead p ends) c.self.view_is (ahead-end _ c.if-self.true)

pub returns-in_err-element-clause-listed : goal.returns-in_err-element-clause-listed
returns-in_err-element-clause-listed c =
    let p = err_from_is_err_and c.from_residual.result c.from_residual.ensures.1 in
    rw (p.1, p.2) (λ later h. subst (λ (p : Position). HasAhead p (breaks c.in_err-element.field-0.0.at)) c.self.view_is (ahead-fault _ c.in_err-element.field-0.0 c.in_err-element.ensures.exact))

pub returns-clause-listed : goal.returns-clause-listed
returns-clause-listed c =
    let e = c.in_ok-element.element in
    let lies = c.in_ok-element.ensures.lies in
    let text = take (c.self.inside.end - c.self.inside.place) (drop c.self.inside.place c.self.inside.bytes.now) in
    let within : e.end ≤ c.self.inside.end = omega (arith, lies.within, length-take (c.self.inside.end - c.self.inside.place) (drop c.self.inside.place c.self.inside.bytes.now), c.self.invariant) in
    λ later h. subst (λ (p : Position). HasAhead p (gives e later)) c.self.view_is (ahead-gives _ e later (omega (arith, lies.header, lies.content)) within c.in_ok-element.ensures.begins h)
