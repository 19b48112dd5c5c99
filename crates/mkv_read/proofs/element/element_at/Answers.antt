use Rattle.std.proofs.Common.{List, ℕ, subst}
use Rattle.ebml_core.specs.Listing.{ends, breaks, gives}
use Rattle.ebml_core.specs.Walking.{Position, ahead, HasAhead}
use Rattle.ebml_core.proofs.Listings.{listed}
use Rattle.mkv_read.proofs.Listing.{elements-none, elements-broken, ended-first}
use Rattle.mkv_read.proofs.element.element_at.Goals as goal

-- where the walker stood
abbrev stood : List ℕ → ℕ → ℕ → Position
stood bytes place end = record { bytes = bytes; place = place; end = end }

pub returns-in-Ok-None-clause-exact : goal.returns-in-Ok-None-clause-exact
returns-in-Ok-None-clause-exact c =
    let later = listed c.next.new.self.place (ahead c.next.new.self) in
    let there : HasAhead c.over-walker.result ends = rw (c.in-Ok-None.is, c.in-Ok-None.field-0-is) at (c.next.ensures.listed later.0 later.1) in
    elements-none c.args.bytes.now c.args.place c.args.end (subst (λ (p : Position). HasAhead p ends) c.over-walker.ensures there)

pub returns-in-Ok-Some-clause-exact : goal.returns-in-Ok-Some-clause-exact
returns-in-Ok-Some-clause-exact c =
    let d = c.in-Ok-Some.element in
    let later = listed c.next.new.self.place (ahead c.next.new.self) in
    let there : HasAhead c.over-walker.result (gives d later.0) = rw (c.in-Ok-Some.is, c.in-Ok-Some.field-0-is) at (c.next.ensures.listed later.0 later.1) in
    let begins : HasAhead (stood c.args.bytes.now c.args.place c.args.end) (gives d later.0) = subst (λ (p : Position). HasAhead p (gives d later.0)) c.over-walker.ensures there in
    ended-first c.args.bytes.now c.args.place c.args.end d c.ended.result begins.0 c.requires.order c.requires.within begins.1 (record { cluster = c.ended.ensures.cluster; other = c.ended.ensures.other; lies = c.ended.ensures.lies })

pub returns-in-Err-clause-exact : goal.returns-in-Err-clause-exact
returns-in-Err-clause-exact c =
    let later = listed c.next.new.self.place (ahead c.next.new.self) in
    let there : HasAhead c.over-walker.result (breaks c.in-Err.fault.at) = rw c.in-Err.is at (c.next.ensures.listed later.0 later.1) in
    elements-broken c.args.bytes.now c.args.place c.args.end c.in-Err.fault.at (subst (λ (p : Position). HasAhead p (breaks c.in-Err.fault.at)) c.over-walker.ensures there)
