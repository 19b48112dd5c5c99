use Rattle.std.proofs.Common.{◌≡◌, ℕ, length, refl, sym, ap, ◌∙◌, arith}
use Rattle.ebml_core.specs.Listing.{ends, breaks, gives}
use Rattle.ebml_core.specs.Walking.{Position, ahead, HasAhead, LiesAt}
use Rattle.ebml_core.proofs.Listings.{listed}
use Rattle.ebml_core.proofs.Scans.{end_before, end_before-here, end_before-past}
use Rattle.ebml_core.proofs.Endings.{scanned}
use Rattle.ebml_core.proofs.walker.Walker.end_before.Goals as goal

pub returns-then-contains-clause-exact : goal.returns-then-contains-clause-exact
returns-then-contains-clause-exact c =
    let e = c.in-Ok-Some.element in
    let later = listed c.next.new.self.place (ahead c.next.new.self) in
    let there : HasAhead c.loop-element.self (gives e later.0) = rw (c.in-Ok-Some.is, c.in-Ok-Some.field-0-is) at (c.next.ensures.listed later.0 later.1) in
    let all = c.loop-element.invariant.same (gives e later.0) there in
    let lies : LiesAt c.loop-element.self.place c.loop-element.self.end e = rw (c.in-Ok-Some.is, c.in-Ok-Some.field-0-is) at c.next.ensures.lies in
    let new : c.next.new.self ≡ record c.loop-element.self { place = e.end } = rw (c.in-Ok-Some.is, c.in-Ok-Some.field-0-is) at c.next.ensures.place in
    let text : c.self.inside.bytes.now ≡ c.args.self.bytes = ap (λ (p : Position). p.bytes) c.self.view_is ∙ ap (λ (p : Position). p.bytes) new ∙ c.loop-element.invariant.bytes in
    let last : c.self.inside.end ≡ c.args.self.end = ap (λ (p : Position). p.end) c.self.view_is ∙ ap (λ (p : Position). p.end) new ∙ c.loop-element.invariant.end in
    scanned c.args.ids.now c.args.self e.start all.0 (omega (arith, lies.header, lies.content, lies.within, c.loop-element.invariant.place, c.loop-element.invariant.end)) (omega (arith, last, ap length text, c.self.invariant.1)) all.1 (sym (end_before-here c.args.ids.now c.loop-element.self.end e later.0 (sym c.contains.ensures.value ∙ c.if-contains.true)) ∙ all.2)

pub returns-then-contains-clause-within : goal.returns-then-contains-clause-within
returns-then-contains-clause-within c =
    let lies : LiesAt c.loop-element.self.place c.loop-element.self.end c.in-Ok-Some.element = rw (c.in-Ok-Some.is, c.in-Ok-Some.field-0-is) at c.next.ensures.lies in
    (omega (arith, lies.start, c.loop-element.invariant.place), omega (arith, lies.start, lies.header, lies.content, lies.within, c.loop-element.invariant.end))

pub loop-element-smaller : goal.loop-element-smaller
loop-element-smaller c =
    let lies : LiesAt c.loop-element.self.place c.loop-element.self.end c.in-Ok-Some.element = rw (c.in-Ok-Some.is, c.in-Ok-Some.field-0-is) at c.next.ensures.lies in
    let new : c.next.new.self ≡ record c.loop-element.self { place = c.in-Ok-Some.element.end } = rw (c.in-Ok-Some.is, c.in-Ok-Some.field-0-is) at c.next.ensures.place in
    omega (arith, lies.header, lies.content, lies.within, ap (λ (p : Position). p.place) new, ap (λ (p : Position). p.end) new)

pub loop-element-init : goal.loop-element-init
loop-element-init c = record { same = λ later h. (later, h, refl); bytes = refl; end = refl; place = omega arith }

pub loop-element-preserved : goal.loop-element-preserved
loop-element-preserved c =
    let e = c.in-Ok-Some.element in
    let lies : LiesAt c.loop-element.self.place c.loop-element.self.end e = rw (c.in-Ok-Some.is, c.in-Ok-Some.field-0-is) at c.next.ensures.lies in
    let new : c.next.new.self ≡ record c.loop-element.self { place = e.end } = rw (c.in-Ok-Some.is, c.in-Ok-Some.field-0-is) at c.next.ensures.place in
    let end : c.next.new.self.end ≡ c.loop-element.self.end = ap (λ (p : Position). p.end) new in
    let past = end_before-past c.args.ids.now c.loop-element.self.end e in
    record {
      same = λ later h.
          let there : HasAhead c.loop-element.self (gives e later) = rw (c.in-Ok-Some.is, c.in-Ok-Some.field-0-is) at (c.next.ensures.listed later h) in
          let all = c.loop-element.invariant.same (gives e later) there in
          (all.0, all.1, ap (λ (n : ℕ). end_before c.args.ids.now n later) end ∙ sym (past later (sym c.contains.ensures.value ∙ c.if-contains.false)) ∙ all.2);
      bytes = ap (λ (p : Position). p.bytes) new ∙ c.loop-element.invariant.bytes;
      end = end ∙ c.loop-element.invariant.end;
      place = omega (arith, lies.header, lies.content, ap (λ (p : Position). p.place) new, c.loop-element.invariant.place);
    }

pub returns-in-Ok-None-clause-exact : goal.returns-in-Ok-None-clause-exact
unfolding end_before
returns-in-Ok-None-clause-exact c =
    let later = listed c.next.new.self.place (ahead c.next.new.self) in
    let there : HasAhead c.loop-element.self ends = rw (c.in-Ok-None.is, c.in-Ok-None.field-0-is) at (c.next.ensures.listed later.0 later.1) in
    let end : c.self.inside.end ≡ c.loop-element.self.end = ap (λ (p : Position). p.end) c.self.view_is ∙ ap (λ (p : Position). p.end) c.next.ensures.place in
    let all = c.loop-element.invariant.same ends there in
    let new : c.next.new.self ≡ c.loop-element.self = rw (c.in-Ok-None.is, c.in-Ok-None.field-0-is) at c.next.ensures.place in
    let text : c.self.inside.bytes.now ≡ c.args.self.bytes = ap (λ (p : Position). p.bytes) c.self.view_is ∙ ap (λ (p : Position). p.bytes) new ∙ c.loop-element.invariant.bytes in
    let place : c.self.inside.place ≡ c.loop-element.self.place = ap (λ (p : Position). p.place) (c.self.view_is ∙ new) in
    let last : c.self.inside.end ≡ c.args.self.end = end ∙ c.loop-element.invariant.end in
    scanned c.args.ids.now c.args.self c.self.inside.end all.0 (omega (arith, place, last, c.self.invariant.0, c.loop-element.invariant.place)) (omega (arith, last, ap length text, c.self.invariant.1)) all.1 (end ∙ all.2)

pub returns-in-Ok-None-clause-within : goal.returns-in-Ok-None-clause-within
returns-in-Ok-None-clause-within c =
    let new : c.next.new.self ≡ c.loop-element.self = rw (c.in-Ok-None.is, c.in-Ok-None.field-0-is) at c.next.ensures.place in
    let same = c.self.view_is ∙ new in
    (omega (arith, ap (λ (p : Position). p.place) same, c.self.invariant.0, c.loop-element.invariant.place), omega (arith, ap (λ (p : Position). p.end) same, c.loop-element.invariant.end))

pub returns-in-Err-clause-exact : goal.returns-in-Err-clause-exact
unfolding end_before
returns-in-Err-clause-exact c =
    let later = listed c.next.new.self.place (ahead c.next.new.self) in
    let there : HasAhead c.loop-element.self (breaks c.in-Err.field-0.at) = rw c.in-Err.is at (c.next.ensures.listed later.0 later.1) in
    let end : c.self.inside.end ≡ c.loop-element.self.end = ap (λ (p : Position). p.end) c.self.view_is ∙ ap (λ (p : Position). p.end) c.next.ensures.place in
    let all = c.loop-element.invariant.same (breaks c.in-Err.field-0.at) there in
    let new : c.next.new.self ≡ c.loop-element.self = rw c.in-Err.is at c.next.ensures.place in
    let text : c.self.inside.bytes.now ≡ c.args.self.bytes = ap (λ (p : Position). p.bytes) c.self.view_is ∙ ap (λ (p : Position). p.bytes) new ∙ c.loop-element.invariant.bytes in
    let place : c.self.inside.place ≡ c.loop-element.self.place = ap (λ (p : Position). p.place) (c.self.view_is ∙ new) in
    let last : c.self.inside.end ≡ c.args.self.end = end ∙ c.loop-element.invariant.end in
    scanned c.args.ids.now c.args.self c.self.inside.end all.0 (omega (arith, place, last, c.self.invariant.0, c.loop-element.invariant.place)) (omega (arith, last, ap length text, c.self.invariant.1)) all.1 (end ∙ all.2)

pub returns-in-Err-clause-within : goal.returns-in-Err-clause-within
returns-in-Err-clause-within c =
    let new : c.next.new.self ≡ c.loop-element.self = rw c.in-Err.is at c.next.ensures.place in
    let same = c.self.view_is ∙ new in
    (omega (arith, ap (λ (p : Position). p.place) same, c.self.invariant.0, c.loop-element.invariant.place), omega (arith, ap (λ (p : Position). p.end) same, c.loop-element.invariant.end))
