use Rattle.std.proofs.Common.{◌≡◌, ℕ, ◌+◌, ◌-◌, subst, arith}
use Rattle.time_list.specs.Changes.{IsCutAt}
use Rattle.time_list.proofs.Applying.{patched_is, reverted-lane, reverted_of}
use Rattle.time_list.proofs.change.revert.Goals as goal

pub exchange-requires-clause-new : goal.exchange-requires-clause-new
exchange-requires-clause-new c =
    let items = c.args.items.now in
    let one = subst (λ (k : ℕ). IsCutAt items k c.in-Some.cut) c.at.ensures c.in-Some.ensures in
    let sum : c.in-Some.cut.start + c.in-Some.cut.offset + c.count.result ≡ c.args.patch.now.at + c.args.patch.now.count = omega (arith, c.count.ensures, one.place) in
    let two = subst (λ (k : ℕ). IsCutAt items k c.in-Some-cut_after.cut) sum c.in-Some-cut_after.ensures.0 in
    let total : (c.from.result - c.from-2.result) + c.frame_count.result ≡ (c.args.frames - c.args.patch.now.count) + c.frame_count.result = omega (arith, c.from.ensures, c.from-2.ensures, c.count-2.ensures) in
    reverted-lane items c.segments-put.result.now c.args.patch.now c.in-Some.cut c.in-Some-cut_after.cut c.args.frames c.frame_count.result _ c.requires.lane c.requires.fits one two c.segments-put.ensures.cells c.segments-put.ensures.pieces c.frame_count.ensures total

pub returns : goal.returns
returns c =
    let items = c.args.items.now in
    let one = subst (λ (k : ℕ). IsCutAt items k c.in-Some.cut) c.at.ensures c.in-Some.ensures in
    let sum : c.in-Some.cut.start + c.in-Some.cut.offset + c.count.result ≡ c.args.patch.now.at + c.args.patch.now.count = omega (arith, c.count.ensures, one.place) in
    let two = subst (λ (k : ℕ). IsCutAt items k c.in-Some-cut_after.cut) sum c.in-Some-cut_after.ensures.0 in
    reverted_of items _ c.args.patch.now c.exchange.result (patched_is items c.segments-put.result.now c.args.patch.now c.in-Some.cut c.in-Some-cut_after.cut c.requires.lane.pieces c.requires.fits one two c.segments-put.ensures.cells) c.exchange.ensures
