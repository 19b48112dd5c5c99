use Rattle.std.proofs.Common.{◌≡◌, Some, None, sym, ap, ◌∙◌}
use Rattle.mkv_read.specs.Elements.{content_of}
use Rattle.mkv_read.specs.Faults.{head_at}
use Rattle.mkv_read.proofs.Taken.{no_head, no_track, other_track, this_track, packet-lies}
use Rattle.mkv_read.proofs.block.take_block.Goals as goal

pub returns-in_default-clause-exact : goal.returns-in_default-clause-exact
returns-in_default-clause-exact c =
    let e = c.args.element in
    let head : head_at e.content (content_of c.args.bytes.now e) ≡ None = ap (head_at e.content) (sym c.content.ensures) ∙ sym c.head_at.ensures.exact ∙ c.in_default.is in
    no_head _ _ _ _ _ head

pub returns-in_default-track-clause-exact : goal.returns-in_default-track-clause-exact
returns-in_default-track-clause-exact c = no_track _ _ _ _ _ c.in_default-track.is

pub returns-then-head-number-clause-exact : goal.returns-then-head-number-clause-exact
returns-then-head-number-clause-exact c =
    let e = c.args.element in
    let head : head_at e.content (content_of c.args.bytes.now e) ≡ Some c.in-Some.head = ap (head_at e.content) (sym c.content.ensures) ∙ sym c.head_at.ensures.exact ∙ c.in-Some.is in
    other_track _ _ _ _ _ _ _ c.in-Some-track.is head c.if-head-number.true

pub returns-clause-exact : goal.returns-clause-exact
returns-clause-exact c =
    let e = c.args.element in
    let head : head_at e.content (content_of c.args.bytes.now e) ≡ Some c.in-Some.head = ap (head_at e.content) (sym c.content.ensures) ∙ sym c.head_at.ensures.exact ∙ c.in-Some.is in
    let took = rw (c.from.ensures, c.from-2.ensures) at c.in_ok-take.ensures.exact in
    this_track _ _ _ _ _ _ _ c.in-Some-track.is head c.if-head-number.false ∙ took

pub returns-clause-lie : goal.returns-clause-lie
returns-clause-lie c = λ before.
    c.in_ok-take.ensures.lie _ before (packet-lies _ c.args.element _ _ c.requires c.content.ensures (rw c.in-Some.is at c.head_at.ensures.lies))
