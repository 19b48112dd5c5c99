use Rattle.std.proofs.Common.{◌≡◌, reverse, ap, ◌∙◌}
use Rattle.ffv1_frame.specs.Packet.{IsSpan}
use Rattle.ffv1_frame.proofs.Chains.{in_order, All-reverse}
use Rattle.ffv1_frame.proofs.chain.spans.Goals as goal

pub returns-clause-found : goal.returns-clause-found
returns-clause-found c =
    let is : c.in_ok-spans-2.spans.items ≡ reverse c.in_ok-spans.spans.items = c.in_ok-spans-2.ensures ∙ ap reverse c.as_slice.ensures.value in
    in_order c.args.ec c.args.packet.now c.in_ok-spans.spans.items c.in_ok-spans-2.spans.items is c.in_ok-spans.ensures.found

pub returns-clause-spans : goal.returns-clause-spans
returns-clause-spans c =
    let is : c.in_ok-spans-2.spans.items ≡ reverse c.in_ok-spans.spans.items = c.in_ok-spans-2.ensures ∙ ap reverse c.as_slice.ensures.value in
    All-reverse (IsSpan c.args.packet.now) (record { from = 0; footer = 0; end = 0 }) c.in_ok-spans.spans.items c.in_ok-spans-2.spans.items is c.in_ok-spans.ensures.spans
