use Rattle.std.proofs.Common.{◌-◌, arith}
use Rattle.ffv1_frame.proofs.Chains.{take-split, span-IsSlice, no_room}
use Rattle.ffv1_frame.proofs.chain.last_span.Goals as goal

pub returns-then-footer-size-clause-none : goal.returns-then-footer-size-clause-none
returns-then-footer-size-clause-none c = λ before slice is sound.
    no_room c.args.ec c.args.packet.now before slice c.args.end (c.args.end - c.footer_length-footer_length.result) c.requires (omega arith) (omega arith) is sound

pub returns-clause-some : goal.returns-clause-some
returns-clause-some c =
    let at = c.args.end - c.footer_length-footer_length.result in
    let from = at - c.big_u24-size.result in
    (omega (arith), record { content = omega arith; footer = omega arith; within = c.requires }, take-split c.args.packet.now from at c.args.end (omega arith) (omega arith), span-IsSlice c.args.ec c.args.packet.now from at c.args.end (omega arith) c.requires (omega arith) (omega arith))
