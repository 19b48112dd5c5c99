use Rattle.std.proofs.Common.{refl}
use Rattle.time_list.proofs.Reshaped.{shortened_past, shortened_out_ok}
use Rattle.time_list.proofs.reshape.shorten_out.Goals as goal

pub returns-then-by-segment : goal.returns-then-by-segment
returns-then-by-segment c = (shortened_past c.args.segment.now c.args.by c.if-by-segment.true, refl)

pub returns : goal.returns
returns c = shortened_out_ok c.args.segment.now c.front.result c.args.by c.requires c.if-by-segment.false c.front.ensures
