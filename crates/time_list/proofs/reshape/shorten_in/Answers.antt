use Rattle.std.proofs.Common.{refl}
use Rattle.time_list.proofs.Reshaped.{shortened_past, shortened_in_ok}
use Rattle.time_list.proofs.reshape.shorten_in.Goals as goal

pub returns-then-by-segment : goal.returns-then-by-segment
returns-then-by-segment c = (shortened_past c.args.segment.now c.args.by c.if-by-segment.true, refl)

pub returns : goal.returns
returns c = shortened_in_ok c.args.segment.now c.back.result c.args.by c.requires c.if-by-segment.false c.back.ensures
