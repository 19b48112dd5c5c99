use Rattle.std.proofs.Common.{◌≡◌, ◌-◌, length, take, drop, ap, sym, ◌∙◌, subst, arith}
use Rattle.tl_model.specs.Cells.{cells}
use Rattle.tl_model.specs.Segment.{ArePieces}
use Rattle.time_list.specs.Changes.{spliced}
use Rattle.time_list.specs.Patch.{PatchOf, LeadsBack}
use Rattle.time_list.proofs.Changed.{leads_back, put-less, ArePieces-gone}
use Rattle.time_list.proofs.change.exchange.Goals as goal

pub overflow_cast-count : goal.overflow_cast-count
overflow_cast-count c =
    let less = put-less c.args.span c.args.put.now c.args.items.now in
    let same = c.requires.new.counted in
    let short = c.requires.new.short in
    omega (arith, c.frame_count-count.ensures)

pub of-patch-requires : goal.of-patch-requires
of-patch-requires c = subst ArePieces (sym (c.from_vec.ensures ∙ c.in_ok-gone.ensures.items)) (ArePieces-gone c.args.span c.args.items.now c.requires.old.pieces)

pub returns : goal.returns
returns c =
    let less = put-less c.args.span c.args.put.now c.args.items.now in
    let same = c.requires.new.counted in
    let short = c.requires.new.short in
    let count : c.frame_count-count.result ≡ length (cells c.args.put.now) = omega (arith, c.frame_count-count.ensures) in
    let gone = ap cells (c.from_vec.ensures ∙ c.in_ok-gone.ensures.items) in
    let patch : c.of-patch.result ≡ record { at = c.args.span.at; count = c.frame_count-count.result; cells = cells (take (c.args.span.to - c.args.span.from) (drop c.args.span.from c.args.items.now)) } = cc in
    record {
      items = c.in_ok-made.ensures;
      lane = c.requires.new;
      patch = subst (λ (p : PatchOf). LeadsBack p (cells (spliced c.args.span c.args.put.now c.args.items.now)) (cells c.args.items.now)) (sym patch) (leads_back c.args.span c.args.put.now c.args.items.now c.frame_count-count.result c.requires.old c.requires.span c.requires.put count);
    }
