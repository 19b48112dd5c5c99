use Rattle.std.proofs.Common.{rules, refl, arith}
use Rattle.std.proofs.lemmas.List.{places}
use Rattle.std.proofs.KnownBytes.{Consumes-more}
use Rattle.std.proofs.lemmas.Result.{err_from_is_err_and}
use Rattle.tl_ports.proofs.StreamLemmas.{StartsWith-trans, IsOver-read, whole_of, over_of}
use Rattle.tl_ports.proofs.stream.read_whole.Goals as goal

pub returns-in_err-count-clause-over : goal.returns-in_err-count-clause-over
returns-in_err-count-clause-over g c =
    let p = err_from_is_err_and c.from_residual.result c.from_residual.ensures.1 in
    rw (p.1, p.2) (IsOver-read _ _ _ c.in_err-count.ensures.fails)

pub returns-then-count-eq0-clause-whole : goal.returns-then-count-eq0-clause-whole
returns-then-count-eq0-clause-whole g c =
    whole_of _ _ _ c.args.into.now.items c.loop.into.items c.read_piece.new.into.items c.loop.invariant.0 c.in_ok-count.ensures.front c.loop.invariant.2 c.in_ok-count.ensures.bytes
    (search rules)

pub returns-then-count-left-clause-over : goal.returns-then-count-left-clause-over
returns-then-count-left-clause-over g c = (
  refl,
  over_of _ _ _ c.args.into.now.items c.loop.into.items c.read_piece.new.into.items c.args.limit c.loop.invariant.0 c.in_ok-count.ensures.front c.loop.invariant.2
      c.in_ok-count.ensures.bytes (search (rules, places)),
)

pub loop-preserved : goal.loop-preserved
loop-preserved g c =
    let old = c.args.into.now.items in
    let mid = c.loop.into.items in
    let new = c.read_piece.new.into.items in
    let read = c.in_ok-count.ensures in
    let before = c.loop.invariant in
    (StartsWith-trans old mid new before.0 read.front, omega arith, Consumes-more _ _ _ old mid new before.0 read.front before.2 read.bytes)
