use Rattle.std.proofs.Common.{◌≡◌, ◌∙◌, ap, sym, arith, rules}
use Rattle.edl_build.specs.Clip.{known_at, clip_from}
use Rattle.edl_build.proofs.Knowing.{known_next, known_done}
use Rattle.edl_build.proofs.known.known_of.Goals as goal

pub loop-name-preserved : goal.loop-name-preserved
loop-name-preserved c = record {
  so_far = λ name. known_next c.as_slice-name-items.result.now c.loop-name.number c.loop-name.name-index c.loop-name-item.result c.as_str.result.now (known_at c.loop-name.known name) (known_at c.put_clip.new.known name) name (omega arith) c.loop-name-item.is c.as_str.ensures (c.in_ok-put_clip.ensures name) ∙ c.loop-name.invariant.so_far name;
  count = omega arith;
}

pub returns : goal.returns
returns c = λ name. sym (known_done c.as_slice-name-items.result.now c.loop-name.number c.loop-name.name-index (known_at c.loop-name.known name) name (omega arith)) ∙ c.loop-name.invariant.so_far name
