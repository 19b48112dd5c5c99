use Rattle.std.proofs.Common.{◌+◌, length, get_or, refl, ◌∙◌, sym, ap, arith}
use mir.Val.{to_z, of_z}
use mir.Syntax.{w16}
use Rattle.std.proofs.lemmas.Int.{to_z-of_z}
use Rattle.ffv1_record.proofs.Runs.{fits_16, half-next, half-done, scaled_fits, sum-take_le, sum-take_more}
use Rattle.ffv1_record.proofs.entries.fill_half.Goals as goal

pub loop-i-preserved : goal.loop-i-preserved
loop-i-preserved c = record {
  from = omega (arith, c.loop-i.invariant.from, sum-take_more c.args.lengths.now c.loop-i.i c.loop-i-test.true);
  half = c.fill_run.ensures ∙ half-next c.args.scale c.loop-i.i c.loop-i.from (c.loop-i.from + get_or c.args.lengths.now c.loop-i.i 0) c.args.lengths.now c.args.half.now c.loop-i.half (to_z w16 (of_z w16 c.scaled.result)) c.loop-i-test.true c.loop-i.invariant.from refl (to_z-of_z w16 c.scaled.result (fits_16 c.scaled.result c.scaled.type_inv) ∙ c.scaled.ensures) c.loop-i.invariant.half;
}

pub scaled-requires : goal.scaled-requires
scaled-requires c = scaled_fits c.args.scale c.loop-i.i (length c.args.lengths.now) c.loop-i-test.true c.requires.fits
