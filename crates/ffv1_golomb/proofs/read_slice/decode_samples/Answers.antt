-- A grey slice has one part, another has two.
use Rattle.std.proofs.Common.{List, [], ◌∷◌, sym, subst}
use Rattle.std.proofs.lemmas.Result.{err_from_is_err_and}
use Rattle.pic_planes.specs.Shape.{Layout}
use Rattle.ffv1_slice.specs.declared.area.Area.{Area}
use Rattle.ffv1_slice.specs.Area.{AreWithin}
use Rattle.ffv1_slice.specs.Room.{Room}
use Rattle.ffv1_slice.specs.Slice.{Part, part}
use Rattle.ffv1_golomb.specs.Slice.{Standing, standing}
use Rattle.ffv1_slice.proofs.Parts.{within_both}
use Rattle.ffv1_golomb.proofs.SliceSteps.{reads_grey, reads_both, late_both}
use Rattle.ffv1_golomb.proofs.read_slice.decode_samples.Goals as goal

pub returns-in-None-clause-ok : goal.returns-in-None-clause-ok
returns-in-None-clause-ok c =
    let luma : Part = part c.args.luma.tables.now c.args.luma.context_count (c.args.areas.luma ∷ []) in
    let old : Standing = standing c.args.bits c.args.picture.now in
    let mid : Standing = standing c.in_ok-between.between c.decode_part.new.picture in
    reads_grey luma c.args.chroma.tables.now c.args.chroma.context_count c.args.areas.chroma old mid c.in-None.is c.in_ok-between.ensures.ok

pub decode_part-requires-2-clause-within : goal.decode_part-requires-2-clause-within
decode_part-requires-2-clause-within c =
    let cb : Area = c.in-Some.cb in
    let both : List Area = cb ∷ record cb { plane = 2 } ∷ [] in
    let InShape : Layout → Type 0 = λ shape. AreWithin shape c.args.scratch.now.width both in
    let InRoom : Room → Type 0 = λ room. AreWithin c.decode_part.new.picture.shape room.width both in
    subst InRoom (sym c.decode_part.ensures.room) (subst InShape (sym c.decode_part.ensures.shape) (within_both c.args.picture.now.shape c.args.scratch.now.width c.args.areas.chroma cb c.in-Some.is c.requires.areas.chroma))

pub returns-in_err-after-clause-out_of_range : goal.returns-in_err-after-clause-out_of_range
returns-in_err-after-clause-out_of_range c =
    let p = err_from_is_err_and c.from_residual-in_err-after.result c.from_residual-in_err-after.ensures.1 in
    let luma : Part = part c.args.luma.tables.now c.args.luma.context_count (c.args.areas.luma ∷ []) in
    let old : Standing = standing c.args.bits c.args.picture.now in
    let mid : Standing = standing c.in_ok-between.between c.decode_part.new.picture in
    rw p.1 (late_both luma c.args.chroma.tables.now c.args.chroma.context_count c.args.areas.chroma c.in-Some.cb old mid c.in-Some.is c.in_ok-between.ensures.ok c.in_err-after.ensures.out_of_range)

pub returns-clause-ok : goal.returns-clause-ok
returns-clause-ok c =
    let luma : Part = part c.args.luma.tables.now c.args.luma.context_count (c.args.areas.luma ∷ []) in
    let old : Standing = standing c.args.bits c.args.picture.now in
    let mid : Standing = standing c.in_ok-between.between c.decode_part.new.picture in
    let new : Standing = standing c.in_ok-after.after c.decode_part-2.new.picture in
    reads_both luma c.args.chroma.tables.now c.args.chroma.context_count c.args.areas.chroma c.in-Some.cb old mid new c.in-Some.is c.in_ok-between.ensures.ok c.in_ok-after.ensures.ok
