-- A grey slice has one part, another has two.
use Rattle.std.proofs.Common.{[], ◌∷◌, sym, subst}
use Rattle.ffv1_slice.specs.declared.area.Area.{Area}
use Rattle.ffv1_slice.specs.Area.{AreWithin}
use Rattle.ffv1_slice.specs.Room.{Room}
use Rattle.ffv1_slice.specs.Slice.{Part, part}
use Rattle.ffv1_slice.proofs.Parts.{within_both}
use Rattle.ffv1_golomb.proofs.SliceSteps.{writes_grey, writes_both}
use Rattle.ffv1_golomb.proofs.write_part.encode_rice_slice.Goals as goal

pub returns-in-None-clause-ok : goal.returns-in-None-clause-ok
returns-in-None-clause-ok c =
    let luma : Part = part c.args.luma.tables.now c.args.luma.context_count (c.args.areas.luma ∷ []) in
    writes_grey luma c.args.picture.now c.args.chroma.tables.now c.args.chroma.context_count c.args.areas.chroma c.args.bits.now c.encode_part.new.bits c.in-None.is c.in_ok-encode_part.ensures.ok

pub encode_part-requires-2-clause-within : goal.encode_part-requires-2-clause-within
encode_part-requires-2-clause-within c =
    let cb : Area = c.in-Some.cb in
    let InRoom : Room → Type 0 = λ room. AreWithin c.args.picture.now.shape room.width (cb ∷ record cb { plane = 2 } ∷ []) in
    subst InRoom (sym c.encode_part.ensures.room) (within_both c.args.picture.now.shape c.args.scratch.now.width c.args.areas.chroma cb c.in-Some.is c.requires.areas.chroma)

pub returns-clause-ok : goal.returns-clause-ok
returns-clause-ok c =
    let luma : Part = part c.args.luma.tables.now c.args.luma.context_count (c.args.areas.luma ∷ []) in
    writes_both luma c.args.picture.now c.args.chroma.tables.now c.args.chroma.context_count c.args.areas.chroma c.in-Some.cb c.args.bits.now c.encode_part.new.bits c.encode_part-2.new.bits c.in-Some.is c.in_ok-encode_part.ensures.ok c.in_ok-encode_part-2.ensures.ok
