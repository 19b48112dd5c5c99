-- One row more of the area stands in the picture.
use Rattle.std.proofs.Common.{rules, ◌≡◌, ◌+◌, ℕ, List, [], ◌∷◌, ◌++◌, length, sym, ◌∙◌, ap, arith, length-append, inl}
use Rattle.std.proofs.lemmas.Result.{err_from_is_err_and}
use Rattle.pic_planes.specs.Picture.{Image, IsRow}
use Rattle.ffv1_rice.specs.Runs.{Coding, coding, source, first_run}
use Rattle.ffv1_slice.specs.Area.{with_first}
use Rattle.ffv1_slice.proofs.Planes.{after_rows, put_more, each_more, all_put}
use Rattle.ffv1_golomb.proofs.PlaneSteps.{AreDone, one_done, all_done}
use Rattle.ffv1_golomb.proofs.read_plane.decode_rows.Goals as goal

pub returns-in_err-bits-clause-out_of_range : goal.returns-in_err-bits-clause-out_of_range
returns-in_err-bits-clause-out_of_range c =
    let p = err_from_is_err_and c.from_residual.result c.from_residual.ensures.1 in
    let done : List (List ℕ) = c.loop-y.invariant.done in
    let row : List ℕ = c.decode_row.new.row in
    let count : c.args.area.y + length done ≡ c.loop-y.y = c.loop-y.invariant.count in
    let is : IsRow c.args.area.width row = record { len = omega arith; samples = λ x. search rules } in
    rw p.1 (record {
      plane = done ++ row ∷ [];
      sizes = record { few = omega (arith, length-append done (row ∷ [])); each = each_more c.args.area.width done row c.loop-y.invariant.read.each is };
      out_of_range = c.loop-y.invariant.read.late (row ∷ []) (inl c.in_err-bits.ensures.out_of_range);
    })

pub loop-y-preserved : goal.loop-y-preserved
loop-y-preserved c =
    let done : List (List ℕ) = c.loop-y.invariant.done in
    let row : List ℕ = c.decode_row.new.row in
    let count : c.args.area.y + length done ≡ c.loop-y.y = c.loop-y.invariant.count in
    let copied : c.copy_from_slice-in-loop-y.new.self ≡ row = c.copy_from_slice-in-loop-y.ensures.after in
    let is : IsRow c.args.area.width row = record { len = omega arith; samples = λ x. search rules } in
    let now : Coding = coding (source c.loop-y.run c.loop-y.bits) c.loop-y.states in
    let next : Coding = coding (source c.decode_row.new.run c.in_ok-bits.bits) c.decode_row.new.states in
    let start : Coding = coding (source first_run c.args.bits) c.args.states.now in
    let one : AreDone c.args.tables.now c.args.area.width (done ++ row ∷ []) c.loop-y.above row start next =
    one_done c.args.tables.now c.args.area.width done c.loop-y.above2 c.loop-y.above row start now next c.loop-y.invariant.read is c.in_ok-bits.ensures.ok in
    let image : Image = c.loop-y.picture in
    let put : c.put_samples.new.self ≡ with_first image (after_rows c.args.area (length done)) row =
    c.put_samples.ensures ∙ ap (λ y. with_first image (record c.args.area { y = y }) row) (sym count) in
    record {
      done = done ++ row ∷ [];
      count = omega (arith, length-append done (row ∷ []));
      read = rw (c.copy_from_slice.ensures.after, copied) one;
      put = rw put (put_more image c.args.picture.now c.args.area done row c.loop-y.invariant.put);
      shape = ap (λ i. i.shape) put ∙ c.loop-y.invariant.shape;
    }

pub returns-clause-ok : goal.returns-clause-ok
returns-clause-ok c =
    let done : List (List ℕ) = c.loop-y.invariant.done in
    let count : c.args.area.y + length done ≡ c.loop-y.y = c.loop-y.invariant.count in
    let whole : length done ≡ c.args.area.height = omega (arith, c.bottom_of-y-end.ensures.bottom) in
    record {
      plane = done;
      sizes = record { len = whole; rows = λ y lt. c.loop-y.invariant.read.each y (omega arith) };
      run = c.loop-y.run;
      read = all_done c.args.tables.now c.args.area.width done c.loop-y.above2 c.loop-y.above (coding (source first_run c.args.bits) c.args.states.now) (coding (source c.loop-y.run c.loop-y.bits) c.loop-y.states) c.loop-y.invariant.read;
      put = all_put c.loop-y.picture c.args.picture.now c.args.area done c.loop-y.invariant.put;
    }
