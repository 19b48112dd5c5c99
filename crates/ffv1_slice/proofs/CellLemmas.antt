-- Cells of a grid, in samples.
use Rattle.std.proofs.Common.{◌≡◌, ℕ, zero, suc, ◌+◌, ◌-◌, ◌*◌, ◌/◌, ◌≤◌, [], ◌∷◌, Some, sym, subst, arith}
use Rattle.std.proofs.Math.Nat.{div-le_of_le-mul, div-mul-le_self, le-div_iff_mul-le, mul-le-mul_right}
use Rattle.pic_planes.specs.declared.shape.Chroma.{Chroma}
use Rattle.pic_planes.specs.declared.shape.Chroma.TheVariants.{Shifts}
use Rattle.pic_planes.specs.Shape.{Layout, layout, shifted_down, shifted_up}
use Rattle.ffv1_slice.specs.declared.area.Area.{Area}
use Rattle.ffv1_slice.specs.Room.{Room}
use Rattle.ffv1_slice.specs.Area.{IsWithin, AreWithin}
use Rattle.ffv1_slice.specs.Slice.{CanHold}
use Rattle.ffv1_slice.specs.Cells.{cell_start, chroma_area}

-- a cell ends within the size
pub cell_end : (cells size cell : ℕ) → 1 ≤ cells → cell ≤ cells → cell_start cells size cell ≤ size
cell_end cells size cell some le = div-le_of_le-mul cells (mul-le-mul_right size le)

-- a later cell starts at a later sample
pub cell_later : (cells size cell later : ℕ) → 1 ≤ cells → cells ≤ size → cell + 1 ≤ later → cell_start cells size cell + 1 ≤ cell_start cells size later
cell_later cells size cell later some wide lt =
    let q : ℕ = cell * size / cells in
    let below : q * cells ≤ cell * size = div-mul-le_self (cell * size) cells in
    let above : (cell + 1) * size ≤ later * size = mul-le-mul_right size lt in
    let product : (q + 1) * cells ≤ later * size = omega (arith, below, above, wide) in
    (le-div_iff_mul-le {k = cells} {x = q + 1} {y = later * size} (omega arith)).1 product

-- an area of a chroma plane lies within it
pub chroma_end : (x width size shift : ℕ) → shift ≤ 2 → x + width ≤ size → shifted_down x shift + shifted_up width shift ≤ shifted_up size shift
chroma_end x width size zero small within = omega arith
chroma_end x width size (suc zero) small within = omega arith
chroma_end x width size (suc (suc zero)) small within = omega arith
chroma_end x width size (suc (suc (suc n))) small within = absurd (omega arith)

up_some : (size shift : ℕ) → shift ≤ 2 → 1 ≤ size → 1 ≤ shifted_up size shift
up_some size zero small some = omega arith
up_some size (suc zero) small some = omega arith
up_some size (suc (suc zero)) small some = omega arith
up_some size (suc (suc (suc n))) small some = absurd (omega arith)

up_le : (size shift : ℕ) → shift ≤ 2 → shifted_up size shift ≤ size
up_le size zero small = omega arith
up_le size (suc zero) small = omega arith
up_le size (suc (suc zero)) small = omega arith
up_le size (suc (suc (suc n))) small = absurd (omega arith)

-- some cells end within the size
pub span_end : (cells size first count start end : ℕ) → 1 ≤ cells → cells ≤ size → first + count ≤ cells → 1 ≤ count
    → start ≡ cell_start cells size first → end ≡ cell_start cells size (first + count) → start + (end - start) ≤ size
span_end cells size first count start end some wide within more starts ends =
    let later : cell_start cells size first + 1 ≤ cell_start cells size (first + count) = cell_later cells size first (first + count) some wide (omega arith) in
    let last : cell_start cells size (first + count) ≤ size = cell_end cells size (first + count) some within in
    omega (arith, later, last, starts, ends)

one_within : (shape : Layout) (width : ℕ) (a : Area) → IsWithin shape a × (a.width ≤ width) → AreWithin shape width (a ∷ [])
one_within shape width a is zero d lt = is
one_within shape width a is (suc k) d lt = absurd (omega arith)

two_within : (shape : Layout) (width : ℕ) (a b : Area) → IsWithin shape a × (a.width ≤ width) → IsWithin shape b × (b.width ≤ width)
    → AreWithin shape width (a ∷ b ∷ [])
two_within shape width a b first second zero d lt = first
two_within shape width a b first second (suc zero) d lt = second
two_within shape width a b first second (suc (suc k)) d lt = absurd (omega arith)

hold_at : (width height h v : ℕ) (room : Room) (luma : Area) → h ≤ 2 → v ≤ 2 → luma.plane ≡ 0 → 1 ≤ luma.width
    → luma.x + luma.width ≤ width → luma.y + luma.height ≤ height → width ≤ room.width
    → CanHold (layout width height (Shifts h v)) room (record { luma = luma; chroma = Some (chroma_area h v luma) })
hold_at width height h v room luma small tall first some right bottom wide =
    let shape : Layout = layout width height (Shifts h v) in
    let own : IsWithin shape luma = rw first (record { plane = omega arith; some = some; width = right; height = bottom }) in
    let across : shifted_down luma.x h + shifted_up luma.width h ≤ shifted_up width h = chroma_end luma.x luma.width width h small right in
    let down : shifted_down luma.y v + shifted_up luma.height v ≤ shifted_up height v = chroma_end luma.y luma.height height v tall bottom in
    let begun : 1 ≤ shifted_up luma.width h = up_some luma.width h small some in
    let line : shifted_up luma.width h ≤ room.width = omega (arith, up_le luma.width h small) in
    let cb : Area = chroma_area h v luma in
    let cb_within : IsWithin shape cb = record { plane = omega arith; some = begun; width = across; height = down } in
    let cr_within : IsWithin shape (record cb { plane = 2 }) = record { plane = omega arith; some = begun; width = across; height = down } in
    record { luma = one_within shape room.width luma (own, omega arith); chroma = two_within shape room.width cb (record cb { plane = 2 }) (cb_within, line) (cr_within, line) }

pub hold_both : (shape : Layout) (h v : ℕ) (room : Room) (luma cb : Area) → Shifts h v ≡ shape.chroma → h ≤ 2 → v ≤ 2 → luma.plane ≡ 0 → 1 ≤ luma.width
    → luma.x + luma.width ≤ shape.width → luma.y + luma.height ≤ shape.height → cb ≡ chroma_area h v luma → shape.width ≤ room.width
    → CanHold shape room (record { luma = luma; chroma = Some cb })
hold_both shape h v room luma cb chroma small tall first some right bottom is wide =
    let InChroma : Chroma → Type 0 = λ c. CanHold (layout shape.width shape.height c) room (record { luma = luma; chroma = Some (chroma_area h v luma) }) in
    let With : Area → Type 0 = λ a. CanHold shape room (record { luma = luma; chroma = Some a }) in
    subst With (sym is) (subst InChroma chroma (hold_at shape.width shape.height h v room luma small tall first some right bottom wide))
