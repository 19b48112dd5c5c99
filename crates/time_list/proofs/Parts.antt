-- The cells of the two parts of a segment that is cut.
use Rattle.std.proofs.Common.{◌≡◌, ℕ, zero, suc, ◌+◌, ◌-◌, ◌<◌, ◌≤◌, min, cond, Bool, true, false, List, [], ◌∷◌, ◌++◌, length, take, drop, Option, Some, None, refl, sym, ap, ◌∙◌, add_assoc, arith}
use Rattle.std.specs.Prelude.{nat_lt, ◌==◌}
use Rattle.std.proofs.lemmas.Bool.Decides.{nat_tests}
use Rattle.tl_model.specs.declared.recipe.Side.{Side}
use Rattle.tl_model.specs.declared.recipe.Side.TheVariants as side
use Rattle.tl_model.specs.declared.recipe.Mix.{Mix}
use Rattle.tl_model.specs.declared.segment.Segment.{Segment}
use Rattle.tl_model.specs.Cells.{CellMix, Cell, side_at, mix_at, cell_at, run, cells_of}
use Rattle.time_list.specs.Edits.{headed}
use Rattle.time_list.specs.Pieces.{front_mix, back_mix, front_of, back_of}
use Rattle.time_list.proofs.Runs.{length-run, take-run, drop-run, same_runs}

pub length-cells_of : (s : Segment) → length (cells_of s) ≡ s.len
length-cells_of s = length-run (cell_at s) 0 s.len

pub side_at-side_at : (s : Side) (a b : ℕ) → side_at (side_at s a) b ≡ side_at s (a + b)
side_at-side_at side.Black a b = refl
side_at-side_at (side.Clip c f) a b = ap (side.Clip c) (add_assoc f a b)

mix_at-front : (m : Option Mix) (at n : ℕ) → n < at → mix_at (front_mix m at) n ≡ mix_at m n
mix_at-front None at n h = refl
mix_at-front (Some mix) at n h =
    let e : nat_lt n (min mix.steps at) ≡ nat_lt n mix.steps = grind (arith, nat_tests) in
    ap (λ (b : Bool). cond b (Some (record { from = side_at mix.from n; step = mix.done + n + 1; total = mix.total })) None) e

abbrev cell : Side → Option CellMix → Bool → Cell
cell s m h = record { side = s; mix = m; is_head = h }

pub cells_of-front : (s : Segment) (at : ℕ) → at ≤ s.len → cells_of (front_of s at) ≡ take at (cells_of s)
cells_of-front s at h =
    same_runs (cell_at (front_of s at)) (cell_at s) 0 0 at (λ k l. let e : 0 + k ≡ k = omega arith in ap (λ (m : Option CellMix). cell (side_at s.first (0 + k)) m ((0 + k) == 0)) (mix_at-front s.mix at (0 + k) (omega arith)))
    ∙ sym (take-run (cell_at s) 0 s.len at h)

abbrev pub later_mix : Mix → ℕ → Bool → Option Mix
later_mix mix at b = cond b (Some (record { from = side_at mix.from at; done = mix.done + at; steps = mix.steps - at; total = mix.total })) None

mix_at-later : (mix : Mix) (at n : ℕ) (b : Bool) → nat_lt at mix.steps ≡ b → mix_at (later_mix mix at b) n ≡ mix_at (Some mix) (at + n)
mix_at-later mix at n true h =
    let tests : nat_lt n (mix.steps - at) ≡ nat_lt (at + n) mix.steps = grind (arith, nat_tests) in
    let sides = side_at-side_at mix.from at n in
    let steps : mix.done + at + n + 1 ≡ mix.done + (at + n) + 1 = omega arith in
    cc
mix_at-later mix at n false h =
    let test : nat_lt (at + n) mix.steps ≡ false = grind (arith, nat_tests) in
    cc

mix_at-back : (m : Option Mix) (at n : ℕ) → mix_at (back_mix m at) n ≡ mix_at m (at + n)
mix_at-back None at n = refl
mix_at-back (Some mix) at n = mix_at-later mix at n (nat_lt at mix.steps) refl

headed-run : (f g : ℕ → Cell) (from n : ℕ) → 0 < n → g 0 ≡ cell (f from).side (f from).mix true → ((k : ℕ) → f ((from + 1) + k) ≡ g (1 + k)) → run g 0 n ≡ headed (run f from n)
headed-run f g from zero h first rest = absurd (omega arith)
headed-run f g from (suc n) h first rest =
    let e = same_runs f g (from + 1) 1 n (λ k l. rest k) in
    cc

rest_is : (s : Segment) (at k : ℕ) → cell_at s ((at + 1) + k) ≡ cell_at (back_of s at) (1 + k)
rest_is s at k =
    let n : at + (1 + k) ≡ (at + 1) + k = omega arith in
    let sides = side_at-side_at s.first at (1 + k) in
    let mixes = mix_at-back s.mix at (1 + k) in
    let head : ((at + 1) + k == 0) ≡ false = grind (arith, nat_tests) in
    let other : (1 + k == 0) ≡ false = grind (arith, nat_tests) in
    cc

pub cells_of-back : (s : Segment) (at : ℕ) → at < s.len → cells_of (back_of s at) ≡ headed (drop at (cells_of s))
cells_of-back s at h =
    let z : 0 + at ≡ at = omega arith in
    let d : drop at (cells_of s) ≡ run (cell_at s) at (s.len - at) = drop-run (cell_at s) 0 s.len at (omega arith) ∙ ap (λ (x : ℕ). run (cell_at s) x (s.len - at)) z in
    let a : at + 0 ≡ at = omega arith in
    let first_side : side_at (side_at s.first at) 0 ≡ side_at s.first at = side_at-side_at s.first at 0 ∙ ap (side_at s.first) a in
    let first_mix : mix_at (back_mix s.mix at) 0 ≡ mix_at s.mix at = mix_at-back s.mix at 0 ∙ ap (mix_at s.mix) a in
    headed-run (cell_at s) (cell_at (back_of s at)) at (s.len - at) (omega arith) (let e : cell_at (back_of s at) 0 ≡ cell (side_at s.first at) (mix_at s.mix at) true = cc in e) (λ k. rest_is s at k)
    ∙ ap headed (sym d)

pub headed-append : (xs ys : List Cell) → 0 < length xs → headed (xs ++ ys) ≡ headed xs ++ ys
headed-append [] ys h = absurd (omega arith)
headed-append (x ∷ xs) ys h = refl

headed-run_self : (s : Segment) (n : ℕ) → headed (run (cell_at s) 0 n) ≡ run (cell_at s) 0 n
headed-run_self s zero = refl
headed-run_self s (suc n) = refl

pub headed-cells_of : (s : Segment) → headed (cells_of s) ≡ cells_of s
headed-cells_of s = headed-run_self s s.len
