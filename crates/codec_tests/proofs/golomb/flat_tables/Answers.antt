-- The sum of five entries that are 0.
use Rattle.std.proofs.Common.{◌≡◌, ◌<◌, ◌∙◌, ℕ, zero, suc, List, [], ◌∷◌, get_or, replicate, refl, sym, ap, subst, arith, nat_abs}
use Rattle.std.specs.Prelude.{ℤ, pos, ◌+ℤ◌, ◌+◌, ◌-◌, ◌%◌}
use Rattle.ffv1_predict.specs.declared.near.Near.{Near}
use Rattle.ffv1_predict.specs.Near.{context}
use Rattle.codec_tests.proofs.golomb.flat_tables.Goals as goal

zeros-at : (m k : ℕ) → get_or (replicate m (pos 0)) k (pos 0) ≡ pos 0
zeros-at zero k = refl
zeros-at (suc m) zero = refl
zeros-at (suc m) (suc k) = zeros-at m k

flat-context : (t : List ℤ) → ((k : ℕ) → get_or t k (pos 0) ≡ pos 0) → (n : Near) → nat_abs (context (t ∷ t ∷ t ∷ t ∷ t ∷ []) n) < 1
flat-context t flat n =
    let a = flat ((256 + n.l - n.tl) % 256) in
    let b = flat ((256 + n.tl - n.t) % 256) in
    let c = flat ((256 + n.t - n.tr) % 256) in
    let d = flat ((256 + n.ll - n.l) % 256) in
    let e = flat ((256 + n.tt - n.t) % 256) in
    rw (a, b, c, d, e) (omega arith)

pub returns : goal.returns
returns c = flat-context (replicate 256 (pos 0)) (zeros-at 256)
