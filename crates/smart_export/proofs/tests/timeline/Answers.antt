use Rattle.std.proofs.Common.{◌≡◌, ℕ, zero, suc, ◌+◌, ◌≤◌, List, [], ◌∷◌, ◌++◌, length, None, sym, ap, ◌∙◌, subst, arith, length-append}
use Rattle.std.proofs.lemmas.List.{append-nil}
use Rattle.std.proofs.lemmas.List.Sums.{count_by-le-length}
use Rattle.tl_model.specs.Cells.{Cell, cell_at, run, cells_of, cells}
use Rattle.tl_model.specs.Sound.{AreSound, IsSound}
use Rattle.tl_model.specs.declared.recipe.Side.TheVariants as side
use Rattle.tl_model.specs.declared.segment.Segment.{Segment}
use Rattle.smart_export.specs.Numbers.{numbers}
use Rattle.smart_export.proofs.Timeline.{cells-length}
use Rattle.smart_export.proofs.tests.timeline.Goals as goal

abbrev black : ℕ → Segment
black len = record { first = side.Black; len = len; mix = None }

black-sound : (len from count : ℕ) → AreSound numbers (run (cell_at (black len)) from count)
black-sound len from zero = tt
black-sound len from (suc count) = ((tt, tt), black-sound len (from + 1) count)

AreSound-append : (a b : List Cell) → AreSound numbers a → AreSound numbers b → AreSound numbers (a ++ b)
AreSound-append [] b first second = second
AreSound-append (c ∷ a) b first second = (first.0, AreSound-append a b first.1 second)

both : (len : ℕ) (s : Segment) → cells (black len ∷ s ∷ []) ≡ cells_of (black len) ++ cells_of s
both len s = ap (λ (x : List Cell). cells_of (black len) ++ x) (append-nil (cells_of s))

both-length : (len : ℕ) (s : Segment) → s.len ≡ 1 → length (cells (black len ∷ s ∷ [])) ≡ len + 1
both-length len s one =
    ap length (both len s) ∙ length-append (cells_of (black len)) (cells_of s) ∙ ap (λ n. n + length (cells_of s)) (cells-length (black len)) ∙ ap (λ n. len + n) (cells-length s ∙ one)

both-sound : (len : ℕ) (s : Segment) → len ≤ 1000 → s.len ≡ 1 → AreSound numbers (cells_of s) → IsSound numbers (cells (black len ∷ s ∷ []))
both-sound len s most one sound =
    let line = cells (black len ∷ s ∷ []) in
    let all = both-length len s one in
    record {
      shown = subst (AreSound numbers) (sym (both len s)) (AreSound-append (cells_of (black len)) (cells_of s) (black-sound len 0 len) sound);
      frames = omega arith;
      segments = omega (arith, count_by-le-length (λ (c : Cell). c.is_head) line);
    }

pub returns-clause-sound : goal.returns-clause-sound
returns-clause-sound c =
    let is : c.from_vec-2.result ≡ black c.args.black ∷ c.segment-last.result ∷ [] = c.from_vec-2.ensures ∙ c.in_ok-vec-2.ensures.items in
    subst (λ (ss : List Segment). IsSound numbers (cells ss)) (sym is) (both-sound c.args.black c.segment-last.result c.requires c.segment-last.ensures.len c.segment-last.ensures.sound)

pub returns-clause-len : goal.returns-clause-len
returns-clause-len c =
    let is : c.from_vec-2.result ≡ black c.args.black ∷ c.segment-last.result ∷ [] = c.from_vec-2.ensures ∙ c.in_ok-vec-2.ensures.items in
    ap (λ (ss : List Segment). length (cells ss)) is ∙ both-length c.args.black c.segment-last.result c.segment-last.ensures.len
