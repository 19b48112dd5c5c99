-- What is wrong with the frames of a replacement.
use Rattle.std.proofs.Common.{◌≡◌, ℕ, zero, suc, ◌+◌, ◌-◌, ◌<◌, ◌≤◌, Bool, true, false, not, ◌||◌, ◌&&◌, List, [], ◌∷◌, ◌++◌, length, get_or, take, drop, Option, Some, None, refl, sym, ap, ◌∙◌, subst, append_assoc, arith}
use Rattle.std.specs.Prelude.{nat_lt, nat_le, All}
use Rattle.std.specs.List.{list_any, flat_map}
use Rattle.std.proofs.lemmas.Bool.Decides.{nat_tests}
use Rattle.std.proofs.lemmas.List.{append-nil, drop_all}
use Rattle.std.proofs.lemmas.List.Folds.{list_any-append}
use Rattle.tl_limits.specs.Limits.{max_mix, timecode_frames}
use Rattle.tl_model.specs.Edit.{IsSideWithin, IsMixWithin, IsReplacement}
use Rattle.tl_model.specs.Media.{Library}
use Rattle.tl_model.specs.Segment.{IsMixOf, Reaches, ArePieces}
use Rattle.tl_model.specs.declared.recipe.Mix.{Mix}
use Rattle.tl_model.specs.declared.edit.EditRefusal.TheVariants as refusal
use Rattle.tl_model.specs.declared.recipe.Side.{Side}
use Rattle.tl_model.specs.declared.recipe.Side.TheVariants as side
use Rattle.tl_model.specs.declared.segment.Segment.{Segment}
use Rattle.tl_model.specs.Cells.{side_at, cells}
use Rattle.time_list.specs.Apply.{names_no_clip, differs, is_late, first_of}
use Rattle.time_list.specs.Edits.{sides_from, sides_of, is_long_mix}
use Rattle.time_list.specs.Found.{IsFound}
use Rattle.time_list.specs.Changes.{IsChangeTo}
use Rattle.time_list.specs.declared.change.Change.{Change}
use Rattle.time_list.specs.declared.replace.Found.{Found}
use Rattle.time_list.proofs.Reasons.{any-same, any-late, black-none}

pub found_none : {F : Type 0} (lib : Library F) (first : Side) (n : ℕ) → n ≡ 0 → IsFound lib (sides_from first 0 n) (record { no_clip = false; differs = false; late = false })
found_none lib first n e = subst (λ (k : ℕ). IsFound lib (sides_from first 0 k) (record { no_clip = false; differs = false; late = false })) (sym e) (record { no_clip = refl; differs = refl; late = refl })

pub found_black : {F : Type 0} (lib : Library F) (first : Side) (n : ℕ) → first ≡ side.Black → IsFound lib (sides_from first 0 n) (record { no_clip = false; differs = false; late = false })
found_black lib first n e = subst (λ (x : Side). IsFound lib (sides_from x 0 n) (record { no_clip = false; differs = false; late = false })) (sym e) (record {
  no_clip = sym (black-none lib 0 n (names_no_clip lib) refl);
  differs = sym (black-none lib 0 n (differs lib) refl);
  late = sym (black-none lib 0 n (is_late lib) refl);
})

at_some : {F : Type 0} (lib : Library F) (clip frame n : ℕ) (found : Found) → n ≡ suc (n - 1) → IsFound lib (sides_from (side.Clip clip frame) 0 (suc (n - 1))) found → IsFound lib (sides_from (side.Clip clip frame) 0 n) found
at_some lib clip frame n found e h = subst (λ (k : ℕ). IsFound lib (sides_from (side.Clip clip frame) 0 k) found) (sym e) h

no_clip_one : {F : Type 0} (lib : Library F) (clip frame n : ℕ) → lib.clips ≤ clip → IsFound lib (sides_from (side.Clip clip frame) 0 (suc n)) (record { no_clip = true; differs = false; late = false })
no_clip_one lib clip frame n h =
    let t : nat_le lib.clips clip ≡ true = grind (arith, nat_tests) in
    let u : nat_lt clip lib.clips ≡ false = grind (arith, nat_tests) in
    record {
      no_clip = sym (any-same (names_no_clip lib) (side_at (side.Clip clip frame)) true 0 n (λ k. t));
      differs = sym (any-same (differs lib) (side_at (side.Clip clip frame)) false 0 n (λ k. ap (λ (b : Bool). b && not (lib.fits clip)) u));
      late = sym (any-same (is_late lib) (side_at (side.Clip clip frame)) false 0 n (λ k. ap (λ (b : Bool). b && nat_le (lib.frames clip) (frame + k)) u));
    }

pub found_no_clip : {F : Type 0} (lib : Library F) (first : Side) (clip frame n : ℕ) → first ≡ side.Clip clip frame → 0 < n → lib.clips ≤ clip → IsFound lib (sides_from first 0 n) (record { no_clip = true; differs = false; late = false })
found_no_clip lib first clip frame n e some h =
    subst (λ (x : Side). IsFound lib (sides_from x 0 n) (record { no_clip = true; differs = false; late = false })) (sym e)
    (at_some lib clip frame n (record { no_clip = true; differs = false; late = false }) (omega arith) (no_clip_one lib clip frame (n - 1) h))

clip_one : {F : Type 0} (lib : Library F) (clip frame n : ℕ) → clip < lib.clips → IsFound lib (sides_from (side.Clip clip frame) 0 (suc n)) (record { no_clip = false; differs = not (lib.fits clip); late = nat_lt (lib.frames clip) (frame + (0 + suc n)) })
clip_one lib clip frame n h =
    let t : nat_le lib.clips clip ≡ false = grind (arith, nat_tests) in
    let u : nat_lt clip lib.clips ≡ true = grind (arith, nat_tests) in
    record {
      no_clip = sym (any-same (names_no_clip lib) (side_at (side.Clip clip frame)) false 0 n (λ k. t));
      differs = sym (any-same (differs lib) (side_at (side.Clip clip frame)) (not (lib.fits clip)) 0 n (λ k. ap (λ (b : Bool). b && not (lib.fits clip)) u));
      late = sym (any-late lib clip frame 0 n h);
    }

pub found_clip : {F : Type 0} (lib : Library F) (first : Side) (clip frame n : ℕ) (found : Found) → first ≡ side.Clip clip frame → 0 < n → clip < lib.clips → found.no_clip ≡ false → found.differs ≡ not (lib.fits clip) → found.late ≡ nat_lt (lib.frames clip) (frame + n) → IsFound lib (sides_from first 0 n) found
found_clip lib first clip frame n found e some h a b c =
    let one = clip_one lib clip frame (n - 1) h in
    let m : n ≡ suc (n - 1) = omega arith in
    let k : frame + n ≡ frame + (0 + suc (n - 1)) = omega arith in
    subst (λ (x : Side). IsFound lib (sides_from x 0 n) found) (sym e)
    (at_some lib clip frame n found m (record {
      no_clip = a ∙ one.no_clip;
      differs = b ∙ one.differs;
      late = c ∙ ap (nat_lt (lib.frames clip)) k ∙ one.late;
    }))

-- two runs, and one segment more
pub found_both : {F : Type 0} (lib : Library F) (xs ys : List Side) (a b c : Found) → IsFound lib xs a → IsFound lib ys b → c.no_clip ≡ (a.no_clip || b.no_clip) → c.differs ≡ (a.differs || b.differs) → c.late ≡ (a.late || b.late) → IsFound lib (xs ++ ys) c
found_both lib xs ys a b c f g d e h = record {
  no_clip = d ∙ ap (λ (x : Bool). x || b.no_clip) f.no_clip ∙ ap (λ (x : Bool). list_any (names_no_clip lib) xs || x) g.no_clip ∙ sym (list_any-append (names_no_clip lib) xs ys);
  differs = e ∙ ap (λ (x : Bool). x || b.differs) f.differs ∙ ap (λ (x : Bool). list_any (differs lib) xs || x) g.differs ∙ sym (list_any-append (differs lib) xs ys);
  late = h ∙ ap (λ (x : Bool). x || b.late) f.late ∙ ap (λ (x : Bool). list_any (is_late lib) xs || x) g.late ∙ sym (list_any-append (is_late lib) xs ys);
}

sides-more : (ss : List Segment) (i : ℕ) (d : Segment) → i < length ss → flat_map sides_of (take (i + 1) ss) ≡ flat_map sides_of (take i ss) ++ sides_of (get_or ss i d)
sides-more [] i d h = absurd (omega arith)
sides-more (s ∷ ss) zero d h = append-nil (sides_of s)
sides-more (s ∷ ss) (suc i) d h =
    let e : suc i + 1 ≡ suc (i + 1) = omega arith in
    ap (λ (k : ℕ). flat_map sides_of (take k (s ∷ ss))) e
    ∙ ap (λ (xs : List Side). sides_of s ++ xs) (sides-more ss i d (omega arith))
    ∙ sym (append_assoc (sides_of s) (flat_map sides_of (take i ss)) (sides_of (get_or ss i d)))

pub found_more : {F : Type 0} (lib : Library F) (ss : List Segment) (i : ℕ) (d : Segment) (a b c : Found) → i < length ss → IsFound lib (flat_map sides_of (take i ss)) a → IsFound lib (sides_of (get_or ss i d)) b → c.no_clip ≡ (a.no_clip || b.no_clip) → c.differs ≡ (a.differs || b.differs) → c.late ≡ (a.late || b.late) → IsFound lib (flat_map sides_of (take (i + 1) ss)) c
found_more lib ss i d a b c h f g x y z = subst (λ (xs : List Side). IsFound lib xs c) (sym (sides-more ss i d h)) (found_both lib (flat_map sides_of (take i ss)) (sides_of (get_or ss i d)) a b c f g x y z)

-- the segments of a replacement
or_both : (a b : Bool) → (a || b) ≡ false → a ≡ false
or_both true b e = absurd cc
or_both false b e = refl

or_rest : (a b : Bool) → (a || b) ≡ false → b ≡ false
or_rest true b e = absurd cc
or_rest false b e = e

side-reaches : (x : Side) (len : ℕ) → IsSideWithin timecode_frames x → len ≤ timecode_frames → Reaches x len
side-reaches side.Black len h l = tt
side-reaches (side.Clip c f) len h l = omega (arith, h.1)

mix-within : (m : Option Mix) (len : ℕ) → IsMixWithin timecode_frames m → is_long_mix m len ≡ false → IsMixOf len m
mix-within None len h e = tt
mix-within (Some mix) len h e =
    let f = or_both (nat_lt len mix.steps) (nat_lt max_mix mix.total) e in
    let short : mix.steps ≤ len = grind (arith, nat_tests, f) in
    (short, side-reaches mix.from mix.steps h.0 h.2)

pub ArePieces-replaced : (ss : List Segment) → All IsReplacement ss → list_any (λ (s : Segment). is_long_mix s.mix s.len) ss ≡ false → ArePieces ss
ArePieces-replaced [] h e = tt
ArePieces-replaced (s ∷ ss) h e =
    let first : IsReplacement s = h 0 s (omega arith) in
    let rest : list_any (λ (s : Segment). is_long_mix s.mix s.len) ss ≡ false = or_rest (is_long_mix s.mix s.len) (list_any (λ (s : Segment). is_long_mix s.mix s.len) ss) e in
    let here : is_long_mix s.mix s.len ≡ false = or_both (is_long_mix s.mix s.len) (list_any (λ (s : Segment). is_long_mix s.mix s.len) ss) e in (
      record { formed = first.0; side = side-reaches s.first s.len first.1.0 first.1.1; mix = mix-within s.mix s.len first.1.2 here },
      ArePieces-replaced ss (λ k d l. h (suc k) d (omega arith)) rest,
    )

pub replaced_is : (items segments : List Segment) (change : Change) → All IsReplacement segments → list_any (λ (s : Segment). is_long_mix s.mix s.len) segments ≡ false → change.span.at ≡ 0 → change.span.from ≡ 0 → change.span.to ≡ length items → change.put.items ≡ segments → IsChangeTo items (cells segments) change
replaced_is items segments change h e at from to put =
    let none_left : drop (length items) items ≡ [] = drop_all (length items) items (omega arith) in
    record {
      span = record {
        at = at ∙ ap (λ (k : ℕ). length (cells (take k items))) (sym from);
        order = omega arith;
        within = omega arith;
      };
      pieces = subst ArePieces (sym put) (ArePieces-replaced segments h e);
      line =
          ap (λ (k : ℕ). cells (take k items ++ change.put.items ++ drop change.span.to items)) from
          ∙ ap (λ (k : ℕ). cells (change.put.items ++ drop k items)) to
          ∙ ap (λ (ss : List Segment). cells (change.put.items ++ ss)) none_left
          ∙ ap cells (append-nil change.put.items)
          ∙ ap cells put;
    }

pub four_clear : (a b c d : Bool) → a ≡ false → b ≡ false → c ≡ false → d ≡ false → first_of ((a, refusal.NoClip) ∷ (b, refusal.ShapeDiffers) ∷ (c, refusal.OutsideClip) ∷ (d, refusal.MixTooLong) ∷ []) ≡ None
four_clear a b c d e f g h = cc
