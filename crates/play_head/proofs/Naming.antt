-- Clips that are looked up by their names.
use Rattle.std.proofs.Common.{◌≡◌, ℕ, ◌+◌, ◌<◌, ◌≤◌, List, [], ◌∷◌, length, drop, get_or, Option, Some, None, Bool, true, false, cond, refl, ap, sym, subst, ◌∙◌, add-one, arith}
use Rattle.std.specs.Str.{bytes_eq}
use Rattle.std.proofs.Math.Seq.{drop-cons}
use Rattle.std.proofs.Math.ListN.{drop_of_length-le}
use Rattle.edl_build.specs.Clip.{clip_from}
use Rattle.play_head.specs.Acts.{number_or, clip_number}

abbrev pub IsAt : (clips : List (List ℕ × ℕ)) (name : List ℕ) (number i : ℕ) → Type 0
IsAt clips name number i = (number ≡ i) × (clip_from 0 clips name ≡ clip_from number (drop i clips) name)

parts_at : (clips : List (List ℕ × ℕ)) (i : ℕ) (clip : List ℕ × ℕ) → i < length clips → clip ≡ get_or clips i clip → drop i clips ≡ clip ∷ drop (i + 1) clips
parts_at clips i clip within is =
    let parts : drop i clips ≡ get_or clips i clip ∷ drop (i + 1) clips = rw (add-one) (drop-cons clips i clip within) in
    parts ∙ ap (λ x. x ∷ drop (i + 1) clips) (sym is)

test_at : (clips : List (List ℕ × ℕ)) (n i : ℕ) (clip : List ℕ × ℕ) (name : List ℕ) (b : Bool) → i < length clips → clip ≡ get_or clips i clip → bytes_eq clip.0 name ≡ b → clip_from n (drop i clips) name ≡ cond b (Some (n, clip.1)) (clip_from (n + 1) (drop (i + 1) clips) name)
unfolding clip_from
test_at clips n i clip name b within is same =
    ap (λ cs. clip_from n cs name) (parts_at clips i clip within is) ∙ ap (λ (x : Bool). cond x (Some (n, clip.1)) (clip_from (n + 1) (drop (i + 1) clips) name)) same

none_at : (clips : List (List ℕ × ℕ)) (n i : ℕ) (name : List ℕ) → length clips ≤ i → clip_from n (drop i clips) name ≡ None
unfolding clip_from
none_at clips n i name past = let none : drop i clips ≡ [] = drop_of_length-le clips past in ap (λ cs. clip_from n cs name) none

pub name_next : (clips : List (List ℕ × ℕ)) (number i : ℕ) (clip : List ℕ × ℕ) (name : List ℕ) → i < length clips → clip ≡ get_or clips i clip → bytes_eq clip.0 name ≡ false → IsAt clips name number i → IsAt clips name (number + 1) (i + 1)
name_next clips number i clip name within is same at =
    (let n = at.0 in omega (arith, n), at.1 ∙ test_at clips number i clip name false within is same)

pub name_found : (clips items : List (List ℕ × ℕ)) (number i : ℕ) (clip : List ℕ × ℕ) (name : List ℕ) → items ≡ clips → i < length items → clip ≡ get_or items i clip → bytes_eq clip.0 name ≡ true → IsAt items name number i → number ≡ clip_number clips name
name_found clips items number i clip name e within is same at =
    let here : clip_from 0 items name ≡ Some (number, clip.1) = at.1 ∙ test_at items number i clip name true within is same in
    subst (λ (cs : List (List ℕ × ℕ)). number ≡ clip_number cs name) e (sym (ap (number_or (length items)) here))

pub name_missed : (clips items : List (List ℕ × ℕ)) (number i : ℕ) (name : List ℕ) → items ≡ clips → length items ≤ i → i ≤ length items → IsAt items name number i → number ≡ clip_number clips name
name_missed clips items number i name e past within at =
    let nowhere : clip_from 0 items name ≡ None = at.1 ∙ none_at items number i name past in
    let n = at.0 in
    let all : number ≡ length items = omega (arith, n, past, within) in
    subst (λ (cs : List (List ℕ × ℕ)). number ≡ clip_number cs name) e (all ∙ sym (ap (number_or (length items)) nowhere))
