-- The clips that are known by their names.
use Rattle.std.proofs.Common.{◌≡◌, ℕ, suc, ◌+◌, ◌<◌, ◌≤◌, List, [], ◌∷◌, length, drop, get_or, Option, Some, None, is_some, Bool, true, false, if◌then◌else◌, cond, refl, ap, sym, ◌∙◌, subst, add-one, arith}
use Rattle.std.specs.Option.{option_or}
use Rattle.std.specs.Str.{bytes_eq}
use Rattle.std.proofs.lemmas.Slice.Eq.{bytes_eq-Decides}
use Rattle.std.proofs.Math.Seq.{drop-cons}
use Rattle.std.proofs.Math.ListN.{drop_of_length-le}
use Rattle.edl_build.specs.Clip.{clip_from}

none_of : (x : Option (ℕ × ℕ)) → is_some x ≡ false → x ≡ None
none_of None e = refl
none_of (Some x) e = absurd (cc)

or_none : (x : Option (ℕ × ℕ)) → x ≡ option_or x None
or_none None = refl
or_none (Some x) = refl

-- a clip that is put stands for its name where there was none
pub put_known : (b : Bool) (old new : Option (ℕ × ℕ)) (clip : ℕ × ℕ) → (b ≡ true → old ≡ None) → new ≡ cond b (Some clip) old → new ≡ option_or old (if b then Some clip else None)
put_known true old new clip none e = e ∙ ap (λ x. option_or x (Some clip)) (sym (none refl))
put_known false old new clip none e = e ∙ or_none old

pub none_at : (at : List ℕ → Option (ℕ × ℕ)) (name other : List ℕ) → is_some (at name) ≡ false → bytes_eq name other ≡ true → at other ≡ None
none_at at name other none same =
    let equal : name ≡ other = (bytes_eq-Decides name other).0 same in
    subst (λ (key : List ℕ). at key ≡ None) equal (none_of (at name) none)

-- one more clip
known_cons : (b : Bool) (old next : Option (ℕ × ℕ)) (clip : ℕ × ℕ) → option_or (option_or old (if b then Some clip else None)) next ≡ option_or old (if b then Some clip else next)
known_cons b (Some x) next clip = refl
known_cons true None next clip = refl
known_cons false None next clip = refl

pub known_next : (clips : List (List ℕ × ℕ)) (n i : ℕ) (clip : List ℕ × ℕ) (text : List ℕ) (old new : Option (ℕ × ℕ)) (name : List ℕ) → i < length clips
    → clip ≡ get_or clips i clip → text ≡ clip.0
    → new ≡ option_or old (if bytes_eq text name then Some (n, clip.1) else None)
    → option_or new (clip_from (n + 1) (drop (i + 1) clips) name) ≡ option_or old (clip_from n (drop i clips) name)
unfolding clip_from
known_next clips n i clip text old new name within is named put =
    let parts : drop i clips ≡ get_or clips i clip ∷ drop (i + 1) clips = rw (add-one) (drop-cons clips i clip within) in
    let first : drop i clips ≡ clip ∷ drop (i + 1) clips = parts ∙ ap (λ x. x ∷ drop (i + 1) clips) (sym is) in
    let kept : new ≡ option_or old (if bytes_eq clip.0 name then Some (n, clip.1) else None) = put ∙ ap (λ key. option_or old (if bytes_eq key name then Some (n, clip.1) else None)) named in
    rw (first, kept) (known_cons (bytes_eq clip.0 name) old (clip_from (n + 1) (drop (i + 1) clips) name) (n, clip.1))

pub known_done : (clips : List (List ℕ × ℕ)) (n i : ℕ) (x : Option (ℕ × ℕ)) (name : List ℕ) → length clips ≤ i → option_or x (clip_from n (drop i clips) name) ≡ x
unfolding clip_from
known_done clips n i x name past =
    let none : drop i clips ≡ [] = drop_of_length-le clips past in
    rw none (sym (or_none x))
