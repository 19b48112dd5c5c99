-- Clips are loaded one after another, over a store that stays as it is.
use Rattle.std.proofs.Common.{◌≡◌, ℕ, ◌+◌, ◌<◌, Bool, List, [], ◌∷◌, ◌++◌, length, take, drop, get_or, refl, ap, sym, subst, ◌∙◌, add-one, arith}
use Rattle.std.proofs.Math.Seq.{drop-cons}
use Rattle.std.proofs.lemmas.List.{take_more, take-append-drop, length_push}
use Rattle.tl_ports.specs.Seen.{StoreSeen}
use Rattle.script_lang.specs.declared.script.ClipLine.{ClipLine}
use Rattle.clip_store.specs.Clip.{ClipOf}
use Rattle.timeline_app.specs.declared.session.HeadStop.{HeadStop}
use Rattle.timeline_app.specs.Session.{Fetching, LoadsFile, LoadsLines, StopsAmong, StopsAt, fetched_by}

-- After some lines the store is as it was, and these clips are loaded.
pub record HasLoaded (tells : Bool) (old now : StoreSeen) (lines : List ClipLine) (clips : List ClipOf) : Type 0 where
  pub same : now ≡ old
  pub loads : LoadsLines (fetched_by tells old old) lines [] clips

file_under : (t : Bool) (a b c : StoreSeen) (line : ClipLine) (before after : List ClipOf)
    → LoadsFile (fetched_by t a b) line before after → LoadsFile (fetched_by t a c) line before after
file_under t a b c line before after h = record { bytes = h.bytes; fetched = h.fetched; number = h.number; loads = h.loads }

lines_under : (t : Bool) (a b c : StoreSeen) (lines : List ClipLine) (before after : List ClipOf)
    → LoadsLines (fetched_by t a b) lines before after → LoadsLines (fetched_by t a c) lines before after
lines_under t a b c [] before after h = h
lines_under t a b c (line ∷ lines) before after h = (h.0, file_under t a b c line before h.0 h.1, lines_under t a b c lines h.0 after h.2)

lines_last : (by : Fetching) (lines : List ClipLine) (line : ClipLine) (before mid after : List ClipOf)
    → LoadsLines by lines before mid → LoadsFile by line mid after → LoadsLines by (lines ++ line ∷ []) before after
lines_last by [] line before mid after h f = (after, subst (λ (clips : List ClipOf). LoadsFile by line clips after) h f, refl)
lines_last by (first ∷ lines) line before mid after h f = (h.0, h.1, lines_last by lines line h.0 mid after h.2 f)

pub loaded_more : (t : Bool) (old now new : StoreSeen) (lines : List ClipLine) (i : ℕ) (line : ClipLine) (clips after : List ClipOf)
    → i < length lines → line ≡ get_or lines i line → HasLoaded t old now (take i lines) clips
    → LoadsFile (fetched_by t now new) line clips after → new ≡ now → HasLoaded t old new (take (i + 1) lines) after
loaded_more t old now new lines i line clips after within is h f same =
    let more : take (i + 1) lines ≡ take i lines ++ line ∷ [] = take_more lines i line within ∙ ap (λ x. take i lines ++ x ∷ []) (sym is) in
    let here : LoadsFile (fetched_by t old new) line clips after = subst (λ (s : StoreSeen). LoadsFile (fetched_by t s new) line clips after) h.same f in
    let all = lines_last (fetched_by t old old) (take i lines) line [] clips after h.loads (file_under t old new old line clips after here) in
    record {
      same = same ∙ h.same;
      loads = subst (λ (ls : List ClipLine). LoadsLines (fetched_by t old old) ls [] after) (sym more) all;
    }

pub loaded_stop : (t : Bool) (old now new : StoreSeen) (lines : List ClipLine) (i : ℕ) (line : ClipLine) (clips : List ClipOf) (why : HeadStop)
    → i < length lines → line ≡ get_or lines i line → HasLoaded t old now (take i lines) clips
    → StopsAt (fetched_by t now new) line clips why → StopsAmong (fetched_by t old new) lines why
loaded_stop t old now new lines i line clips why within is h stops =
    let here : drop i lines ≡ get_or lines i line ∷ drop (i + 1) lines = rw (add-one) (drop-cons lines i line within) in
    record {
      front = take i lines;
      line = line;
      rest = drop (i + 1) lines;
      parts = sym (take-append-drop i lines) ∙ ap (λ ls. take i lines ++ ls) (here ∙ ap (λ x. x ∷ drop (i + 1) lines) (sym is));
      before = clips;
      loads = lines_under t old old new (take i lines) [] clips h.loads;
      stops = subst (λ (s : StoreSeen). StopsAt (fetched_by t s new) line clips why) h.same stops;
    }

-- There are as many clips as lines.
pub loaded_count : (by : Fetching) (lines : List ClipLine) (before after : List ClipOf)
    → LoadsLines by lines before after → length after ≡ length before + length lines
loaded_count by [] before after h = let e = ap length h in omega (arith, e)
loaded_count by (line ∷ lines) before after h =
    let put = ap length h.1.loads.put in
    let more = length_push before h.1.loads.clip in
    let rest = loaded_count by lines h.0 after h.2 in
    omega (arith, put, more, rest)
