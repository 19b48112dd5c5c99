-- The format that a sound script asks for is one that a shelf of its clips can be made ready in.
use Rattle.std.proofs.Common.{◌≡◌, ℕ, suc, ◌+◌, ◌<◌, Bool, true, false, true≢false, cond, ◌&&◌, ◌||◌, List, [], ◌∷◌, length, map, Option, Some, refl, ap, sym, subst, ◌∙◌, arith}
use Rattle.std.proofs.lemmas.Bool.{and_parts, leb-true, eqb-true}
use Rattle.std.specs.Str.{bytes_eq}
use Rattle.pic_planes.specs.Grid.{ReachesEnds, reaches_ends}
use Rattle.pic_planes.specs.declared.shape.Chroma.{Chroma}
use Rattle.pic_planes.specs.declared.shape.Chroma.TheVariants.{Grey, Shifts}
use Rattle.pic_planes.specs.Shape.{AreShifts, IsShape, layout}
use Rattle.edl_build.specs.Clip.{clip_from}
use Rattle.script_lang.specs.declared.script.ChromaWord.{ChromaWord}
use Rattle.script_lang.specs.declared.script.ChromaWord.TheVariants as chroma
use Rattle.script_lang.specs.declared.script.ClipLine.{ClipLine}
use Rattle.script_lang.specs.declared.script.FormatLine.{FormatLine}
use Rattle.script_lang.specs.declared.script.FormatLine.TheVariants as line
use Rattle.script_lang.specs.declared.script.Script.{Script}
use Rattle.script_lang.specs.Header.{chroma_planes, is_covered, is_grid, is_side}
use Rattle.script_lang.specs.Line.{is_one_of}
use Rattle.script_lang.specs.ScriptSound as sound
use Rattle.clip_store.specs.Clip.{ClipOf}
use Rattle.clip_store.specs.Readying.{IsFormat, IsGridFor}
use Rattle.play_head.specs.Acts.{number_or}
use Rattle.timeline_app.specs.Head.{format_for}
use Rattle.timeline_app.specs.Session.{Fetching, LoadsLines}
use Rattle.timeline_app.proofs.Loading.{loaded_count}

planes_shift : (kind : ChromaWord) → AreShifts (chroma_planes kind)
planes_shift chroma.Grey = tt
planes_shift chroma.C444 = (omega arith, omega arith)
planes_shift chroma.C440 = (omega arith, omega arith)
planes_shift chroma.C422 = (omega arith, omega arith)
planes_shift chroma.C420 = (omega arith, omega arith)
planes_shift chroma.C411 = (omega arith, omega arith)
planes_shift chroma.C410 = (omega arith, omega arith)

reaches : (columns rows width height : ℕ) (planes : Chroma) → reaches_ends columns rows width height planes ≡ true → ReachesEnds columns rows width height planes
reaches columns rows width height Grey h = tt
reaches columns rows width height (Shifts a b) h = let both = and_parts _ _ h in (eqb-true _ _ both.0, eqb-true _ _ both.1)

-- the two parts of a format of its own that is covered
pub covered_shape : (columns rows width height : ℕ) (kind : ChromaWord) → is_covered columns rows width height kind ≡ true
    → IsShape (layout width height (chroma_planes kind))
unfolding is_covered
covered_shape columns rows width height kind h =
    let sides = and_parts (is_side width) (is_side height) (and_parts (is_side width && is_side height) (is_grid columns rows width height) (and_parts ((is_side width && is_side height) && is_grid columns rows width height) (reaches_ends columns rows width height (chroma_planes kind)) h).0).0 in
    let across = and_parts _ _ sides.0 in
    let down = and_parts _ _ sides.1 in
    record {
      width = (leb-true _ _ across.0, leb-true _ _ across.1);
      height = (leb-true _ _ down.0, leb-true _ _ down.1);
      chroma = planes_shift kind;
    }

pub covered_grid : (columns rows width height : ℕ) (kind : ChromaWord) → is_covered columns rows width height kind ≡ true
    → IsGridFor (layout width height (chroma_planes kind)) columns rows
unfolding is_covered
covered_grid columns rows width height kind h =
    let whole = and_parts ((is_side width && is_side height) && is_grid columns rows width height) (reaches_ends columns rows width height (chroma_planes kind)) h in
    let grid = (and_parts (is_side width && is_side height) (is_grid columns rows width height) whole.0).1 in
    let a = and_parts _ _ grid in
    let b = and_parts _ _ a.0 in
    let d = and_parts _ _ b.0 in
    let e = and_parts _ _ d.0 in
    record {
      grid = record { some_columns = leb-true _ _ e.0; some_rows = leb-true _ _ d.1; few = leb-true _ _ a.1 };
      columns = leb-true _ _ e.1;
      rows = leb-true _ _ b.1;
      reaches = reaches columns rows width height (chroma_planes kind) whole.1;
    }

-- the number of a clip that has the name
known_by : (n k count : ℕ) (start : ℕ) (found : Option (ℕ × ℕ)) (here there : Bool) → (there ≡ true → number_or k found < n + 1 + count)
    → (here || there) ≡ true → number_or k (cond here (Some (n, start)) found) < n + suc count
known_by n k count start found true there rest h = omega arith
known_by n k count start found false there rest h = let later = rest h in omega (arith, later)

known : (clips : List (List ℕ × ℕ)) (name : List ℕ) (n k : ℕ) → is_one_of (map (λ clip. clip.0) clips) name ≡ true
    → number_or k (clip_from n clips name) < n + length clips
unfolding clip_from
known [] name n k h = absurd (true≢false (sym h))
known (clip ∷ more) name n k h =
    known_by n k (length more) clip.1 (clip_from (n + 1) more name) (bytes_eq clip.0 name) (is_one_of (map (λ clip. clip.0) more) name)
    (known more name (n + 1) k) h

pub format_sound : (clips : List (List ℕ × ℕ)) (shelf : List ClipOf) (asked : FormatLine)
    → sound.IsFormat (map (λ clip. clip.0) clips) asked → length shelf ≡ length clips → IsFormat shelf (format_for clips asked)
format_sound clips shelf (line.As name) h same = let number = known clips name 0 (length clips) h in omega (arith, number, same)
format_sound clips shelf (line.Own width height kind coding columns rows) h same = covered_grid columns rows width height kind h

-- the name and the start of a clip's line
abbrev named : ClipLine → List ℕ × ℕ
named clip = (clip.name, clip.start)

names_of : (lines : List ClipLine) → map (λ (clip : List ℕ × ℕ). clip.0) (map named lines) ≡ map (λ (clip : ClipLine). clip.name) lines
names_of [] = refl
names_of (clip ∷ lines) = ap (λ (names : List (List ℕ)). clip.name ∷ names) (names_of lines)

count_of : (lines : List ClipLine) → length (map named lines) ≡ length lines
count_of [] = refl
count_of (clip ∷ lines) = let rest = count_of lines in omega (arith, rest)

-- The format of a sound script is that of one of its clips, or is covered.
pub asked_sound : (head : Script) (lines : List ClipLine) (clips : List (List ℕ × ℕ)) → sound.IsScript head → lines ≡ head.clips
    → clips ≡ map named lines → sound.IsFormat (map (λ clip. clip.0) clips) head.format
asked_sound head lines clips is same named_so =
    let names = ap (map (λ (clip : List ℕ × ℕ). clip.0)) (named_so ∙ ap (map named) same) ∙ names_of head.clips in
    subst (λ (names : List (List ℕ)). sound.IsFormat names head.format) (sym names) is.said.format

-- As many clips are on the shelf as were named.
pub shelf_count : (head : Script) (lines : List ClipLine) (clips : List (List ℕ × ℕ)) (shelf : List ClipOf) (by : Fetching)
    → lines ≡ head.clips → clips ≡ map named lines → LoadsLines by head.clips [] shelf → length shelf ≡ length clips
shelf_count head lines clips shelf by same named_so loads =
    let shelved = loaded_count by head.clips [] shelf loads in
    let counted : length clips ≡ length head.clips = ap length (named_so ∙ ap (map named) same) ∙ count_of head.clips in
    omega (arith, shelved, counted)
