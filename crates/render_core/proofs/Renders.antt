-- Every job's recipe can be rendered, since it was that of a cell of a sound timeline.
use Rattle.std.proofs.Common.{◌≡◌, ℕ, zero, suc, cond, Bool, true, false, ◌&&◌, ◌||◌, List, [], ◌∷◌, ◌++◌, take, drop, map, Option, Some, None, sym, subst}
use Rattle.std.specs.Prelude.{slice_get}
use Rattle.tl_model.specs.Media.{Library, CanRender}
use Rattle.tl_model.specs.declared.recipe.Recipe.{Recipe}
use Rattle.tl_model.specs.Cells.{Cell, recipes, is_among}
use Rattle.tl_model.specs.Sound.{IsSound, AreSound}
use Rattle.tl_model.proofs.Renders.{cell-renders}
use Rattle.render_core.specs.declared.job.Job.{Job}
use Rattle.render_core.specs.Export.{ExportOf}
use Rattle.render_core.specs.State.{is_open, with_holder, without_holder, with_result, close_if, update, range, has_open, new_job, want_one, want_all}
use Rattle.render_core.specs.Parts.{AreShown, AreSoundExports}
use Rattle.render_core.specs.Waiting.{Took}

-- the recipes of a range, one after the other
CanAll : {F : Type 0} → Library F → List Recipe → Type 0
CanAll lib [] = Unit {0}
CanAll lib (r ∷ rs) = CanRender lib r × CanAll lib rs

all-recipes : {F : Type 0} (lib : Library F) (line : List Cell) → AreSound lib line → CanAll lib (recipes line)
unfolding CanAll
all-recipes lib [] s = tt
all-recipes lib (c ∷ cs) s = (cell-renders lib c.mix c.side s.0.0 s.0.1, all-recipes lib cs s.1)

all-take : {F : Type 0} (lib : Library F) (n : ℕ) (rs : List Recipe) → CanAll lib rs → CanAll lib (take n rs)
unfolding CanAll
all-take lib zero rs h = tt
all-take lib (suc n) [] h = tt
all-take lib (suc n) (r ∷ rs) h = (h.0, all-take lib n rs h.1)

all-drop : {F : Type 0} (lib : Library F) (n : ℕ) (rs : List Recipe) → CanAll lib rs → CanAll lib (drop n rs)
unfolding CanAll
all-drop lib zero rs h = h
all-drop lib (suc n) [] h = tt
all-drop lib (suc n) (r ∷ rs) h = all-drop lib n rs h.1

-- the jobs after each change
shown-push : {F : Type 0} (lib : Library F) (jobs : List Job) (job : Job) → CanRender lib job.recipe → AreShown lib jobs → AreShown lib (jobs ++ job ∷ [])
shown-push lib [] job one h = (one, tt)
shown-push lib (j ∷ jobs) job one h = (h.0, shown-push lib jobs job one h.1)

shown-want_by : {F : Type 0} (lib : Library F) (jobs : List Job) (r : Recipe) (b : Bool) → CanRender lib r → AreShown lib jobs → AreShown lib (cond b jobs (jobs ++ new_job r ∷ []))
shown-want_by lib jobs r true one h = h
shown-want_by lib jobs r false one h = shown-push lib jobs (new_job r) one h

shown-all : {F : Type 0} (lib : Library F) (filed rs : List Recipe) (jobs : List Job) → CanAll lib rs → AreShown lib jobs → AreShown lib (want_all filed rs jobs)
unfolding CanAll
shown-all lib filed [] jobs all h = h
shown-all lib filed (r ∷ rs) jobs all h = shown-all lib filed rs (want_one filed r jobs) all.1 (shown-want_by lib jobs r (is_among r filed || has_open r jobs) all.0 h)

pub shown-want : {F : Type 0} (lib : Library F) (filed : List Recipe) (first len : ℕ) (line : List Cell) (jobs : List Job) → AreSound lib line → AreShown lib jobs → AreShown lib (want_all filed (range first len line) jobs)
shown-want lib filed first len line jobs s h = shown-all lib filed (range first len line) jobs (all-take lib len (drop first (recipes line)) (all-drop lib first (recipes line) (all-recipes lib line s))) h

close-renders : {F : Type 0} (lib : Library F) (at : ℕ) (job : Job) (b : Bool) → CanRender lib job.recipe → CanRender lib (cond b (record { recipe = job.recipe; holder = job.holder; closed = Some at }) job).recipe
close-renders lib at job true h = h
close-renders lib at job false h = h

pub shown-close : {F : Type 0} (lib : Library F) (test : Recipe → Bool) (at : ℕ) (jobs : List Job) → AreShown lib jobs → AreShown lib (map (close_if test at) jobs)
shown-close lib test at [] h = tt
shown-close lib test at (job ∷ jobs) h = (close-renders lib at job (is_open job && test job.recipe) h.0, shown-close lib test at jobs h.1)

pub shown-with_holder : {F : Type 0} (lib : Library F) (pass i : ℕ) (jobs : List Job) → AreShown lib jobs → AreShown lib (update i (with_holder pass) jobs)
shown-with_holder lib pass i [] h = tt
shown-with_holder lib pass zero (job ∷ jobs) h = h
shown-with_holder lib pass (suc i) (job ∷ jobs) h = (h.0, shown-with_holder lib pass i jobs h.1)

pub shown-without_holder : {F : Type 0} (lib : Library F) (i : ℕ) (jobs : List Job) → AreShown lib jobs → AreShown lib (update i without_holder jobs)
shown-without_holder lib i [] h = tt
shown-without_holder lib zero (job ∷ jobs) h = h
shown-without_holder lib (suc i) (job ∷ jobs) h = (h.0, shown-without_holder lib i jobs h.1)

pub shown-with_result : {F : Type 0} (lib : Library F) (at i : ℕ) (jobs : List Job) → AreShown lib jobs → AreShown lib (update i (with_result at) jobs)
shown-with_result lib at i [] h = tt
shown-with_result lib at zero (job ∷ jobs) h = h
shown-with_result lib at (suc i) (job ∷ jobs) h = (h.0, shown-with_result lib at i jobs h.1)

pub shown-at : {F : Type 0} (lib : Library F) (jobs : List Job) (i : ℕ) (job : Job) → AreShown lib jobs → slice_get jobs i ≡ Some job → CanRender lib job.recipe
shown-at lib [] i job h e = absurd cc
shown-at lib (j ∷ jobs) zero job h e = let same : j ≡ job = cc in subst (λ (x : Job). CanRender lib x.recipe) same h.0
shown-at lib (j ∷ jobs) (suc i) job h e = shown-at lib jobs i job h.1 e

-- the exports after each change
pub sound_exports-push : {F : Type 0} (lib : Library F) (xs : List ExportOf) (x : ExportOf) → IsSound lib x.line → AreSoundExports lib xs → AreSoundExports lib (xs ++ x ∷ [])
sound_exports-push lib [] x one h = (one, tt)
sound_exports-push lib (y ∷ xs) x one h = (h.0, sound_exports-push lib xs x one h.1)

pub sound_exports-update : {F : Type 0} (lib : Library F) (change : ExportOf → ExportOf) → ((x : ExportOf) → IsSound lib x.line → IsSound lib (change x).line) → (i : ℕ) (xs : List ExportOf) → AreSoundExports lib xs → AreSoundExports lib (update i change xs)
sound_exports-update lib change keeps i [] h = tt
sound_exports-update lib change keeps zero (x ∷ xs) h = (keeps x h.0, h.1)
sound_exports-update lib change keeps (suc i) (x ∷ xs) h = (h.0, sound_exports-update lib change keeps i xs h.1)

pub sound_exports-at : {F : Type 0} (lib : Library F) (xs : List ExportOf) (i : ℕ) (x : ExportOf) → AreSoundExports lib xs → slice_get xs i ≡ Some x → IsSound lib x.line
sound_exports-at lib [] i x h e = absurd cc
sound_exports-at lib (y ∷ xs) zero x h e = let same : y ≡ x = cc in subst (λ (z : ExportOf). IsSound lib z.line) same h.0
sound_exports-at lib (y ∷ xs) (suc i) x h e = sound_exports-at lib xs i x h.1 e

pub took_sound : {F : Type 0} (lib : Library F) (xs : List ExportOf) (i : ℕ) (o : Option ExportOf) (name : List ℕ) (line : List Cell) → slice_get xs i ≡ o → AreSoundExports lib xs → Took name line o → IsSound lib line
took_sound lib xs i None name line e h t = absurd t
took_sound lib xs i (Some x) name line e h t = subst (IsSound lib) (sym t.1) (sound_exports-at lib xs i x h e)
