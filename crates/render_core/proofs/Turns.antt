-- The machine's turns, over plain values.
use Rattle.std.proofs.Common.{◌≡◌, ℕ, zero, suc, ◌<◌, cond, Bool, true, false, List, [], ◌∷◌, ◌++◌, length, take, drop, map, Option, Some, None, Result, Ok, Err, refl, sym, ap, subst, ◌∙◌, arith}
use Rattle.std.specs.Prelude.{slice_get, is_none}
use Rattle.std.specs.List.{remove}
use Rattle.std.proofs.lemmas.Option.{same_Some}
use Rattle.tl_model.specs.Media.{Library}
use Rattle.std.proofs.lemmas.List.{map-append, take-map, drop-map, length-map}
use Rattle.tl_model.specs.Media.{RenderedOf}
use Rattle.tl_model.specs.declared.recipe.Recipe.{Recipe}
use Rattle.tl_model.specs.Cells.{recipes, is_among}
use Rattle.tl_model.specs.declared.fault.RenderFault.{RenderFault}
use Rattle.render_core.specs.declared.job.Job.{Job}
use Rattle.render_core.specs.declared.reply.PlayReply.{PlayReply}
use Rattle.render_core.specs.declared.reply.PlayReply.TheVariants as play
use Rattle.render_core.specs.Board.{of_play, AtPending}
use Rattle.render_core.specs.State.{State, is_open, without_holder, with_result, update, without, put_first}
use Rattle.render_core.specs.Step.{Reply, Closed, Filed, Pending, unless_closed, end_reply, after_file, after_play, picture_of, play_reply}
use Rattle.render_core.specs.Parts.{Places, MachineOf, in_state, recipes_of, AreOf}

AreOf-take : {M : Type 0} (library : M) (n : ℕ) (rs : List (RenderedOf M)) → AreOf library rs → AreOf library (take n rs)
AreOf-take library zero rs h = tt
AreOf-take library (suc n) [] h = tt
AreOf-take library (suc n) (r ∷ rs) h = (h.0, AreOf-take library n rs h.1)

AreOf-drop : {M : Type 0} (library : M) (n : ℕ) (rs : List (RenderedOf M)) → AreOf library rs → AreOf library (drop n rs)
AreOf-drop library zero rs h = h
AreOf-drop library (suc n) [] h = tt
AreOf-drop library (suc n) (r ∷ rs) h = AreOf-drop library n rs h.1

AreOf-append : {M : Type 0} (library : M) (xs ys : List (RenderedOf M)) → AreOf library xs → AreOf library ys → AreOf library (xs ++ ys)
AreOf-append library [] ys one two = two
AreOf-append library (x ∷ xs) ys one two = (one.0, AreOf-append library xs ys one.1 two)

pub AreOf-remove : {M : Type 0} (library : M) (i : ℕ) (rs : List (RenderedOf M)) → AreOf library rs → AreOf library (remove rs i)
AreOf-remove library i rs h = AreOf-append library (take i rs) (drop (suc i) rs) (AreOf-take library i rs h) (AreOf-drop library (suc i) rs h)

pub AreOf-filed : {M : Type 0} (library : M) (n : ℕ) (r : RenderedOf M) (rs results : List (RenderedOf M)) → r.library ≡ library → AreOf library rs → results ≡ take n (r ∷ rs) → AreOf library results
AreOf-filed library n r rs results e h is = subst (AreOf library) (sym is) (AreOf-take library n (r ∷ rs) (e, h))

pub AreOf-at : {M : Type 0} (library : M) (rs : List (RenderedOf M)) (i : ℕ) (r : RenderedOf M) → AreOf library rs → slice_get rs i ≡ Some r → r.library ≡ library
AreOf-at library [] i r h e = absurd cc
AreOf-at library (x ∷ xs) zero r h e = let same : x ≡ r = cc in ap (λ (y : RenderedOf _). y.library) (sym same) ∙ h.0
AreOf-at library (x ∷ xs) (suc i) r h e = AreOf-at library xs i r h.1 e

pub held_inside : {M : Type 0} (m now : MachineOf M) (i j : ℕ) (job : Job) → m ≡ now → i ≡ j → slice_get now.state.jobs j ≡ Some job → slice_get m.state.jobs i ≡ Some job
held_inside m now i j job v idx e = ap (λ (x : MachineOf _). slice_get x.state.jobs i) v ∙ ap (slice_get now.state.jobs) idx ∙ e

-- what ending a job that was closed leaves and tells
closed_base : {M F : Type 0} (m : MachineOf M) (at i : ℕ) (jobs : List Job) (job : Job) (closed : ℕ) → slice_get m.state.jobs i ≡ Some job → job.closed ≡ Some closed → jobs ≡ update i without_holder m.state.jobs → (in_state (record m.state { jobs = jobs }) m ≡ in_state (after_file m.cache at i (slice_get m.state.jobs i) m.state) m) × (◌≡◌ {A = Reply F} (Closed closed) (end_reply Filed (slice_get m.state.jobs i)))
closed_base {M} {F} m at i jobs job closed e shut h =
    let opened : State = record m.state { jobs = update i (with_result at) m.state.jobs; filed = take m.cache (job.recipe ∷ m.state.filed) } in
    let not_open : is_open job ≡ false = ap (λ (o : Option ℕ). is_none o) shut in
    let state : after_file m.cache at i (slice_get m.state.jobs i) m.state ≡ record m.state { jobs = update i without_holder m.state.jobs } =
    ap (λ (o : Option Job). after_file m.cache at i o m.state) e ∙ ap (λ (b : Bool). cond b opened (record m.state { jobs = update i without_holder m.state.jobs })) not_open in (
      ap (λ (js : List Job). in_state (record m.state { jobs = js }) m) h ∙ ap (λ (s : State). in_state s m) (sym state),
      sym (ap (λ (o : Option Job). end_reply {F = F} Filed o) e ∙ ap (λ (o : Option ℕ). unless_closed {F = F} Filed o) shut),
    )

abbrev EndsAs : {M F : Type 0} → MachineOf M → State → Reply F → MachineOf M → ℕ → ℕ → Type 0
EndsAs m s told now at j = (in_state s m ≡ in_state (after_file now.cache at j (slice_get now.state.jobs j) now.state) now) × (told ≡ end_reply Filed (slice_get now.state.jobs j))

carried : {M F : Type 0} (m now : MachineOf M) (s : State) (told : Reply F) (at i j : ℕ) → m ≡ now → i ≡ j → EndsAs m s told m at i → EndsAs m s told now at j
carried m now s told at i j v idx h = subst (λ x. EndsAs m s told now at x) idx (subst (λ x. EndsAs m s told x at i) v h)

pub ends_closed : {M F : Type 0} (m now : MachineOf M) (at i j : ℕ) (jobs : List Job) (job : Job) (closed : ℕ) → m ≡ now → i ≡ j → slice_get m.state.jobs i ≡ Some job → job.closed ≡ Some closed → jobs ≡ update i without_holder m.state.jobs → (in_state (record m.state { jobs = jobs }) m ≡ in_state (after_file now.cache at j (slice_get now.state.jobs j) now.state) now) × (◌≡◌ {A = Reply F} (Closed closed) (end_reply Filed (slice_get now.state.jobs j)))
ends_closed m now at i j jobs job closed v idx e shut h = carried m now (record m.state { jobs = jobs }) (Closed closed) at i j v idx (closed_base m at i jobs job closed e shut h)

-- what ending an open job with its result leaves and tells
open_base : {M F : Type 0} (m : MachineOf M) (at i : ℕ) (jobs : List Job) (results : List Recipe) (job : Job) → slice_get m.state.jobs i ≡ Some job → job.closed ≡ None → jobs ≡ update i (with_result at) m.state.jobs → results ≡ take m.cache (job.recipe ∷ m.state.filed) → EndsAs {F = F} m (record m.state { jobs = jobs; filed = results }) Filed m at i
open_base {M} {F} m at i jobs results job e shut h f =
    let opened : State = record m.state { jobs = update i (with_result at) m.state.jobs; filed = take m.cache (job.recipe ∷ m.state.filed) } in
    let still_open : is_open job ≡ true = ap (λ (o : Option ℕ). is_none o) shut in
    let state : after_file m.cache at i (slice_get m.state.jobs i) m.state ≡ opened =
    ap (λ (o : Option Job). after_file m.cache at i o m.state) e ∙ ap (λ (b : Bool). cond b opened (record m.state { jobs = update i without_holder m.state.jobs })) still_open in
    let made : State → MachineOf M = λ s. in_state s m in (
      ap (λ (js : List Job). made (record m.state { jobs = js; filed = results })) h
          ∙ ap (λ (rs : List Recipe). made (record m.state { jobs = update i (with_result at) m.state.jobs; filed = rs })) f
          ∙ ap made (sym state),
      sym (ap (λ (o : Option Job). end_reply {F = F} Filed o) e ∙ ap (λ (o : Option ℕ). unless_closed {F = F} Filed o) shut),
    )

pub ends_open : {M F : Type 0} (m now : MachineOf M) (at i j : ℕ) (jobs : List Job) (results : List Recipe) (job : Job) → m ≡ now → i ≡ j → slice_get m.state.jobs i ≡ Some job → job.closed ≡ None → jobs ≡ update i (with_result at) m.state.jobs → results ≡ take m.cache (job.recipe ∷ m.state.filed) → (in_state (record m.state { jobs = jobs; filed = results }) m ≡ in_state (after_file now.cache at j (slice_get now.state.jobs j) now.state) now) × (◌≡◌ {A = Reply F} Filed (end_reply Filed (slice_get now.state.jobs j)))
ends_open m now at i j jobs results job v idx e shut h f = carried m now (record m.state { jobs = jobs; filed = results }) Filed at i j v idx (open_base m at i jobs results job e shut h f)

pub told_open : {M F : Type 0} (m now : MachineOf M) (i j : ℕ) (job : Job) → m ≡ now → i ≡ j → slice_get m.state.jobs i ≡ Some job → job.closed ≡ None → end_reply {F = F} Filed (slice_get now.state.jobs j) ≡ Filed
told_open {M} {F} m now i j job v idx e shut =
    let item = held_inside now m j i job (sym v) (sym idx) e in
    ap (λ (o : Option Job). end_reply {F = F} Filed o) item ∙ ap (λ (o : Option ℕ). unless_closed {F = F} Filed o) shut

pub recipes-filed : {M : Type 0} (n : ℕ) (r : RenderedOf M) (rs results : List (RenderedOf M)) (recipe : Recipe) → results ≡ take n (r ∷ rs) → r.recipe ≡ recipe → recipes_of results ≡ take n (recipe ∷ recipes_of rs)
recipes-filed {M} n r rs results recipe e is =
    ap recipes_of e ∙ sym (take-map (λ (x : RenderedOf M). x.recipe) n (r ∷ rs)) ∙ ap (λ (x : Recipe). take n (x ∷ recipes_of rs)) is

recipes-remove : {M : Type 0} (i : ℕ) (rs : List (RenderedOf M)) → recipes_of (remove rs i) ≡ remove (recipes_of rs) i
recipes-remove {M} i rs =
    let f : RenderedOf M → Recipe = λ r. r.recipe in
    map-append f (take i rs) (drop (suc i) rs)
    ∙ ap (λ (xs : List Recipe). xs ++ map f (drop (suc i) rs)) (sym (take-map f i rs))
    ∙ ap (λ (xs : List Recipe). take i (map f rs) ++ xs) (sym (drop-map f (suc i) rs))

recipe_at : {M : Type 0} (rs : List (RenderedOf M)) (i : ℕ) (r : RenderedOf M) → slice_get rs i ≡ Some r → slice_get (recipes_of rs) i ≡ Some r.recipe
recipe_at [] i r e = absurd cc
recipe_at (x ∷ rs) zero r e = let same : x ≡ r = cc in ap (λ (y : RenderedOf _). Some y.recipe) same
recipe_at (x ∷ rs) (suc i) r e = recipe_at rs i r e

abbrev PlaysAs : {M F : Type 0} → (M → Library F) → MachineOf M → List Recipe → Reply F → MachineOf M → ℕ → Type 0
PlaysAs library m results told now n = (in_state (record m.state { filed = results }) m ≡ in_state (after_play (slice_get (recipes now.state.history.line) n) now.state) now) × (told ≡ play_reply (library now.library) (slice_get (recipes now.state.history.line) n) now.state)

play_base : {M F : Type 0} (library : M → Library F) (m : MachineOf M) (n i : ℕ) (recipe : Recipe) (filed results : List (RenderedOf M)) (r : RenderedOf M) (told : Reply F) → m.state.filed ≡ recipes_of filed → slice_get (recipes m.state.history.line) n ≡ Some recipe → Places recipe (recipes_of filed) (Some i) → slice_get filed i ≡ Some r → r.library ≡ m.library → results ≡ r ∷ remove filed i → told ≡ picture_of ((library r.library).render r.recipe) → PlaysAs library m (recipes_of results) told m n
play_base {M} {F} library m n i recipe filed results r told is_filed at p item lib is shown =
    let same : r.recipe ≡ recipe = same_Some r.recipe recipe (sym (recipe_at filed i r item) ∙ p.2) in
    let firsts : recipes_of results ≡ put_first recipe m.state.filed =
    ap recipes_of is ∙ ap (λ (rs : List Recipe). r.recipe ∷ rs) (recipes-remove i filed ∙ sym p.3 ∙ ap (without recipe) (sym is_filed)) ∙ ap (λ (x : Recipe). x ∷ without recipe m.state.filed) same in
    let among : is_among recipe m.state.filed ≡ true = ap (is_among recipe) is_filed ∙ p.1 in
    let moved : State = record m.state { filed = put_first recipe m.state.filed } in
    let state : after_play (slice_get (recipes m.state.history.line) n) m.state ≡ moved =
    ap (λ (o : Option Recipe). after_play o m.state) at ∙ ap (λ (b : Bool). cond b moved m.state) among in
    let given : play_reply (library m.library) (slice_get (recipes m.state.history.line) n) m.state ≡ picture_of ((library m.library).render recipe) =
    ap (λ (o : Option Recipe). play_reply (library m.library) o m.state) at ∙ ap (λ (b : Bool). cond b (picture_of ((library m.library).render recipe)) (Pending recipe)) among in (
      ap (λ (rs : List Recipe). in_state (record m.state { filed = rs }) m) firsts ∙ ap (λ (s : State). in_state s m) (sym state),
      shown ∙ ap (λ (x : M). picture_of ((library x).render r.recipe)) lib ∙ ap (λ (x : Recipe). picture_of ((library m.library).render x)) same ∙ sym given,
    )

pub plays : {M F : Type 0} (library : M → Library F) (m now : MachineOf M) (n i : ℕ) (recipe : Recipe) (filed results : List (RenderedOf M)) (r : RenderedOf M) (told : Reply F) → m ≡ now → m.state.filed ≡ recipes_of filed → slice_get (recipes m.state.history.line) n ≡ Some recipe → Places recipe (recipes_of filed) (Some i) → slice_get filed i ≡ Some r → r.library ≡ m.library → results ≡ r ∷ remove filed i → told ≡ picture_of ((library r.library).render r.recipe) → (in_state (record m.state { filed = recipes_of results }) m ≡ in_state (after_play (slice_get (recipes now.state.history.line) n) now.state) now) × (told ≡ play_reply (library now.library) (slice_get (recipes now.state.history.line) n) now.state)
plays library m now n i recipe filed results r told v is_filed at p item lib is shown = subst (λ x. PlaysAs library m (recipes_of results) told x n) v (play_base library m n i recipe filed results r told is_filed at p item lib is shown)

pub AreOf-moved : {M : Type 0} (library : M) (i : ℕ) (r : RenderedOf M) (rs results : List (RenderedOf M)) → AreOf library rs → slice_get rs i ≡ Some r → results ≡ r ∷ remove rs i → AreOf library results
AreOf-moved library i r rs results h e is = subst (AreOf library) (sym is) (AreOf-at library rs i r h e, AreOf-remove library i rs h)

pub place_within : {M : Type 0} (filed : List (RenderedOf M)) (i : ℕ) → i < length (recipes_of filed) → i < length filed
place_within {M} filed i h = let e = length-map filed (λ (r : RenderedOf M). r.recipe) in omega (arith, e)

pub at_some : {A : Type 0} (xs : List A) (i : ℕ) → i < length xs → (x : A) × (slice_get xs i ≡ Some x)
at_some [] i h = absurd (omega arith)
at_some (x ∷ xs) zero h = (x, refl)
at_some (x ∷ xs) (suc i) h = at_some xs i (omega arith)

-- a filed result isn't pending
pub not_pending : {F : Type 0} (given : PlayReply F) (o : Result F RenderFault) (fact : Recipe → Type 0) → of_play given ≡ picture_of o → AtPending given fact
not_pending (play.Frame frame) o fact e = tt
not_pending (play.Fault fault) o fact e = tt
not_pending (play.Pending recipe) (Ok frame) fact e = absurd cc
not_pending (play.Pending recipe) (Err fault) fact e = absurd cc
not_pending (play.PastEnd len) o fact e = tt
