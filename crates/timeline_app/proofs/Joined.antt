-- The journal of a studio that is closed, by what main and the passes that were joined into it had seen.
use Rattle.std.proofs.Common.{◌≡◌, ℕ, zero, suc, ◌+◌, ◌<◌, ◌≤◌, Bool, true, false, List, [], ◌∷◌, ◌++◌, ltb, refl, sym, ap, subst, ◌∙◌, arith}
use Rattle.std.specs.List.{flat_map}
use Rattle.std.proofs.lemmas.List.{append_assoc}
use Rattle.tl_model.specs.Media.{Library}
use Rattle.tl_model.specs.declared.journal.Entry.{Entry}
use Rattle.tl_ports.specs.Seen.{VaultSeen}
use Rattle.render_core.specs.Calls.{CallOf, calls_of, own, own_calls}
use Rattle.render_core.specs.State.{start}
use Rattle.render_core.proofs.Journals.{own_calls-others}
use Rattle.edit_desk.specs.Desk.{DeskOf, heard, setup_of}
use Rattle.play_head.specs.Carrying.{Carried, Carrier, CarriesAll, carried_calls}
use Rattle.play_head.specs.Work.{Turn, AreTurns, turns_calls}
use Rattle.timeline_app.specs.Course.{IsCrew, IsWorker, calls_by}
use Rattle.timeline_app.proofs.Crew.{calls_there, nothing_more, own_after, own_rest}

-- A pass of this number ended, and main had then seen all that it had.
pub record IsJoined (number : ℕ) (seen journal : List Entry) : Type 0 where
  pub front : List Entry
  pub rest : List Entry
  pub is : seen ≡ front ++ rest
  pub all : own number journal ≡ own number front

-- none of its entries comes later
pub joined_over : (number : ℕ) (seen rest : List Entry) → IsJoined number seen (seen ++ rest) → own number rest ≡ []
joined_over number seen rest j =
    let all : own number (j.front ++ (j.rest ++ rest)) ≡ own number j.front = ap (own number) (sym (append_assoc j.front j.rest rest) ∙ ap (λ (es : List Entry). es ++ rest) (sym j.is)) ∙ j.all in
    own_rest number j.rest rest (own_after number j.front (j.rest ++ rest) all)

-- What main knows of a studio that it closed: its own entries, those of each pass that it made, and that there are no others.
pub record IsClosed (made : ℕ) (seen rest : List Entry) : Type 0 where
  pub main : own 0 (seen ++ rest) ≡ own 0 seen
  pub passes : (number : ℕ) → 1 ≤ number → number ≤ made → IsJoined number seen (seen ++ rest)
  pub others : (number : ℕ) → made < number → own number (seen ++ rest) ≡ []

none_beside : (made : ℕ) (seen rest : List Entry) → IsClosed made seen rest → (number : ℕ) (b : Bool) → ltb made (suc number) ≡ b → own (suc number) rest ≡ []
none_beside made seen rest c number true e = own_rest (suc number) seen rest (c.others (suc number) (grind (arith, e)))
none_beside made seen rest c number false e = joined_over (suc number) seen rest (c.passes (suc number) (omega arith) (grind (arith, e)))

none_later : (made : ℕ) (seen rest : List Entry) → IsClosed made seen rest → (number : ℕ) → own number rest ≡ []
none_later made seen rest c zero = own_after 0 seen rest c.main
none_later made seen rest c (suc number) = none_beside made seen rest c number (ltb made (suc number)) refl

-- so that main had seen the whole journal
pub closed_all : (made : ℕ) (seen rest : List Entry) → IsClosed made seen rest → rest ≡ []
closed_all made seen rest c = nothing_more rest (none_later made seen rest c)

-- A pass of this number ended. It had heard these calls, and no entry of its comes after what it had seen.
pub record HasLeft {M K F : Type 0} (library : M → Library F) (L : Type 0) (d : DeskOf M K) (number : ℕ) (calls : List (CallOf F)) : Type 0 where
  pub pass : DeskOf M L
  pub numbered : pass.fixed.number ≡ number
  pub library_is : pass.fixed.library ≡ d.fixed.library
  pub cache_is : pass.fixed.cache ≡ d.fixed.cache
  pub heard_is : heard library pass ≡ calls
  pub rest : List Entry
  pub is : d.seen ≡ pass.seen ++ rest
  pub all : own number d.seen ≡ own number pass.seen

module _ {M K L F : Type 0} (library : M → Library F) (d : DeskOf M K) where
  -- these are then its calls in the journal
  pub left_calls : (number : ℕ) (calls : List (CallOf F)) → HasLeft library L d number calls → calls_by library d number ≡ calls
  left_calls number calls h =
      let seen = h.pass.seen in
      ap (λ (es : List Entry). own_calls number (calls_of (setup_of library d) es)) h.is
      ∙ calls_there (setup_of library d) number seen h.rest (ap (own number) (sym h.is) ∙ h.all)
      ∙ ap (λ (m : M). own_calls number (calls_of (record { library = library m; cache = d.fixed.cache }) seen)) (sym h.library_is)
      ∙ ap (λ (c : ℕ). own_calls number (calls_of (record { library = library h.pass.fixed.library; cache = c }) seen)) (sym h.cache_is)
      ∙ ap (λ (n : ℕ). own_calls n (calls_of (setup_of library h.pass) seen)) (sym h.numbered)
      ∙ h.heard_is

  -- a worker's
  pub left_worker : (number : ℕ) (turns : List (Turn F)) → AreTurns turns → HasLeft library L d number (turns_calls number turns) → IsWorker library d number
  left_worker number turns are h = record { turns = turns; are_turns = are; calls = left_calls number (turns_calls number turns) h }

-- what the exporter and then main carried out
pub carries-append : {F : Type 0} (by : Carrier F) (old mid new : VaultSeen) (early late : List Carried) → CarriesAll by old mid early → CarriesAll by mid new late → CarriesAll by old new (early ++ late)
carries-append by old mid new [] late h k = subst (λ (v : VaultSeen). CarriesAll by v new late) h k
carries-append by old mid new (c ∷ early) late h k = (h.0, h.1, carries-append by h.0 mid new early late h.2 k)

module _ {M K F : Type 0} (library : M → Library F) (d : DeskOf M K) (others : ℕ) where
  no_worker : (number : ℕ) → own number d.seen ≡ [] → IsWorker library d number
  no_worker number e = record { turns = []; are_turns = tt; calls = own_calls-others (setup_of library d) number 0 d.seen start e }

  worker_by : ((number : ℕ) → 2 ≤ number → number ≤ others → IsWorker library d number) → ((number : ℕ) → others < number → own number d.seen ≡ []) → (number : ℕ) → 2 ≤ number → (b : Bool) → ltb others number ≡ b → IsWorker library d number
  worker_by workers few number le true e = no_worker number (few number (grind (arith, e)))
  worker_by workers few number le false e = workers number le (grind (arith, e))

  -- the crew by its passes: the exporter's calls, and those of each worker that main made
  pub crew_by : (early : List Carried) → calls_by library d 1 ≡ flat_map (carried_calls 1) early → ((number : ℕ) → 2 ≤ number → number ≤ others → IsWorker library d number) → ((number : ℕ) → others < number → own number d.seen ≡ []) → IsCrew library d others early
  crew_by early exporter workers few = record {
    exporter = exporter;
    workers = λ number le. worker_by workers few number le (ltb others number) refl;
    few = few;
  }
