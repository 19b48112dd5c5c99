-- What is built from parts in order.
use Rattle.std.proofs.Common.{◌≡◌, ℕ, List, Option, None, Result, Ok, Err, sym, refl, ◌∙◌, ap}
use Rattle.edl_text.specs.declared.event.Event.{Event}
use Rattle.edl_text.specs.declared.fault.EdlFault.{EdlFault}
use Rattle.edl_text.specs.declared.fault.EdlFault.TheVariants as faults
use Rattle.edl_text.specs.List.{Gives, Fails}
use Rattle.tl_model.specs.declared.segment.Segment.{Segment}
use Rattle.edl_build.specs.declared.part.Part.{Part}
use Rattle.edl_build.specs.Clip.{clip_from}
use Rattle.edl_build.specs.Build.{parts_from, IsOrdered, laid, IsBuilt}

pointwise_same : (f g : List ℕ → Option (ℕ × ℕ)) → ((name : List ℕ) → f name ≡ g name) → f ≡ g
pointwise_same f g same = λ i. λ name. same name i

pub built_segments : (clips : List (List ℕ × ℕ)) (known : List ℕ → Option (ℕ × ℕ)) (events : List Event) (parts ordered : List Part) (segments : List Segment)
    → ((name : List ℕ) → known name ≡ clip_from 0 clips name) → parts_from known None events ≡ Ok parts → IsOrdered parts ordered → laid ordered ≡ Ok segments → IsBuilt clips events (Ok segments)
built_segments clips known events parts ordered segments same read order lay =
    let found : parts_from (clip_from 0 clips) None events ≡ Ok parts = ap (λ (f : List ℕ → Option (ℕ × ℕ)). parts_from f None events) (sym (pointwise_same known (clip_from 0 clips) same)) ∙ read in
    rw found (ordered, order, sym lay)

pub built_fault : (clips : List (List ℕ × ℕ)) (known : List ℕ → Option (ℕ × ℕ)) (events : List Event) (parts ordered : List Part) (fault : EdlFault)
    → ((name : List ℕ) → known name ≡ clip_from 0 clips name) → parts_from known None events ≡ Ok parts → IsOrdered parts ordered → Fails fault (laid ordered) → IsBuilt clips events (Err fault)
built_fault clips known events parts ordered faults.NoMemory same read order lay = tt
built_fault clips known events parts ordered (faults.Line n why) same read order lay =
    let found : parts_from (clip_from 0 clips) None events ≡ Ok parts = ap (λ (f : List ℕ → Option (ℕ × ℕ)). parts_from f None events) (sym (pointwise_same known (clip_from 0 clips) same)) ∙ read in
    rw found (ordered, order, sym lay)
