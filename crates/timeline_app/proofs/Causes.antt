-- What stopped a script is so at the session's end.
use Rattle.std.proofs.Common.{◌≡◌, ℕ, ◌+◌, ◌<◌, ◌≤◌, Bool, List, [], ◌++◌, Option, Err, inl, inr, refl, sym, ap, subst, ◌∙◌, arith}
use Rattle.tl_model.specs.declared.journal.Act.{Act}
use Rattle.tl_ports.specs.declared.fault.FetchFault.{FetchFault}
use Rattle.tl_ports.specs.declared.fault.FetchFault.TheVariants as fetching
use Rattle.tl_ports.specs.Outside.{Rose, Wanted, FetchHasCause}
use Rattle.tl_ports.specs.Seen.{StoreSeen}
use Rattle.render_core.specs.Calls.{CallOf}
use Rattle.render_core.specs.State.{owed}
use Rattle.render_core.specs.declared.reply.Full.TheVariants as full
use Rattle.edit_desk.specs.Desk.{FixedOf, DeskOf, Hears, IsFull, heard, state_of}
use Rattle.play_head.specs.Playing.{Setting}
use Rattle.play_head.specs.PlayingLine.{next_need}
use Rattle.timeline_app.specs.Course.{IsRefused}

pub rose_within : (old before now new : ℕ) → old ≤ before → now ≤ new → Rose before now → Rose old new
rose_within old before now new le more rose = omega arith

module _ (tells : Bool) (old before now new : StoreSeen) (same : before.file ≡ old.file) (le : old.faults ≤ before.faults) (more : now.faults ≤ new.faults) where
  -- a fetch that was refused within a session has its cause over the session
  pub fetch_within : (file : Wanted) (fault : FetchFault) → (fault ≡ fetching.NoMemory → ⊥) → FetchHasCause tells before now file (Err fault) → FetchHasCause tells old new file (Err fault)
  fetch_within file fetching.Failed other h = rose_within old.faults before.faults now.faults new.faults le more h
  fetch_within file fetching.Missing other (inl h) = inl (h.0, ap (λ (files : List ℕ → Option (List ℕ)). files file.name) (sym same) ∙ h.1)
  fetch_within file fetching.Missing other (inr h) = inr (rose_within old.faults before.faults now.faults new.faults le more h)
  fetch_within file (fetching.TooLarge limit) other (e, inl h) = (e, inl (h.0, (h.1.0, ap (λ (files : List ℕ → Option (List ℕ)). files file.name) (sym same) ∙ h.1.1, h.1.2)))
  fetch_within file (fetching.TooLarge limit) other (e, inr h) = (e, inr (rose_within old.faults before.faults now.faults new.faults le more h))
  fetch_within file fetching.NoMemory other h = absurd (other refl)

module _ {M K F : Type 0} (s : Setting M F) where
  -- the front of a later desk is the earlier one
  front_is : (d new : DeskOf M K) (more : List (CallOf F)) (h : Hears s.library d new more) → record new { seen = d.seen } ≡ d
  front_is d new more h = ap (λ (f : FixedOf M K). record { fixed = f; seen = d.seen }) h.fixed

  pub refused_there : (start d new : DeskOf M K) (calls more : List (CallOf F)) (left : List Act) (len owing : ℕ) → heard s.library start ≡ [] → Hears s.library start d calls → (h : Hears s.library d new more) → IsFull s.library d (next_need left (state_of s.library d)) (full.JournalFull len owing) → IsRefused s new calls left (len, owing)
  refused_there start d new calls more left len owing empty script h f =
      let is = front_is d new more h in
      record {
        front = d.seen;
        rest = h.more;
        seen = h.seen;
        heard = ap (heard s.library) is ∙ script.heard ∙ ap (λ (cs : List (CallOf F)). cs ++ calls) empty;
        len = f.0;
        owing = f.1 ∙ ap (λ (x : DeskOf M K). owed (state_of s.library x)) (sym is);
        full = subst (λ (x : DeskOf M K). x.fixed.limit < len + owing + next_need left (state_of s.library x)) (sym is) f.2;
      }
