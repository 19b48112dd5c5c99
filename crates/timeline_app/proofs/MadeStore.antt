-- The store of a made script, by what was put into it.
use Rattle.std.proofs.Common.{◌≡◌, ◌≢◌, ℕ, List, Option, Some, None, refl, sym, ap, subst, ◌∙◌}
use Rattle.std.specs.Prelude.{codes}
use Rattle.tl_ports.specs.FileList.{PutsFile}
use Rattle.tl_ports.specs.Seen.{StoreSeen}
use Rattle.work_gen.specs.Clip.{IsClip}
use Rattle.work_gen.specs.Script.{script}
use Rattle.timeline_app.specs.Made.{IsMade}
use Rattle.timeline_app.specs.Words.{made_frames}

clip_unmade : made_frames (codes "g.mkv") ≡ None
unfolding made_frames
clip_unmade = refl

none≢some : {A : Type 0} (x : A) → None ≡ Some x → ⊥
none≢some x is = absurd cc

-- the clip's name is no script's
apart : (name : List ℕ) (frames : ℕ) → made_frames name ≡ Some frames → codes "g.mkv" ≢ name
apart name frames named same = none≢some frames (sym clip_unmade ∙ (ap made_frames same ∙ named))

pub made_of : (name : List ℕ) (frames : ℕ) (text bytes : List ℕ) (empty first store : StoreSeen) → made_frames name ≡ Some frames
    → ((other : List ℕ) → empty.file other ≡ None) → PutsFile empty first name text → PutsFile first store (codes "g.mkv") bytes
    → text ≡ script frames → IsClip frames bytes → store.faults ≡ 0 → IsMade name frames store
made_of name frames text bytes empty first store named nothing one two is whole faults = record {
  script = two.others name (λ same. apart name frames named (sym same)) ∙ (one.put ∙ ap Some is);
  bytes = bytes;
  clip = two.put;
  whole = whole;
  others = λ other unlike clip. two.others other clip ∙ (one.others other unlike ∙ nothing other);
  faults = faults;
}
