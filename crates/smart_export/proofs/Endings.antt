-- How a whole export ends.
use Rattle.std.proofs.Common.{◌≡◌, ℕ, ◌+◌, List, [], ◌∷◌, ◌++◌, length, Ok, Err, refl, sym, ap, ◌∙◌, subst, arith}
use Rattle.std.proofs.lemmas.List.{append-nil}
use Rattle.std.specs.Prelude.{Bool, IsTrue}
use Rattle.tl_ports.specs.Outside.{Rose}
use Rattle.tl_model.specs.Media.{Library}
use Rattle.tl_model.specs.declared.recipe.Recipe.{Recipe}
use Rattle.tl_model.specs.declared.fault.RenderFault.{RenderFault}
use Rattle.tl_model.specs.declared.fault.Ending.{Ending}
use Rattle.tl_model.specs.declared.fault.Ending.TheVariants as ending
use Rattle.mkv_write.specs.declared.fault.WriteFault.{WriteFault}
use Rattle.mkv_write.specs.declared.fault.WriteFault.TheVariants as writing
use Rattle.mkv_write.specs.Writing.{Writing, put_of, file_of, IsPrefix}
use Rattle.mkv_write.proofs.Prefix.{prefix_trans}
use Rattle.smart_export.specs.Rendered.{HavePackets, IsTooLong}
use Rattle.smart_export.specs.Ends.{Frames, IsCut, BeginsWith, Stops, Ends, EndingHasCause, IsDoneOrNoMemory}
use Rattle.smart_export.specs.Stop.{ending_of}
use Rattle.smart_export.specs.Puts.{frames_on, PutsFrames}
use Rattle.smart_export.proofs.Parts.{put_of-file, with_packets-none}

-- What stops before the end is how the export ends.
pub ends_stopped : {F : Type 0} (tells : Bool) (held : List ℕ) (frames : Frames F) (why : Ending) → Stops tells held frames why → Ends tells held frames why
ends_stopped tells held frames (ending.Done count) h = absurd h
ends_stopped tells held frames (ending.ClipFault at fault) h = h
ends_stopped tells held frames (ending.SliceTooLong at) h = h
ends_stopped tells held frames ending.Sink h = h
ends_stopped tells held frames ending.NoMemory h = h

ends_refused : {F : Type 0} (tells : Bool) (held : List ℕ) (frames : Frames F) (fault : WriteFault) → IsCut tells held frames → Ends tells held frames (ending_of fault)
ends_refused tells held frames writing.Sink cut = cut
ends_refused tells held frames writing.NoMemory cut = cut

-- The file wasn't started.
pub ends_unstarted : {F : Type 0} (tells : Bool) (held : List ℕ) (lib : Library F) (rs : List Recipe) (w : Writing) (fault : WriteFault) → (IsTrue tells → IsPrefix held (put_of w)) → Ends tells held (frames_on lib rs w) (ending_of fault)
ends_unstarted tells held lib rs w fault put =
    ends_refused tells held (frames_on lib rs w) fault (record {
      front = [];
      rest = rs;
      packets = [];
      parts = refl;
      rendered = tt;
      prefix = λ told. subst (λ (x : Writing). IsPrefix held (file_of x)) (sym (with_packets-none w)) (prefix_trans held (put_of w) (file_of w) (put told) (put_of-file w));
    })

-- The end of the file wasn't put.
pub ends_unfinished : {F : Type 0} (tells : Bool) (mid_held held : List ℕ) (lib : Library F) (rs : List Recipe) (w after : Writing) (fault : WriteFault)
    → PutsFrames tells mid_held (frames_on lib rs w) after (Ok tt) → (IsTrue tells → IsPrefix held (file_of after)) → Ends tells held (frames_on lib rs w) (ending_of fault)
ends_unfinished tells mid_held held lib rs w after fault put last =
    ends_refused tells held (frames_on lib rs w) fault (record {
      front = rs;
      rest = [];
      packets = put.0;
      parts = sym (append-nil rs);
      rendered = put.1;
      prefix = λ told. subst (λ (x : Writing). IsPrefix held (file_of x)) put.2 (last told);
    })

-- The whole file was put.
pub ends_done : {F : Type 0} (tells : Bool) (mid_held held : List ℕ) (lib : Library F) (rs : List Recipe) (w after : Writing) (count : ℕ) → length w.packets ≡ 0
    → PutsFrames tells mid_held (frames_on lib rs w) after (Ok tt) → count ≡ length after.packets → length after.packets ≡ length w.packets + length rs → (IsTrue tells → held ≡ file_of after) → Ends tells held (frames_on lib rs w) (ending.Done count)
ends_done tells mid_held held lib rs w after count fresh put counted all last = (
  omega arith,
  record { packets = put.0; rendered = put.1; whole = λ told. last told ∙ ap file_of put.2 },
)

-- ---- completeness

HavePackets-rest : {F : Type 0} (lib : Library F) (front rest : List Recipe) → HavePackets lib (front ++ rest) → HavePackets lib rest
HavePackets-rest lib [] rest h = h
HavePackets-rest lib (r ∷ front) rest h = HavePackets-rest lib front rest h.1

no_fault : {F : Type 0} (lib : Library F) (rest : List Recipe) (fault : RenderFault) → HavePackets lib rest → BeginsWith (λ recipe. lib.render recipe ≡ Err fault) rest → ⊥
no_fault lib [] fault have begins = begins
no_fault lib (r ∷ rest) fault have begins = let fine = have.0.1.rendered in cc

not_long : {F : Type 0} (lib : Library F) (rest : List Recipe) → HavePackets lib rest → BeginsWith (IsTooLong lib) rest → ⊥
not_long lib [] have begins = begins
not_long {F} lib (r ∷ rest) have begins =
    let fine = have.0.1 in
    let same : fine.picture ≡ begins.0 = cc in
    let none = begins.2 in
    cc

-- Where each frame has a packet and the count didn't rise, only want of memory keeps the file from being whole.
pub completes : {F : Type 0} (tells : Bool) (held : List ℕ) (frames : Frames F) (before now : ℕ) (result : Ending) → Ends tells held frames result → EndingHasCause before now result
    → HavePackets frames.library frames.recipes → (Rose before now → ⊥) → IsDoneOrNoMemory result
completes tells held frames before now (ending.Done count) h cause have calm = tt
completes tells held frames before now (ending.ClipFault at fault) h cause have calm =
    no_fault frames.library h.0.rest fault (HavePackets-rest frames.library h.0.front h.0.rest (subst (HavePackets frames.library) h.0.parts have)) h.2
completes tells held frames before now (ending.SliceTooLong at) h cause have calm =
    not_long frames.library h.0.rest (HavePackets-rest frames.library h.0.front h.0.rest (subst (HavePackets frames.library) h.0.parts have)) h.2
completes tells held frames before now ending.Sink h cause have calm = calm cause
completes tells held frames before now ending.NoMemory h cause have calm = tt
