use Rattle.std.proofs.Common.{ℕ, List, length, sym, ap, ◌∙◌, subst}
use Rattle.tl_limits.specs.Limits.{IsRecordLength}
use Rattle.pic_planes.specs.declared.shape.Chroma.TheVariants.{Shifts}
use Rattle.ffv1_record.specs.declared.record.Coder.TheVariants.{Range}
use Rattle.ffv1_record.specs.Spelling.{record_bytes}
use Rattle.clip_store.proofs.DefaultBytes.{default_bytes_few}
use Rattle.work_gen.proofs.frames.write_clip.Goals as goal

pub start-requires-clause-private : goal.start-requires-clause-private
start-requires-clause-private g c =
    subst (λ (b : List ℕ). IsRecordLength (length b)) (sym (c.as_slice.ensures.value ∙ c.in_ok-private.ensures.bytes ∙ ap record_bytes c.requires.coding)) (default_bytes_few Range (Shifts 1 1) 2 2)
