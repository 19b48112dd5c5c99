use Rattle.std.proofs.Common.{ℕ, List, length, sym, ◌∙◌, ap, subst}
use Rattle.tl_limits.specs.Limits.{IsRecordLength}
use Rattle.ffv1_record.specs.Spelling.{record_bytes}
use Rattle.clip_store.proofs.DefaultBytes.{default_bytes_few}
use Rattle.clip_store.proofs.format.Output.of_default.Goals as goal

pub returns-clause-sound : goal.returns-clause-sound
returns-clause-sound c = record {
  shape = c.width-width.ensures.sound;
  few = subst (λ (b : List ℕ). IsRecordLength (length b)) (sym (c.in_ok-bytes.ensures.bytes ∙ ap record_bytes c.in_ok-record.ensures.fields))
      (default_bytes_few c.args.coder c.args.shape.chroma c.args.h c.args.v);
  read = c.in_ok-bytes.ensures.read_back;
  sound = c.lawful.ensures.fields;
  suits = c.in_ok-record.ensures.suits;
}
