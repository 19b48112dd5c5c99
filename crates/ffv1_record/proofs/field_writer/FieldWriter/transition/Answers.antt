use Rattle.std.proofs.Common.{◌≡◌, eqb, false, refl}
use Rattle.std.proofs.lemmas.Bool.{ne_eqb}
use Rattle.ffv1_record.specs.Spelling.{transition}
use Rattle.ffv1_record.specs.Sink.{wrote}
use Rattle.ffv1_record.proofs.field_writer.FieldWriter.transition.Goals as goal

pub returns-else-coder_type-eq2 : goal.returns-else-coder_type-eq2
unfolding transition wrote
returns-else-coder_type-eq2 c =
    let other : eqb c.args.coder_type 2 ≡ false = ne_eqb _ _ c.if-coder_type-eq2.false in
    rw other refl
