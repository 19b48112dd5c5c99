use Rattle.std.proofs.Common.{◌∙◌, ap}
use Rattle.ffv1_rice.specs.Bits.{skipped}
use Rattle.ffv1_rice.proofs.ReaderLemmas.{reading_at, skipped-at}
use Rattle.ffv1_rice.proofs.reader.BitReader.number.Goals as goal

pub returns-clause-reader : goal.returns-clause-reader
returns-clause-reader c =
    ap (reading_at c.self.inside.bytes.now) c.later-self-inside.ensures
    ∙ skipped-at c.args.count c.self.inside.bytes.now c.self.inside.position c.self.invariant.0
    ∙ ap (skipped c.args.count) c.self.view_is
