use Rattle.std.proofs.Common.{◌≡◌, map, ap, sym, ◌∙◌}
use Rattle.ffv1_record.specs.Parameters.{Parameters}
use Rattle.ffv1_record.specs.Tables.{set_of}
use Rattle.ffv1_record.proofs.Contexts.{filled-is}
use Rattle.ffv1_record.proofs.record.Record.fill.Goals as goal

pub returns : goal.returns
returns c =
    let sets : c.args.self.now.sets ≡ map set_of c.as_slice.result.now = sym (ap (λ (p : Parameters). p.sets) c.self.view_is) ∙ ap (map set_of) (sym c.as_slice.ensures.value) in
    c.fill.ensures ∙ filled-is c.args.self.now c.as_slice.result.now c.args.set c.index-as_slice-set.result sets c.requires c.index-as_slice-set.is
