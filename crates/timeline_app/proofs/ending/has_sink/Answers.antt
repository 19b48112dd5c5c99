use Rattle.std.proofs.Common.{◌∙◌, rules, tests}
use Rattle.std.proofs.lemmas.Iterator.{YieldsList-from_slice}
use Rattle.std.proofs.lemmas.Iterator.Search.{any_from_yields_List}
use Rattle.timeline_app.specs.Ending.{any_ending, is_sink}
use Rattle.timeline_app.proofs.EndLines.{any-endings}
use Rattle.timeline_app.proofs.ending.has_sink.Goals as goal

pub returns : goal.returns
returns c =
    any_from_yields_List (any_ending is_sink) _ _ c.any.result c.any.ensures.ran (YieldsList-from_slice c.args.journal.now cc) (λ x b q k. search (rules, tests))
    ∙ any-endings is_sink c.args.journal.now
