use Rattle.std.proofs.Common.{List, ap}
use Rattle.tl_model.specs.declared.journal.Entry.{Entry}
use Rattle.edit_desk.specs.Desk.{state_of}
use Rattle.studio.specs.Known.{desk_at}
use Rattle.studio_tests.proofs.passes.stop_first.Goals as goal

pub stop-requires-clause-once : goal.stop-requires-clause-once
stop-requires-clause-once g c =
    ap (λ (es : List Entry). (state_of g.M.Media.library (record (desk_at c.args.studio.now c.args.main.now) { seen = es })).is_stopped) c.requires.first
