use Rattle.timeline_app.proofs.Listed.{memory_listed}
use Rattle.timeline_app.proofs.early.end_wanting.Goals as goal

pub end_early-requires : goal.end_early-requires
end_early-requires g c = memory_listed
