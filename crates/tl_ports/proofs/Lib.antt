pub mod FileLemmas
pub mod PlanLemmas
pub mod StreamLemmas
pub mod PieceLemmas
