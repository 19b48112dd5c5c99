-- What a writer of fields stands at: what was written, and the set of states of all fields but the tables.
use Rattle.std.specs.Prelude.{ℕ, Bool, List, [], ◌∷◌}
use Rattle.ffv1_range.specs.Writing.{Writing, put_all}
use Rattle.ffv1_range.specs.Symbol.{with_states, set_after}
use Rattle.ffv1_record.specs.Reading.{fresh}
use Rattle.ffv1_record.specs.Spelling.{runs}

pub record Sink : Type 0 where
  pub writing : Writing
  pub set : List ℕ

abbrev pub sink : Writing → List ℕ → Sink
sink writing set = record { writing = writing; set = set }

-- after the bits of fields
unfoldable pub wrote : Sink → List (ℕ × Bool) → Sink
wrote w bits = sink (put_all w.writing (with_states w.writing.table w.set bits)) (set_after w.writing.table w.set bits)

-- after tables, each with a fresh set of its own
unfoldable pub wrote_table : Sink → List ℕ → Sink
wrote_table w table = sink (wrote (sink w.writing fresh) (runs table)).writing w.set

abbrev pub wrote_tables : Sink → List (List ℕ) → Sink
wrote_tables w [] = w
wrote_tables w (table ∷ more) = wrote_tables (wrote_table w table) more

abbrev pub wrote_sets : Sink → List (List (List ℕ)) → Sink
wrote_sets w [] = w
wrote_sets w (set ∷ more) = wrote_sets (wrote_tables w set) more
