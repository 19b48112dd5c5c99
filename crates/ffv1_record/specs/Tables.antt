-- Quantization tables, from the lengths of their runs. RFC 9043 sections 3.4 and 4.1.
use Rattle.std.specs.Prelude.{◌≡◌, ℕ, ◌+◌, ◌-◌, ◌*◌, ◌/◌, ◌<◌, ◌≤◌, List, [], ◌∷◌, ◌++◌, length, map, reverse, drop, replicate, slice_index, slice_index_or, sum, All, ℤ, pos, neg_ℤ, ◌+ℤ◌, nat_abs}

-- The first 128 entries of a table. Run v, from 0, gives the scale times v to as many entries as its length.
abbrev pub first_half : ℕ → ℕ → List ℕ → List ℕ
first_half scale v [] = []
first_half scale v (run ∷ runs) = replicate run (scale * v) ++ first_half scale (v + 1) runs

-- All 256 entries: entry 256 - k is minus entry k, and entry 128 is minus entry 127.
abbrev pub mirrored : List ℕ → List ℤ
mirrored half = map pos half ++ neg_ℤ (pos (slice_index half 127)) ∷ map (λ n. neg_ℤ (pos n)) (reverse (drop 1 half))

abbrev pub table_of : ℕ → List ℕ → List ℤ
table_of scale runs = mirrored (first_half scale 0 runs)

-- the scale after a table
abbrev pub next_scale : ℕ → List ℕ → ℕ
next_scale scale runs = scale * (2 * length runs - 1)

-- the tables of a set from a scale on
abbrev pub tables_from : ℕ → List (List ℕ) → List (List ℤ)
tables_from scale [] = []
tables_from scale (runs ∷ more) = table_of scale runs ∷ tables_from (next_scale scale runs) more

abbrev pub scale_after : ℕ → List (List ℕ) → ℕ
scale_after scale [] = scale
scale_after scale (runs ∷ more) = scale_after (next_scale scale runs) more

-- A set of five tables: the lengths of their runs, their entries, and how many contexts they give.
pub record TableSet : Type 0 where
  pub runs : List (List ℕ)
  pub tables : List (List ℤ)
  pub context_count : ℕ

abbrev pub set_of : List (List ℕ) → TableSet
set_of runs = record { runs = runs; tables = tables_from 1 runs; context_count = (scale_after 1 runs + 1) / 2 }

-- an entry of one of the five tables, by its place
abbrev pub entry : List (List ℤ) → ℕ → ℕ → ℤ
entry tables table place = slice_index_or (slice_index_or tables table []) place (pos 0)

-- Any sum of one entry of each table has a magnitude below the number of contexts. RFC 9043 section 3.5.
abbrev pub AreContexts : List (List ℤ) → ℕ → Type 0
AreContexts tables count =
    (a b c d e : ℕ) → nat_abs (entry tables 0 a +ℤ entry tables 1 b +ℤ entry tables 2 c +ℤ entry tables 3 d +ℤ entry tables 4 e) < count

-- the lengths of a table's runs: none is 0, and together they are 128
pub record AreRuns (runs : List ℕ) : Type 0 where
  pub some : All (λ run. 0 < run) runs
  pub whole : sum runs ≡ 128

-- the largest scale
abbrev pub max_scale : ℕ
max_scale = 32768

abbrev pub ScalesFit : ℕ → List (List ℕ) → Type 0
ScalesFit scale [] = Unit {0}
ScalesFit scale (runs ∷ more) = (next_scale scale runs ≤ max_scale) × ScalesFit (next_scale scale runs) more

-- the runs of a set's five tables
pub record AreSetRuns (runs : List (List ℕ)) : Type 0 where
  pub five : length runs ≡ 5
  pub each : All AreRuns runs
  pub scales : ScalesFit 1 runs

-- the runs of a record's sets
pub record AreSets (sets : List (List (List ℕ))) : Type 0 where
  pub some : 1 ≤ length sets
  pub few : length sets ≤ 8
  pub each : All AreSetRuns sets
