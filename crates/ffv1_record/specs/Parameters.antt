-- The fields of a configuration record. RFC 9043 section 4.2.
use Rattle.std.specs.Prelude.{◌≡◌, ℕ, ◌^◌, ◌<◌, ◌≤◌, Bool, List, [], drop, map, slice_index, slice_index_or, All, ℤ}
use Rattle.pic_planes.specs.declared.shape.Chroma.{Chroma}
use Rattle.pic_planes.specs.Shape.{AreShifts}
pub use Rattle.pic_planes.specs.Grid.{IsGrid}
use Rattle.ffv1_range.specs.declared.transition.TheConstants.{DEFAULT_TRANSITION}
use Rattle.ffv1_range.specs.Transition.{IsTransition}
use Rattle.ffv1_record.specs.Tables.{TableSet, set_of, AreSets}

-- `transition` is the whole table of states after a bit 1: that of `coder_type` 2, else the default one. `columns` and `rows` are
-- num_h_slices and num_v_slices.
pub record Parameters : Type 0 where
  pub coder_type : ℕ
  pub transition : List ℕ
  pub bits_per_sample : ℕ
  pub chroma : Chroma
  pub columns : ℕ
  pub rows : ℕ
  pub sets : List TableSet
  pub ec : Bool
  pub intra : ℕ

-- a record of samples of 8 bits, by the runs of its sets
abbrev pub parameters_of : ℕ → List ℕ → Chroma → ℕ → ℕ → List (List (List ℕ)) → Bool → ℕ → Parameters
parameters_of coder_type transition chroma columns rows sets ec intra = record {
  coder_type = coder_type;
  transition = transition;
  bits_per_sample = 8;
  chroma = chroma;
  columns = columns;
  rows = rows;
  sets = map set_of sets;
  ec = ec;
  intra = intra;
}

-- the runs of the sets
abbrev pub runs_of : Parameters → List (List (List ℕ))
runs_of p = map (λ set. set.runs) p.sets

-- the entries of the tables of a set, and how many contexts they give
abbrev pub tables_of : Parameters → ℕ → List (List ℤ)
tables_of p set = slice_index_or (map (λ s. s.tables) p.sets) set []

abbrev pub context_count_of : Parameters → ℕ → ℕ
context_count_of p set = slice_index (map (λ s. s.context_count) p.sets) set

-- the table of the states after a bit 1, for this coder type
pub record IsTableFor (coder_type : ℕ) (transition : List ℕ) : Type 0 where
  pub coder : coder_type ≤ 2
  pub sound : IsTransition transition
  pub default : coder_type < 2 → transition ≡ DEFAULT_TRANSITION
  pub states : coder_type ≡ 2 → All (λ state. 0 < state) (drop 1 transition)

-- what a configuration record can have
pub record IsRecord (p : Parameters) : Type 0 where
  pub table : IsTableFor p.coder_type p.transition
  pub bits : p.bits_per_sample ≡ 8
  pub chroma : AreShifts p.chroma
  pub grid : IsGrid p.columns p.rows
  pub sets : AreSets (runs_of p)
  pub tables : p.sets ≡ map set_of (runs_of p)
  pub intra : p.intra < 2 ^ 32
