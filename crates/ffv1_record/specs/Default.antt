-- The record of an encoder.
use Rattle.std.specs.Prelude.{ℕ, true, List, [], ◌∷◌}
use Rattle.pic_planes.specs.declared.shape.Chroma.{Chroma}
use Rattle.ffv1_range.specs.declared.transition.TheConstants.{DEFAULT_TRANSITION}
use Rattle.ffv1_record.specs.declared.record.Coder.{Coder}
use Rattle.ffv1_record.specs.declared.record.Coder.TheVariants.{Range, Rice}
use Rattle.ffv1_record.specs.Parameters.{Parameters, parameters_of}

abbrev pub coder_type_of : Coder → ℕ
coder_type_of Rice = 0
coder_type_of Range = 1

-- differences of 0, 1 to 2, 3 to 6, 7 to 22, and above
abbrev pub fine_runs : List ℕ
fine_runs = 1 ∷ 2 ∷ 4 ∷ 16 ∷ 105 ∷ []

-- all differences alike
abbrev pub one_run : List ℕ
one_run = 128 ∷ []

abbrev pub default_runs : List (List ℕ)
default_runs = fine_runs ∷ fine_runs ∷ fine_runs ∷ one_run ∷ one_run ∷ []

abbrev pub default_parameters : Coder → Chroma → ℕ → ℕ → Parameters
default_parameters coder chroma columns rows =
    parameters_of (coder_type_of coder) DEFAULT_TRANSITION chroma columns rows (default_runs ∷ []) true 1
