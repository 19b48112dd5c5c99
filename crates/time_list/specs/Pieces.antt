-- What a list of segments keeps, and the parts of segments that are cut.
use Rattle.std.specs.Prelude.{◌≡◌, ℕ, ◌+◌, ◌-◌, ◌≤◌, ◌==◌, nat_lt, nat_le, min, if◌then◌else◌, List, [], ◌∷◌, length, Option, Some, None}
use Rattle.tl_limits.specs.Limits.{max_frames, max_segments}
use Rattle.tl_model.specs.declared.recipe.Mix.{Mix}
use Rattle.tl_model.specs.declared.segment.Segment.{Segment}
use Rattle.tl_model.specs.Cells.{side_at, cells}
use Rattle.tl_model.specs.Segment.{ArePieces}

-- What a lane of segments keeps.
pub record IsLane (items : List Segment) (frames : ℕ) : Type 0 where
  pub pieces : ArePieces items
  pub counted : frames ≡ length (cells items)
  pub short : frames ≤ max_frames
  pub few : length items ≤ max_segments

abbrev pub front_mix : Option Mix → ℕ → Option Mix
front_mix None at = None
front_mix (Some mix) at = Some (record { from = mix.from; done = mix.done; steps = min mix.steps at; total = mix.total })

abbrev pub back_mix : Option Mix → ℕ → Option Mix
back_mix None at = None
back_mix (Some mix) at =
    if nat_lt at mix.steps
    then Some (record { from = side_at mix.from at; done = mix.done + at; steps = mix.steps - at; total = mix.total })
    else None

-- The two parts of a segment that is cut before its frame `at`.
abbrev pub front_of : Segment → ℕ → Segment
front_of s at = record { first = s.first; len = at; mix = front_mix s.mix at }

abbrev pub back_of : Segment → ℕ → Segment
back_of s at = record { first = side_at s.first at; len = s.len - at; mix = back_mix s.mix at }

-- The segments of the first `at` frames, and those of the frames from `at` on.
abbrev pub fronts : List Segment → ℕ → List Segment
fronts [] at = []
fronts (s ∷ ss) at = if nat_le s.len at then s ∷ fronts ss (at - s.len) else (if at == 0 then [] else front_of s at ∷ [])

abbrev pub backs : List Segment → ℕ → List Segment
backs [] at = []
backs (s ∷ ss) at = if nat_le s.len at then backs ss (at - s.len) else (if at == 0 then s ∷ ss else back_of s at ∷ ss)
