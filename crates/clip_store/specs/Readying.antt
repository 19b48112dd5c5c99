-- What a shelf of clips gives as a library, by the format of the output.
use Rattle.std.specs.Prelude.{◌≡◌, ℕ, ◌<◌, ◌≤◌, List, length, Result, Ok, Err}
use Rattle.pic_planes.specs.Shape.{Layout}
use Rattle.pic_planes.specs.Grid.{IsGrid, ReachesEnds}
use Rattle.ffv1_record.specs.Default.{default_parameters}
use Rattle.ffv1_record.specs.Spelling.{record_bytes}
use Rattle.clip_store.specs.declared.format.Format.{Format}
use Rattle.clip_store.specs.declared.format.Format.TheVariants as format
use Rattle.clip_store.specs.Clip.{ClipOf}
use Rattle.clip_store.specs.Library.{OutputOf, IsOutput, LibraryOf, clip_at, record_bytes_of}

-- The grid is within its limits for the shape, and its slices reach the ends of the planes.
pub record IsGridFor (shape : Layout) (h v : ℕ) : Type 0 where
  pub grid : IsGrid h v
  pub columns : h ≤ shape.width
  pub rows : v ≤ shape.height
  pub reaches : ReachesEnds h v shape.width shape.height shape.chroma

-- It names a clip, or has a grid for its shape.
abbrev pub IsFormat : List ClipOf → Format → Type 0
IsFormat clips (format.As clip) = clip < length clips
IsFormat clips (format.Own shape coder h v) = IsGridFor shape h v

-- The output has a clip's shape and record bytes, or a shape of its own and the bytes of its default record.
abbrev pub HasFormat : List ClipOf → Format → OutputOf → Type 0
HasFormat clips (format.As clip) output =
    (output.shape ≡ (clip_at clips clip).shape) × (output.bytes ≡ record_bytes_of (clip_at clips clip))
HasFormat clips (format.Own shape coder h v) output =
    (output.shape ≡ shape) × (output.bytes ≡ record_bytes (default_parameters coder shape.chroma h v))

-- The output of a format.
pub record IsOutputOf (clips : List ClipOf) (asked : Format) (output : OutputOf) : Type 0 where
  pub has : HasFormat clips asked output
  pub sound : IsOutput output

-- What making a library answers: the clips in their order with the output, or the clips as they were.
abbrev pub Readies : {E : Type 0} → List ClipOf → Format → Result LibraryOf (List ClipOf × E) → Type 0
Readies clips asked (Ok library) = (library.clips ≡ clips) × IsOutputOf clips asked library.output
Readies clips asked (Err (shelf, error)) = shelf ≡ clips
