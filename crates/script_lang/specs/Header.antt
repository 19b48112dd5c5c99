-- The lines of a script's header: what each says by its words, or its first fault.
use Rattle.std.specs.Prelude.{◌≡◌, ℕ, ◌*◌, Bool, true, ◌&&◌, nat_le, List, [], ◌∷◌, if◌then◌else◌, codes, Option, Some, None, Result, Ok, Err}
use Rattle.std.specs.Option.{ok_or}
use Rattle.std.specs.Str.{bytes_eq}
use Rattle.tl_limits.specs.Limits.{max_rate, max_side, max_slices}
use Rattle.text_words.specs.Timecode.{timecode}
use Rattle.pic_planes.specs.declared.shape.Chroma.{Chroma}
use Rattle.pic_planes.specs.declared.shape.Chroma.TheVariants.{Grey, Shifts}
use Rattle.pic_planes.specs.Grid.{reaches_ends}
use Rattle.script_lang.specs.declared.script.ChromaWord.{ChromaWord}
use Rattle.script_lang.specs.declared.script.ChromaWord.TheVariants as chroma
use Rattle.script_lang.specs.declared.script.CoderWord.{CoderWord}
use Rattle.script_lang.specs.declared.script.CoderWord.TheVariants as coder
use Rattle.script_lang.specs.declared.script.ClipLine.{ClipLine}
use Rattle.script_lang.specs.declared.script.FormatLine.{FormatLine}
use Rattle.script_lang.specs.declared.script.FormatLine.TheVariants as format
use Rattle.script_lang.specs.declared.script.ScriptFault.{ScriptFault}
use Rattle.script_lang.specs.declared.script.ScriptFault.TheVariants as faults
use Rattle.script_lang.specs.Fields.{◌>>=◌, checked, within, pair_of, name_of}
use Rattle.script_lang.specs.Line.{is_one_of}
use Rattle.script_lang.specs.Lists.{Words}

-- how many frames a second has
unfoldable pub rate_of : Words → Result ℕ ScriptFault
rate_of (word ∷ []) = within 1 max_rate word
rate_of other = Err faults.Count

abbrev pub clip_at : (n : ℕ) → (name file : List ℕ) → (start : ℕ) → Result ClipLine ScriptFault
clip_at n name file start = do
  clip ← name_of name
  from ← name_of file
  Ok (record { n = n; name = clip; file = from; start = start })

-- The clip of line n: a name, a file, and the timecode of its first frame, without which that is frame 0.
unfoldable pub clip_of : (n rate : ℕ) → Words → Result ClipLine ScriptFault
clip_of n rate (name ∷ file ∷ []) = clip_at n name file 0
clip_of n rate (name ∷ file ∷ time ∷ []) = do
  start ← ok_or (timecode rate time) faults.Timecode
  clip_at n name file start
clip_of n rate other = Err faults.Count

unfoldable pub chroma_of : List ℕ → Option ChromaWord
chroma_of word =
    if bytes_eq word (codes "grey") then Some chroma.Grey
    else if bytes_eq word (codes "444") then Some chroma.C444
    else if bytes_eq word (codes "440") then Some chroma.C440
    else if bytes_eq word (codes "422") then Some chroma.C422
    else if bytes_eq word (codes "420") then Some chroma.C420
    else if bytes_eq word (codes "411") then Some chroma.C411
    else if bytes_eq word (codes "410") then Some chroma.C410
    else None

unfoldable pub coder_of : List ℕ → Option CoderWord
coder_of word =
    if bytes_eq word (codes "range") then Some coder.Range
    else if bytes_eq word (codes "rice") then Some coder.Rice
    else None

-- the planes of a chroma: how often its width and its height are halved
abbrev pub chroma_planes : ChromaWord → Chroma
chroma_planes chroma.Grey = Grey
chroma_planes chroma.C444 = Shifts 0 0
chroma_planes chroma.C440 = Shifts 0 1
chroma_planes chroma.C422 = Shifts 1 0
chroma_planes chroma.C420 = Shifts 1 1
chroma_planes chroma.C411 = Shifts 2 0
chroma_planes chroma.C410 = Shifts 2 2

-- The picture and its grid of slices keep their limits, and the slices reach the ends of the planes.
abbrev pub is_side : ℕ → Bool
is_side size = nat_le 1 size && nat_le size max_side

abbrev pub is_grid : (columns rows width height : ℕ) → Bool
is_grid columns rows width height =
    (((nat_le 1 columns && nat_le columns width) && nat_le 1 rows) && nat_le rows height) && nat_le (columns * rows) max_slices

unfoldable pub is_covered : (columns rows width height : ℕ) → ChromaWord → Bool
is_covered columns rows width height kind =
    ((is_side width && is_side height) && is_grid columns rows width height) && reaches_ends columns rows width height (chroma_planes kind)

-- a format of a size and a grid by the words for its chroma and its coder
unfoldable pub coded_format : (size grid : ℕ × ℕ) → (chroma coder : List ℕ) → Result FormatLine ScriptFault
coded_format size grid chroma coder = do
  kind ← ok_or (chroma_of chroma) faults.Format
  coding ← ok_or (coder_of coder) faults.Format
  covered ← checked (is_covered grid.0 grid.1 size.0 size.1 kind) faults.Format
  Ok (format.Own size.0 size.1 kind coding grid.0 grid.1)

-- the same once both are read
unfoldable pub sized_format : (size grid : Result (ℕ × ℕ) ScriptFault) → (chroma coder : List ℕ) → Result FormatLine ScriptFault
sized_format size grid chroma coder = do
  sides ← size
  cells ← grid
  coded_format sides cells chroma coder

-- a format of its own: width, height, chroma, coder, columns and rows
unfoldable pub own_format : Words → Result FormatLine ScriptFault
own_format (width ∷ height ∷ chroma ∷ coder ∷ columns ∷ rows ∷ []) =
    sized_format (pair_of 0 width height) (pair_of 0 columns rows) chroma coder
own_format other = Err faults.Count

-- the format of a clip by its name
unfoldable pub like_format : (names : Words) → Words → Result FormatLine ScriptFault
like_format names (word ∷ []) = do
  name ← name_of word
  known ← checked (is_one_of names name) faults.UnknownClip
  Ok (format.As name)
like_format names other = Err faults.Count

-- A format, which after `as` is that of a clip.
unfoldable pub format_of : (names : Words) → Words → Result FormatLine ScriptFault
format_of names [] = Err faults.Count
format_of names (first ∷ more) = if bytes_eq first (codes "as") then like_format names more else own_format (first ∷ more)
