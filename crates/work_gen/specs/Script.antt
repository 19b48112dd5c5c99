-- The generated script. It cuts the clip in the middle, dissolves there, asks for the first frames, and exports.
use Rattle.std.specs.Prelude.{ℕ, ◌-◌, ◌/◌, min, List, [], ◌∷◌, ◌++◌, codes}
use Rattle.std.specs.Fmt.{decimal}

-- The middle of so many frames, where they are cut.
abbrev pub middle : (frames : ℕ) → ℕ
middle frames = frames / 2

-- How many frames the dissolve takes: ten, or those that there are behind the cut.
abbrev pub dissolved : (frames : ℕ) → ℕ
dissolved frames = min 10 (frames - middle frames)

-- How many frames are asked for.
abbrev pub wanted : (frames : ℕ) → ℕ
wanted frames = min frames 64

-- the words after the first one, each with a blank before it, and the line feed
abbrev pub others : List (List ℕ) → List ℕ
others [] = 10 ∷ []
others (word ∷ more) = 32 ∷ (word ++ others more)

-- A line is its words, parted by blanks, and a line feed.
abbrev pub line : (first : List ℕ) (more : List (List ℕ)) → List ℕ
line first more = first ++ others more

-- the rate, the clip and the output
unfoldable pub header : List ℕ
header =
    line (codes "rate") (codes "25" ∷ []) ++ line (codes "clip") (codes "G" ∷ codes "g.mkv" ∷ [])
    ++ line (codes "format") (codes "as" ∷ codes "G" ∷ [])

-- the edits
unfoldable pub insert_line : (frames : ℕ) → List ℕ
insert_line frames = line (codes "insert") (codes "0" ∷ codes "G" ∷ codes "0" ∷ decimal frames ∷ [])

unfoldable pub split_line : (at : ℕ) → List ℕ
split_line at = line (codes "split") (decimal at ∷ [])

unfoldable pub dissolve_line : (at frames : ℕ) → List ℕ
dissolve_line at frames = line (codes "dissolve") (decimal at ∷ decimal frames ∷ [])

abbrev pub edits : (frames : ℕ) → List ℕ
edits frames = insert_line frames ++ split_line (middle frames) ++ dissolve_line (middle frames) (dissolved frames)

-- what is asked for, rendered, played and shown
unfoldable pub want_line : (frames : ℕ) → List ℕ
want_line frames = line (codes "want") (codes "0" ∷ decimal frames ∷ [])

unfoldable pub work_and_play : List ℕ
work_and_play = line (codes "work") (codes "64" ∷ []) ++ line (codes "play") (codes "0" ∷ [])

unfoldable pub show_line : (at : ℕ) → List ℕ
show_line at = line (codes "show") (decimal at ∷ [])

abbrev pub plays : (frames : ℕ) → List ℕ
plays frames = want_line (wanted frames) ++ work_and_play ++ show_line (middle frames)

-- the last lines
unfoldable pub ending : List ℕ
ending = line (codes "undo") [] ++ line (codes "redo") [] ++ line (codes "export") (codes "gen.mkv" ∷ [])

-- The whole text for a clip of so many frames.
unfoldable pub script : (frames : ℕ) → List ℕ
script frames = header ++ edits frames ++ plays frames ++ ending
