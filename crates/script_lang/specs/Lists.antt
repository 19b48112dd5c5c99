-- The words that say why and of what kind: each is the name of a variant.
use Rattle.std.specs.Prelude.{ℕ, List, [], ◌∷◌, codes}

abbrev pub Words : Type 0
Words = List (List ℕ)

-- why an edit, an undo, a redo or an export is refused
abbrev pub refusals : Words
refusals =
    codes "PastEnd" ∷ codes "NoCut" ∷ codes "NoClip" ∷ codes "ShapeDiffers" ∷ codes "OutsideClip" ∷ codes "MixTooLong"
    ∷ codes "TooManyFrames" ∷ codes "TooManySegments" ∷ codes "NothingToUndo" ∷ codes "NothingToRedo" ∷ codes "EmptyTimeline" ∷ []

-- why a line of an edit list is faulty
abbrev pub edl_faults : Words
edl_faults =
    codes "Drop" ∷ codes "Speed" ∷ codes "Wipe" ∷ codes "Key" ∷ codes "Unknown" ∷ codes "Timecode" ∷ codes "PairMissing"
    ∷ codes "UnknownClip" ∷ codes "Span" ∷ codes "OutsideClip" ∷ codes "Overlap" ∷ []

-- why a coded frame is faulty
abbrev pub frame_faults : Words
frame_faults =
    codes "Empty" ∷ codes "Chain" ∷ codes "Parity" ∷ codes "NotKey" ∷ codes "Header" ∷ codes "TableIndex" ∷ codes "Cover" ∷ codes "Symbol"
    ∷ codes "Overrun" ∷ []

-- why a line of a script is faulty, or its clip doesn't fit
abbrev pub line_faults : Words
line_faults =
    codes "Limit" ∷ codes "Utf8" ∷ codes "Word" ∷ codes "Order" ∷ codes "Count" ∷ codes "Number" ∷ codes "Timecode" ∷ codes "Format"
    ∷ codes "SameName" ∷ codes "UnknownClip" ∷ codes "SameExport" ∷ codes "Slices" ∷ codes "Total" ∷ []

-- why a file isn't a clip
abbrev pub clip_faults : Words
clip_faults =
    codes "Ebml" ∷ codes "DocType" ∷ codes "NoTrack" ∷ codes "Codec" ∷ codes "NoPrivate" ∷ codes "Encoded" ∷ codes "Limit" ∷ codes "Laced"
    ∷ codes "TimeOrder" ∷ codes "NoFrames" ∷ []

-- why a configuration record is faulty
abbrev pub record_faults : Words
record_faults =
    codes "Short" ∷ codes "Parity" ∷ codes "Symbol" ∷ codes "Version" ∷ codes "Micro" ∷ codes "Coder" ∷ codes "Transition" ∷ codes "Color"
    ∷ codes "Depth" ∷ codes "Subsample" ∷ codes "ExtraPlane" ∷ codes "Slices" ∷ codes "Tables" ∷ codes "InitialStates" ∷ codes "Ec" ∷ []

-- why a file wasn't fetched
abbrev pub store_faults : Words
store_faults = codes "Failed" ∷ codes "Missing" ∷ codes "TooLarge" ∷ []
