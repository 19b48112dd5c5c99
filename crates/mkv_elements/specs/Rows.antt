-- The elements that are read or written, by the ids of RFC 8794 section 11 and RFC 9559 section 5, as numbers.
use Rattle.std.specs.Prelude.{ℕ, Bool, true, false, List, [], ◌∷◌}
use Rattle.mkv_elements.specs.declared.table.Kind.{Kind}
use Rattle.mkv_elements.specs.declared.table.Kind.TheVariants.{Master, Unsigned, Text, Binary, Block}
use Rattle.mkv_elements.specs.declared.table.Row.{Row}

abbrev pub row : ℕ → ℕ → Kind → Bool → Row
row id parent kind read = record { id = id; parent = parent; kind = kind; read = read }

-- Each with the element that it stands in, what it holds, and whether a reader of clips looks into it: first those that are read.
abbrev pub rows : List Row
rows =
    row 0x1A45DFA3 0 Master true ∷  -- EBML
    row 0x18538067 0 Master true ∷  -- Segment
    row 0x4282 0x1A45DFA3 Text true ∷  -- DocType
    row 0x1654AE6B 0x18538067 Master true ∷  -- Tracks
    row 0x1F43B675 0x18538067 Master true ∷  -- Cluster
    row 0xAE 0x1654AE6B Master true ∷  -- TrackEntry
    row 0xD7 0xAE Unsigned true ∷  -- TrackNumber
    row 0x83 0xAE Unsigned true ∷  -- TrackType
    row 0x86 0xAE Text true ∷  -- CodecID
    row 0x63A2 0xAE Binary true ∷  -- CodecPrivate
    row 0x6D80 0xAE Master false ∷  -- ContentEncodings
    row 0xE0 0xAE Master true ∷  -- Video
    row 0xB0 0xE0 Unsigned true ∷  -- PixelWidth
    row 0xBA 0xE0 Unsigned true ∷  -- PixelHeight
    row 0xE7 0x1F43B675 Unsigned true ∷  -- Timestamp
    row 0xA3 0x1F43B675 Block true ∷  -- SimpleBlock
    row 0xA0 0x1F43B675 Master true ∷  -- BlockGroup
    row 0xA1 0xA0 Block true ∷  -- Block
    row 0x4286 0x1A45DFA3 Unsigned false ∷  -- EBMLVersion
    row 0x42F7 0x1A45DFA3 Unsigned false ∷  -- EBMLReadVersion
    row 0x42F2 0x1A45DFA3 Unsigned false ∷  -- EBMLMaxIDLength
    row 0x42F3 0x1A45DFA3 Unsigned false ∷  -- EBMLMaxSizeLength
    row 0x4287 0x1A45DFA3 Unsigned false ∷  -- DocTypeVersion
    row 0x4285 0x1A45DFA3 Unsigned false ∷  -- DocTypeReadVersion
    row 0x114D9B74 0x18538067 Master false ∷  -- SeekHead
    row 0x1549A966 0x18538067 Master false ∷  -- Info
    row 0x1C53BB6B 0x18538067 Master false ∷  -- Cues
    row 0x1043A770 0x18538067 Master false ∷  -- Chapters
    row 0x1941A469 0x18538067 Master false ∷  -- Attachments
    row 0x1254C367 0x18538067 Master false ∷  -- Tags
    row 0x2AD7B1 0x1549A966 Unsigned false ∷  -- TimestampScale
    row 0x4D80 0x1549A966 Text false ∷  -- MuxingApp
    row 0x5741 0x1549A966 Text false ∷  -- WritingApp
    row 0x73C5 0xAE Unsigned false ∷  -- TrackUID
    row 0x9C 0xAE Unsigned false ∷  -- FlagLacing
    row 0xBB 0x1C53BB6B Master false ∷  -- CuePoint
    row 0xB3 0xBB Unsigned false ∷  -- CueTime
    row 0xB7 0xBB Master false ∷  -- CueTrackPositions
    row 0xF7 0xB7 Unsigned false ∷  -- CueTrack
    row 0xF1 0xB7 Unsigned false ∷  -- CueClusterPosition
    []

-- The elements that stand in a Segment: SeekHead, Info, Tracks, Cluster, Cues, Chapters, Attachments, Tags.
abbrev pub beside_clusters : List ℕ
beside_clusters = 0x114D9B74 ∷ 0x1549A966 ∷ 0x1654AE6B ∷ 0x1F43B675 ∷ 0x1C53BB6B ∷ 0x1043A770 ∷ 0x1941A469 ∷ 0x1254C367 ∷ []

-- The elements whose size may be unknown: Segment and Cluster.
abbrev pub unknown_sized : List ℕ
unknown_sized = 0x18538067 ∷ 0x1F43B675 ∷ []
