-- Each picture is written as one thing: a packet, or none.
use Rattle.std.proofs.Common.{◌≡◌, ℕ, zero, suc, ◌*◌, ◌<◌, ◌≤◌, ℤ, List, [], ◌∷◌, ◌++◌, length, get_or, ◌⊎◌, Option, Some, None, refl, sym, ◌∙◌, ap, subst, arith, add-one, inl, inr}
use Rattle.std.specs.Prelude.{slice_index}
use Rattle.std.proofs.lemmas.Bool.{cases_lt}
use Rattle.std.proofs.lemmas.List.{ext_get_or}
use Rattle.std.proofs.lemmas.List.Elements.{All-get_or}
use Rattle.tl_limits.specs.Limits.{max_slice_bytes}
use Rattle.pic_planes.specs.Picture.{Image}
use Rattle.ffv1_range.specs.Writing.{Writing, part, with_sentinel}
use Rattle.ffv1_predict.specs.Near.{context, coded}
use Rattle.ffv1_predict.specs.Border.{Rows, near, rows_of_plane}
use Rattle.ffv1_record.specs.Parameters.{Parameters}
use Rattle.ffv1_slice.specs.declared.area.Area.{Area}
use Rattle.ffv1_slice.specs.Order.{InRow, InRows}
use Rattle.ffv1_slice.specs.Slice.{Part, Slice, fresh_contexts}
use Rattle.ffv1_slice.specs.Writing.{Encoding, encoding, with_difference, WritesSample, samples, WritesAreas, WritesPart, WritesSlice}
use Rattle.ffv1_frame.specs.Packet.{bytes_of}
use Rattle.ffv1_frame.specs.Written.{IsContent, WritesContent, cell_slice, header_written, slice_of, IsPacket, IsTooLong, Writes, packet_of}
use Rattle.ffv1_frame.proofs.RiceWritings.{written_exists, one_written}
use Rattle.ffv1_frame.proofs.Packets.{ArePut, none_put, one_put, all_put}

-- the encoding after the sample at a column of a row
abbrev after_sample : List (List ℤ) → Rows → ℕ → Encoding → Encoding
after_sample tables r x e = with_difference e (context tables (near r x)) (coded (context tables (near r x)) (near r x) (slice_index r.row x))

-- ---- there is one
row_exists : (tables : List (List ℤ)) (r : Rows) (x : ℕ) (old : Encoding) → (new : Encoding) × InRow (WritesSample tables) r x old new
row_exists tables r zero old = (old, refl)
row_exists tables r (suc x) old =
    let before = row_exists tables r x old in (after_sample tables r x before.0, (before.0, before.1, refl))

rows_exist : (tables : List (List ℤ)) (rows : List Rows) (old : Encoding) → (new : Encoding) × InRows (WritesSample tables) rows old new
rows_exist tables [] old = (old, refl)
rows_exist tables (r ∷ more) old =
    let first = row_exists tables r (length r.row) old in
    let rest = rows_exist tables more first.0 in
    (rest.0, (first.0, first.1, rest.1))

areas_exist : (tables : List (List ℤ)) (image : Image) (areas : List Area) (old : Encoding) → (new : Encoding) × WritesAreas tables image areas old new
areas_exist tables image [] old = (old, refl)
areas_exist tables image (area ∷ more) old =
    let first = rows_exist tables (rows_of_plane area.width (samples image area)) old in
    let rest = areas_exist tables image more first.0 in
    (rest.0, (first.0, first.1, rest.1))

part_exists : (p : Part) (image : Image) (old : Writing) → (new : Writing) × WritesPart p image old new
part_exists p image old =
    let areas = areas_exist p.tables image p.areas (encoding old (fresh_contexts p.context_count)) in
    (areas.0.writing, (areas.0.contexts, areas.1))

slice_exists : (s : Slice) (image : Image) (old : Writing) → (new : Writing) × WritesSlice s image old new
slice_exists s image old =
    let luma = part_exists s.luma image old in
    let chroma = part_exists s.chroma image luma.0 in
    (chroma.0, (luma.0, luma.1, chroma.1))

content_exists_by : (coder : ℕ) (slice : Slice) (image : Image) (header : Writing) → (content : List ℕ) × IsContent coder slice image header content
content_exists_by zero slice image header = written_exists slice image header
content_exists_by (suc coder) slice image header =
    let written = slice_exists slice image header in
    (part (with_sentinel written.0), record { writing = written.0; samples = written.1; ended = refl })

content_exists : (p : Parameters) (image : Image) (cell : ℕ) → (content : List ℕ) × WritesContent p image cell content
content_exists p image cell = content_exists_by p.coder_type (cell_slice p image.shape cell) image (header_written p cell)

-- the slices of the first cells, unless one of them is too long
first_exist : (p : Parameters) (image : Image) (cell : ℕ) → cell ≤ p.columns * p.rows → ((packet : List ℕ) × ArePut p image packet cell) ⊎ IsTooLong p image
first_exist p image zero within = inl ([], none_put p image [] refl)
first_exist p image (suc cell) within =
    elim (first_exist p image cell (omega arith)) [
      | inr long ↦ inr long
      | inl (packet, put) ↦
          let content = content_exists p image cell in
          elim (cases_lt max_slice_bytes (length content.0)) [
            | inl long ↦ inr (record { cell = cell; within = omega arith; content = content.0; written = content.1; long = long })
            | inr short ↦
                let next : List ℕ = packet ++ bytes_of (slice_of p.ec content.0) in
                inl (next, subst (λ (n : ℕ). ArePut p image next n) (add-one cell) (one_put p image packet next content.0 cell p.ec put refl content.1 short refl))
          ]
    ]

pub writing_exists : (p : Parameters) (image : Image) → (packet : Option (List ℕ)) × Writes p image packet
writing_exists p image =
    elim (first_exist p image (p.columns * p.rows) (omega arith)) [
      | inl (packet, put) ↦ (Some packet, all_put p image packet (p.columns * p.rows) put refl)
      | inr long ↦ (None, long)
    ]

-- ---- there is no other
one_row : (tables : List (List ℤ)) (r : Rows) (x : ℕ) (old old' new new' : Encoding) → old ≡ old' → InRow (WritesSample tables) r x old new → InRow (WritesSample tables) r x old' new' → new ≡ new'
one_row tables r zero old old' new new' same first second = sym first ∙ same ∙ second
one_row tables r (suc x) old old' new new' same (mid, before, here) (mid', before', here') =
    here ∙ ap (after_sample tables r x) (one_row tables r x old old' mid mid' same before before') ∙ sym here'

one_rows : (tables : List (List ℤ)) (rows : List Rows) (old old' new new' : Encoding) → old ≡ old' → InRows (WritesSample tables) rows old new → InRows (WritesSample tables) rows old' new' → new ≡ new'
one_rows tables [] old old' new new' same first second = sym first ∙ same ∙ second
one_rows tables (r ∷ more) old old' new new' same (mid, row, rest) (mid', row', rest') =
    one_rows tables more mid mid' new new' (one_row tables r (length r.row) old old' mid mid' same row row') rest rest'

one_areas : (tables : List (List ℤ)) (image : Image) (areas : List Area) (old old' new new' : Encoding) → old ≡ old' → WritesAreas tables image areas old new → WritesAreas tables image areas old' new' → new ≡ new'
one_areas tables image [] old old' new new' same first second = sym first ∙ same ∙ second
one_areas tables image (area ∷ more) old old' new new' same (mid, rows, rest) (mid', rows', rest') =
    one_areas tables image more mid mid' new new' (one_rows tables (rows_of_plane area.width (samples image area)) old old' mid mid' same rows rows') rest rest'

one_part : (p : Part) (image : Image) (old old' new new' : Writing) → old ≡ old' → WritesPart p image old new → WritesPart p image old' new' → new ≡ new'
one_part p image old old' new new' same (contexts, areas) (contexts', areas') =
    ap (λ (e : Encoding). e.writing) (one_areas p.tables image p.areas (encoding old (fresh_contexts p.context_count)) (encoding old' (fresh_contexts p.context_count)) (encoding new contexts) (encoding new' contexts')
    (ap (λ (w : Writing). encoding w (fresh_contexts p.context_count)) same) areas areas')

one_slice : (s : Slice) (image : Image) (old new new' : Writing) → WritesSlice s image old new → WritesSlice s image old new' → new ≡ new'
one_slice s image old new new' (mid, luma, chroma) (mid', luma', chroma') =
    one_part s.chroma image mid mid' new new' (one_part s.luma image old old mid mid' refl luma luma') chroma chroma'

one_content_by : (coder : ℕ) (slice : Slice) (image : Image) (header : Writing) (content other : List ℕ) → IsContent coder slice image header content → IsContent coder slice image header other → content ≡ other
one_content_by zero slice image header content other first second = one_written slice image header content other first second
one_content_by (suc coder) slice image header content other first second =
    first.ended ∙ ap (λ (w : Writing). part (with_sentinel w)) (one_slice slice image header first.writing second.writing first.samples second.samples) ∙ sym second.ended

one_content : (p : Parameters) (image : Image) (cell : ℕ) (content other : List ℕ) → WritesContent p image cell content → WritesContent p image cell other → content ≡ other
one_content p image cell content other first second = one_content_by p.coder_type (cell_slice p image.shape cell) image (header_written p cell) content other first second

one_packet : (p : Parameters) (image : Image) (packet other : List ℕ) → IsPacket p image packet → IsPacket p image other → packet ≡ other
one_packet p image packet other first second =
    let lengths : length first.contents ≡ length second.contents = first.all ∙ sym second.all in
    let contents : first.contents ≡ second.contents = ext_get_or [] first.contents second.contents lengths
    (λ cell lt. one_content p image cell (get_or first.contents cell []) (get_or second.contents cell []) (first.are.each cell lt) (second.are.each cell (omega arith))) in
    first.bytes ∙ ap (packet_of p.ec) contents ∙ sym second.bytes

not_both : (p : Parameters) (image : Image) (packet : List ℕ) → IsPacket p image packet → IsTooLong p image → ⊥
not_both p image packet is long =
    let within : long.cell < length is.contents = omega (arith, long.within, is.all) in
    let same : long.content ≡ get_or is.contents long.cell [] = one_content p image long.cell long.content (get_or is.contents long.cell []) long.written (is.are.each long.cell within) in
    let short : length (get_or is.contents long.cell []) ≤ max_slice_bytes = All-get_or (λ (c : List ℕ). length c ≤ max_slice_bytes) is.contents long.cell [] within is.are.short in
    omega (arith, short, long.long, ap length same)

pub one_writing : (p : Parameters) (image : Image) (packet other : Option (List ℕ)) → Writes p image packet → Writes p image other → packet ≡ other
one_writing p image (Some packet) (Some other) first second = ap Some (one_packet p image packet other first second)
one_writing p image (Some packet) None first second = absurd (not_both p image packet first second)
one_writing p image None (Some other) first second = absurd (not_both p image other second first)
one_writing p image None None first second = refl
