-- The content of a slice that was written is read: the bit of the key frame, the header, and the samples.
use Rattle.std.proofs.Common.{◌≡◌, ℕ, ◌+◌, ◌*◌, ◌/◌, ◌%◌, ◌^◌, ◌<◌, ◌≤◌, Bool, true, false, eqb, List, [], ◌∷◌, length, replicate, Ok, refl, sym, ◌∙◌, ap, subst, arith, append-nil, zero, suc, ◌-◌, ◌++◌, min, drop, slice_index}
use Rattle.std.specs.List.{AllByRecursion}
use Rattle.std.proofs.lemmas.Nat.{mod_below, div_below}
use Rattle.std.proofs.lemmas.List.{length-map, length-append, drop_at}
use Rattle.std.proofs.lemmas.List.Elements.{All-from_recursion}
use Rattle.tl_limits.specs.Limits.{max_slice_bytes}
use Rattle.std.proofs.Math.Nat.{mul-le-mul_left, mul-le-mul_right}
use Rattle.pic_planes.specs.Picture.{Image, IsPicture}
use Rattle.ffv1_range.specs.Transition.{IsTransition}
use Rattle.ffv1_range.specs.Reading.{Reading, opened, bit_of, after_bit, after_bits}
use Rattle.ffv1_range.specs.Writing.{Writing, started, part, with_sentinel}
use Rattle.ffv1_range.specs.Symbol.{source}
use Rattle.ffv1_range.specs.Law.{states_of, written, ReadsBack, ReadsSentinel}
use Rattle.ffv1_range.proofs.Part.{sentinel_read}
use Rattle.ffv1_record.specs.Parameters.{Parameters, IsRecord}
use Rattle.ffv1_record.specs.Tables.{TableSet}
use Rattle.ffv1_record.proofs.Sinks.{put_all-table}
use Rattle.ffv1_record.proofs.States.{fresh-kept}
use Rattle.ffv1_record.proofs.Round.{put-count, length-part}
use Rattle.ffv1_slice.specs.Header.{Numbering, numbering, with_numbers, ReadsNumbers}
use Rattle.ffv1_slice.specs.Slice as slices
use Rattle.ffv1_slice.specs.Area.{IsWithin}
use Rattle.ffv1_golomb.specs.Law.{AreInside}
use Rattle.ffv1_golomb.specs.Writing as rice
use Rattle.ffv1_golomb.specs.Slice as rice_slices
use Rattle.ffv1_golomb.specs.Slice.{sample_bytes}
use Rattle.ffv1_golomb.proofs.BackSlice.{reads_slices}
use Rattle.ffv1_frame.specs.Frame.{reader_at, HeaderGives, SamplesGive}
use Rattle.ffv1_frame.specs.Written.{cell_header, content_start, header_written, cell_slice, IsContent, IsRangeContent, IsRiceContent, WritesContent, slice_of}
use Rattle.ffv1_frame.proofs.Passages.{Passage, nothing_passed, read_as, both_passed, bit_passed, numbers_passed}
use Rattle.ffv1_frame.proofs.RiceWritings.{packed_spells}
use Rattle.ffv1_frame.proofs.SlicesBack.{IsPart, SliceInto, after_slice, slice_back}

-- ---- the bit of the key frame
-- what is read before a header
abbrev pub Opens : Bool → Reading → Reading → Type 0
Opens true p q = (bit_of p 128 ≡ true) × (q ≡ after_bit p 128)
Opens false p q = q ≡ p

start_back : (table : List ℕ) (first : Bool) → Passage table (started table) (content_start table first) (Opens first)
start_back table true = bit_passed table (started table) 128 true (omega arith) (omega arith)
start_back table false = read_as table (started table) (started table) (λ p q. p ≡ q) (λ p q. q ≡ p) (λ p q at same. sym same) (nothing_passed table (started table))

started-table : (table : List ℕ) → (started table).table ≡ table
unfolding started
started-table table = refl

passed-table : (table : List ℕ) (old new : Writing) (Read : Reading → Reading → Type 0) → Passage table old new Read → new.table ≡ old.table
passed-table table old new Read passage = ap (λ (w : Writing). w.table) passage.written ∙ put_all-table old passage.coded

-- ---- a content
abbrev pub numbers_of : ℕ → ℕ → List ℕ
numbers_of x y = x ∷ y ∷ 0 ∷ 0 ∷ 0 ∷ 0 ∷ 0 ∷ 0 ∷ 0 ∷ []

-- the numbers of a header
pub numbers_back : (table : List ℕ) (first : Bool) (x y : ℕ) → IsTransition table → x < 2 ^ 32 → y < 2 ^ 32
    → Passage table (content_start table first) (with_numbers (numbering (content_start table first) (replicate 32 128)) (numbers_of x y)).writing (λ p q. ReadsNumbers (numbers_of x y) (source p (replicate 32 128)) q)
numbers_back table first x y sound small smaller =
    let start : Numbering = numbering (content_start table first) (replicate 32 128) in
    let at : (content_start table first).table ≡ table = passed-table table (started table) (content_start table first) (Opens first) (start_back table first) ∙ started-table table in
    let few : AllByRecursion (λ number. number < 2 ^ 32) (numbers_of x y) = (small, (smaller, (omega arith, (omega arith, (omega arith, (omega arith, (omega arith, (omega arith, (omega arith, tt))))))))) in
    numbers_passed table (numbers_of x y) start sound at (fresh-kept table sound) few

-- what is read up to the end of a header
pub record HeaderRead (first : Bool) (x y : ℕ) (p q : Reading) : Type 0 where
  pub begun : Reading
  pub opens : Opens first p begun
  pub numbers : ReadsNumbers (numbers_of x y) (source begun (replicate 32 128)) q

header_back : (table : List ℕ) (first : Bool) (x y : ℕ) → IsTransition table → x < 2 ^ 32 → y < 2 ^ 32
    → Passage table (started table) (with_numbers (numbering (content_start table first) (replicate 32 128)) (numbers_of x y)).writing (HeaderRead first x y)
header_back table first x y sound small smaller =
    let open_at : Writing = content_start table first in
    let header : Writing = (with_numbers (numbering open_at (replicate 32 128)) (numbers_of x y)).writing in
    let Numbers : Reading → Reading → Type 0 = λ p q. ReadsNumbers (numbers_of x y) (source p (replicate 32 128)) q in
    read_as table (started table) header (λ p q. (mid : Reading) × Opens first p mid × Numbers mid q) (HeaderRead first x y)
    (λ p q at (begun, opens, reads). record { begun = begun; opens = opens; numbers = reads })
    (both_passed table (started table) open_at header (Opens first) Numbers (start_back table first) (numbers_back table first x y sound small smaller))

-- ---- the bytes of a content
after_last : (p : Reading) (states : List ℕ) (state : ℕ) → after_bits p (states ++ state ∷ []) ≡ after_bit (after_bits p states) state
after_last p [] state = refl
after_last p (s ∷ states) state = after_last (after_bit p s) states state

-- The reader at the start of bytes reads what was written before a sentinel, whatever follows, and takes as many bytes.
pub record SealedRead (table : List ℕ) (new : Writing) (content more : List ℕ) (Read : Reading → Reading → Type 0) : Type 0 where
  pub reading : Reading
  pub read : Read (opened table content) reading
  pub taken : reading.taken ≤ length (part (with_sentinel new)) + 1
  pub behind : (after_bit reading 129).taken ≡ min (length (part (with_sentinel new)) + 1) (2 ^ 64 - 1)

pub sealed : (table : List ℕ) (new : Writing) (content more : List ℕ) (Read : Reading → Reading → Type 0) → Passage table (started table) new Read → ((k : ℕ) → slice_index more k < 256)
    → content ≡ part (with_sentinel new) ++ more → SealedRead table new content more Read
unfolding opened with_sentinel
sealed table new content more Read passage fits ended =
    let coded : List (ℕ × Bool) = passage.coded in
    let w : Writing = written table coded in
    let front : part (with_sentinel new) ≡ part (with_sentinel w) = ap (λ (v : Writing). part (with_sentinel v)) passage.written in
    let bytes : part (with_sentinel w) ++ more ≡ content = ap (λ (l : List ℕ). l ++ more) (sym front) ∙ sym ended in
    let read : ReadsSentinel table coded (part (with_sentinel w)) more = sentinel_read table coded more passage.states fits in
    let before : ReadsBack table content coded w.count = subst (λ (b : List ℕ). ReadsBack table b coded w.count) bytes read.before in
    let last : (after_bits (opened table content) (states_of coded ++ 129 ∷ [])).taken ≡ min (length (part (with_sentinel w)) + 1) (2 ^ 64 - 1) =
    subst (λ (b : List ℕ). (after_bits (opened table b) (states_of coded ++ 129 ∷ [])).taken ≡ min (length (part (with_sentinel w)) + 1) (2 ^ 64 - 1)) bytes read.taken in
    let count : w.count ≤ length (part (with_sentinel w)) + 1 = omega (arith, length-part (with_sentinel w), put-count w 129 false) in
    let same : length (part (with_sentinel new)) ≡ length (part (with_sentinel w)) = ap length front in
    record {
      reading = after_bits (opened table content) (states_of coded);
      read = passage.read (opened table content) refl before.bits;
      taken = omega (arith, before.taken, count, same);
      behind = ap (λ (p : Reading). p.taken) (sym (after_last (opened table content) (states_of coded) 129)) ∙ last ∙ ap (λ n. min (n + 1) (2 ^ 64 - 1)) (sym same);
    }

-- ---- the content of a cell
-- A cell of the grid of a record that a picture suits.
pub record IsCell (p : Parameters) (image : Image) (cell : ℕ) : Type 0 where
  pub sound : IsRecord p
  pub picture : IsPicture image
  pub within : cell < p.columns * p.rows
  pub luma : IsPart image.shape (cell_slice p image.shape cell).luma
  pub chroma : IsPart image.shape (cell_slice p image.shape cell).chroma

-- what reading the content of a cell gives
pub record CellRead (coder : ℕ) (p : Parameters) (image : Image) (cell : ℕ) (content : List ℕ) : Type 0 where
  pub key : eqb cell 0 ≡ true → bit_of (opened p.transition content) 128 ≡ true
  pub reading : Reading
  pub header : (ec : Bool) → HeaderGives p cell (slice_of ec content) reading (Ok (cell_header p.columns cell))
  pub samples : (before : Image) → SamplesGive coder (cell_slice p image.shape cell) content (slices.standing reading before) (after_slice (cell_slice p image.shape cell) image before) (Ok tt)

key_read : (first : Bool) (p q : Reading) → Opens first p q → first ≡ true → bit_of p 128 ≡ true
key_read true p q opens is = opens.0
key_read false p q opens is = absurd cc

open_is : (table : List ℕ) (first : Bool) (content : List ℕ) (q : Reading) → Opens first (opened table content) q → q ≡ reader_at table first content
open_is table true content q opens = opens.1
open_is table false content q opens = opens

-- the column and the row of a cell
record IsPlace (p : Parameters) (cell : ℕ) : Type 0 where
  left : cell % p.columns < p.columns
  above : cell / p.columns < p.rows
  small : cell % p.columns < 2 ^ 32
  smaller : cell / p.columns < 2 ^ 32
  sets : 1 ≤ length p.sets

place : (p : Parameters) (image : Image) (cell : ℕ) → IsCell p image cell → IsPlace p cell
place p image cell is =
    let columns : 1 ≤ p.columns = is.sound.grid.some_columns in
    let rows : 1 ≤ p.rows = is.sound.grid.some_rows in
    let few : p.columns * p.rows ≤ 1024 = is.sound.grid.few in
    let wide : p.columns * 1 ≤ p.columns * p.rows = mul-le-mul_left p.columns rows in
    let high : 1 * p.rows ≤ p.columns * p.rows = mul-le-mul_right p.rows columns in
    let left : cell % p.columns < p.columns = mod_below cell p.columns (omega arith) in
    let above : cell / p.columns < p.rows = div_below cell p.columns p.rows (omega arith) (omega (arith, is.within)) in
    record {
      left = left;
      above = above;
      small = omega arith;
      smaller = omega arith;
      sets = omega (arith, is.sound.sets.some, length-map p.sets (λ (set : TableSet). set.runs));
    }

header_gives : (p : Parameters) (cell : ℕ) (ec : Bool) (content : List ℕ) (q : Reading) → IsPlace p cell → HeaderRead (eqb cell 0) (cell % p.columns) (cell / p.columns) (opened p.transition content) q
    → HeaderGives p cell (slice_of ec content) q (Ok (cell_header p.columns cell))
header_gives p cell ec content q at read = (
  numbers_of (cell % p.columns) (cell / p.columns),
  refl,
  subst (λ (r : Reading). ReadsNumbers (numbers_of (cell % p.columns) (cell / p.columns)) (source r (replicate 32 128)) q) (open_is p.transition (eqb cell 0) content read.begun read.opens) read.numbers,
  record {
    x = refl;
    y = refl;
    columns = refl;
    rows = refl;
    luma_set = refl;
    chroma_set = refl;
    right = omega (arith, at.left);
    bottom = omega (arith, at.above);
    has_luma = omega (arith, at.sets);
    has_chroma = omega (arith, at.sets);
  },
)

header_at : (p : Parameters) (image : Image) (cell : ℕ) → IsCell p image cell → Passage p.transition (started p.transition) (header_written p cell) (HeaderRead (eqb cell 0) (cell % p.columns) (cell / p.columns))
header_at p image cell is =
    let at = place p image cell is in header_back p.transition (eqb cell 0) (cell % p.columns) (cell / p.columns) is.sound.table.sound at.small at.smaller

range_read : (coder : ℕ) (p : Parameters) (image : Image) (cell : ℕ) (content : List ℕ) → IsCell p image cell → IsRangeContent (cell_slice p image.shape cell) image (header_written p cell) content → CellRead (suc coder) p image cell content
range_read coder p image cell content is written =
    let table : List ℕ = p.transition in
    let slice : slices.Slice = cell_slice p image.shape cell in
    let header : Writing = header_written p cell in
    let Header : Reading → Reading → Type 0 = HeaderRead (eqb cell 0) (cell % p.columns) (cell / p.columns) in
    let front = header_at p image cell is in
    let at : header.table ≡ table = passed-table table (started table) header Header front ∙ started-table table in
    let samples = slice_back table image slice header written.writing is.sound.table.sound is.picture is.luma is.chroma at written.samples in
    let All : Reading → Reading → Type 0 = λ p q. (mid : Reading) × Header p mid × SliceInto slice image mid q in
    let passage = both_passed table (started table) header written.writing Header (SliceInto slice image) front samples in
    let read = sealed table written.writing content [] All passage (λ k. omega arith) (written.ended ∙ sym (append-nil (part (with_sentinel written.writing)))) in
    let mid : Reading = read.read.0 in
    record {
      key = key_read (eqb cell 0) (opened table content) read.read.1.begun read.read.1.opens;
      reading = mid;
      header = λ ec. header_gives p cell ec content mid (place p image cell is) read.read.1;
      samples = λ before. (slices.standing read.reading (after_slice slice image before), read.read.2 before, refl, omega (arith, read.taken, ap length written.ended));
    }

rice_read : (p : Parameters) (image : Image) (cell : ℕ) (content : List ℕ) → IsCell p image cell → length content ≤ max_slice_bytes → IsRiceContent (cell_slice p image.shape cell) image (header_written p cell) content
    → CellRead 0 p image cell content
rice_read p image cell content is short written =
    let table : List ℕ = p.transition in
    let slice : slices.Slice = cell_slice p image.shape cell in
    let header : Writing = header_written p cell in
    let front : List ℕ = part (with_sentinel header) in
    let more : List ℕ = rice.packed written.bits in
    let spells = packed_spells slice image written.bits written.samples in
    let read = sealed table header content more (HeaderRead (eqb cell 0) (cell % p.columns) (cell / p.columns)) (header_at p image cell is) spells.1 written.joined in
    let long : length front + length more ≡ length content = sym (length-append front more) ∙ ap length (sym written.joined) in
    let start : (after_bit read.reading 129).taken - 1 ≡ length front = omega (arith, read.behind, long) in
    let bytes : more ≡ sample_bytes content read.reading = sym (drop_at front more (length front) refl) ∙ ap (drop (length front)) (sym written.joined) ∙ ap (λ n. drop n content) (sym start) in
    let inside : AreInside image slice = record {
      sound = is.picture;
      luma = All-from_recursion (IsWithin image.shape) slice.luma.areas is.luma.within;
      chroma = All-from_recursion (IsWithin image.shape) slice.chroma.areas is.chroma.within;
    } in
    record {
      key = key_read (eqb cell 0) (opened table content) read.read.begun read.read.opens;
      reading = read.reading;
      header = λ ec. header_gives p cell ec content read.reading (place p image cell is) read.read;
      samples = λ before. subst (λ (b : List ℕ). rice_slices.Gives slice b before (after_slice slice image before) (Ok tt)) bytes (reads_slices slice image before written.bits more inside written.samples spells.0);
    }

read_by : (coder : ℕ) (p : Parameters) (image : Image) (cell : ℕ) (content : List ℕ) → IsCell p image cell → length content ≤ max_slice_bytes → IsContent coder (cell_slice p image.shape cell) image (header_written p cell) content
    → CellRead coder p image cell content
read_by zero p image cell content is short written = rice_read p image cell content is short written
read_by (suc coder) p image cell content is short written = range_read coder p image cell content is written

pub cell_read : (p : Parameters) (image : Image) (cell : ℕ) (content : List ℕ) → IsCell p image cell → length content ≤ max_slice_bytes → WritesContent p image cell content → CellRead p.coder_type p image cell content
cell_read p image cell content is short written = read_by p.coder_type p image cell content is short written
