-- The differences of a slice, written in Golomb-Rice mode. RFC 9043 sections 3.8.2 and 4.8.
use Rattle.std.specs.Prelude.{◌≡◌, ℕ, zero, suc, ◌+◌, ◌/◌, List, [], ◌∷◌, ◌++◌, length, drop, replicate, ℤ, nat_abs, None}
use Rattle.pic_planes.specs.Picture.{Image}
use Rattle.ffv1_range.specs.Writing as range
use Rattle.ffv1_rice.specs.Bits.{number_at}
use Rattle.ffv1_rice.specs.State.{State, fresh}
use Rattle.ffv1_rice.specs.Lines.{Written, sample_put, ended}
use Rattle.ffv1_predict.specs.declared.near.Near.{Near}
use Rattle.ffv1_predict.specs.Near.{context, coded}
use Rattle.ffv1_predict.specs.Border.{Rows, rows_of_plane}
use Rattle.ffv1_slice.specs.declared.area.Area.{Area}
use Rattle.ffv1_slice.specs.Order.{InRow}
use Rattle.ffv1_slice.specs.Slice.{Part, Slice}
use Rattle.ffv1_slice.specs.Writing.{samples}
use Rattle.ffv1_golomb.specs.Turn.{InTurn}
use Rattle.ffv1_golomb.specs.Slice.{parts}

-- A sample is written: its difference, in the context of its neighbours, which counts by its magnitude.
abbrev pub WritesSample : List (List ℤ) → Near → ℕ → Written → Written → Type 0
WritesSample tables n sample old new = new ≡ sample_put (nat_abs (context tables n)) (coded (context tables n) n sample) old

-- A row is written. No run goes on from the row before, and one that goes on at the row's end is ended there.
pub record WritesRow (tables : List (List ℤ)) (r : Rows) (old new : Written) : Type 0 where
  pub end : Written
  pub written : InRow (WritesSample tables) r (length r.row) (record old { pending = None }) end
  pub run : ended end.pending end ≡ new

-- the states of the contexts, and the bits
pub record Encoding : Type 0 where
  pub states : List State
  pub bits : List ℕ

abbrev pub encoding : List State → List ℕ → Encoding
encoding states bits = record { states = states; bits = bits }

-- between lines: no run goes on
abbrev pub between_lines : ℕ → Encoding → Written
between_lines index e = record { pending = None; index = index; states = e.states; bits = e.bits }

-- The samples of an area are written. Its runs begin anew.
pub record WritesArea (tables : List (List ℤ)) (image : Image) (area : Area) (old new : Encoding) : Type 0 where
  pub index : ℕ
  pub written : InTurn (WritesRow tables) (rows_of_plane area.width (samples image area)) (between_lines 0 old) (between_lines index new)

-- The samples of a part are written. The states of its contexts are fresh, and serve no more after it.
abbrev pub WritesPart : Image → Part → List ℕ → List ℕ → Type 0
WritesPart image p old new =
    (states : List State)
    × InTurn (WritesArea p.tables image) p.areas (encoding (replicate p.context_count fresh) old) (encoding states new)

abbrev pub WritesSlice : Slice → Image → List ℕ → List ℕ → Type 0
WritesSlice s image old new = InTurn (WritesPart image) (parts s) old new

-- bits as bytes, the highest of each byte first, with zeros that fill the last one
unfoldable pub packed_in : ℕ → List ℕ → List ℕ
packed_in zero bits = []
packed_in (suc more) bits = number_at 8 bits ∷ packed_in more (drop 8 bits)

abbrev pub packed : List ℕ → List ℕ
packed bits = packed_in ((length bits + 7) / 8) bits

-- The content of a slice: what the range coder wrote up to the header's end, with the sentinel, and then the bits of the samples.
-- RFC 9043 section 3.8.1.1.1.
abbrev pub content_of : range.Writing → List ℕ → List ℕ
content_of header bits = range.part (range.with_sentinel header) ++ packed bits
