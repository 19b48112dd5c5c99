-- How a configuration record is written: its fields as places and bits, coded by the default table. RFC 9043 sections 3.8 and 4.2.
use Rattle.std.specs.Prelude.{ℕ, zero, suc, ◌-◌, Bool, true, false, if◌then◌else◌, ◌==◌, pos, ◌+ℤ◌, neg_ℤ, List, [], ◌∷◌, ◌++◌, length, drop}
use Rattle.byteorder.specs.Endian.{big_bytes}
use Rattle.tl_base.specs.Parity.{parity}
use Rattle.pic_planes.specs.declared.shape.Chroma.{Chroma}
use Rattle.pic_planes.specs.declared.shape.Chroma.TheVariants.{Grey, Shifts}
use Rattle.ffv1_range.specs.declared.transition.TheConstants.{DEFAULT_TRANSITION}
use Rattle.ffv1_range.specs.Writing.{part}
use Rattle.ffv1_range.specs.Symbol.{spelling, with_states, set_after}
use Rattle.ffv1_range.specs.Law.{written}
use Rattle.ffv1_record.specs.Parameters.{Parameters, runs_of}
use Rattle.ffv1_record.specs.Reading.{fresh}

unfoldable pub number : ℕ → List (ℕ × Bool)
number n = spelling (pos n) false

unfoldable pub flag : Bool → List (ℕ × Bool)
flag bit = (0, bit) ∷ []

-- the differences of entries from the default ones
unfoldable pub deltas : List ℕ → List ℕ → List (ℕ × Bool)
deltas [] entries = []
deltas (default ∷ more) [] = []
deltas (default ∷ more) (entry ∷ entries) = spelling (pos entry +ℤ neg_ℤ (pos default)) true ++ deltas more entries

unfoldable pub transition : ℕ → List ℕ → List (ℕ × Bool)
transition coder_type table = if coder_type == 2 then deltas (drop 1 DEFAULT_TRANSITION) (drop 1 table) else []

unfoldable pub chroma : Chroma → List (ℕ × Bool)
chroma Grey = flag false ++ number 0 ++ number 0
chroma (Shifts h v) = flag true ++ number h ++ number v

-- version, micro_version, coder_type and the deltas
unfoldable pub coding : ℕ → List ℕ → List (ℕ × Bool)
coding coder_type table = number 3 ++ number 4 ++ number coder_type ++ transition coder_type table

-- colorspace_type, bits_per_raw_sample, the chroma planes, and no extra plane
unfoldable pub planes : ℕ → Chroma → List (ℕ × Bool)
planes bits shifts = number 0 ++ number bits ++ chroma shifts ++ flag false

-- the grid of slices, and the number of table sets
unfoldable pub grid : ℕ → ℕ → ℕ → List (ℕ × Bool)
grid columns rows sets = number (columns - 1) ++ number (rows - 1) ++ number sets

-- the fields before the tables
unfoldable pub before_tables : Parameters → List (ℕ × Bool)
before_tables p = coding p.coder_type p.transition ++ planes p.bits_per_sample p.chroma ++ grid p.columns p.rows (length p.sets)

-- the runs of a table, each by its length less 1
unfoldable pub runs : List ℕ → List (ℕ × Bool)
runs [] = []
runs (run ∷ more) = number (run - 1) ++ runs more

unfoldable pub flags : ℕ → List (ℕ × Bool)
flags zero = []
flags (suc n) = flag false ++ flags n

-- states_coded of each set, ec and intra
unfoldable pub ending : ℕ → Bool → ℕ → List (ℕ × Bool)
ending sets ec intra = flags sets ++ number (if ec then 1 else 0) ++ number intra

abbrev pub after_tables : Parameters → List (ℕ × Bool)
after_tables p = ending (length p.sets) p.ec p.intra

-- tables as bits with their states: each has a fresh set of its own
unfoldable pub coded_tables : List (List ℕ) → List (ℕ × Bool)
coded_tables [] = []
coded_tables (table ∷ more) = with_states DEFAULT_TRANSITION fresh (runs table) ++ coded_tables more

unfoldable pub coded_sets : List (List (List ℕ)) → List (ℕ × Bool)
coded_sets [] = []
coded_sets (set ∷ more) = coded_tables set ++ coded_sets more

-- a record as bits with their states: one set serves all fields but the tables
unfoldable pub coded : Parameters → List (ℕ × Bool)
coded p =
    with_states DEFAULT_TRANSITION fresh (before_tables p) ++ (coded_sets (runs_of p)
    ++ with_states DEFAULT_TRANSITION (set_after DEFAULT_TRANSITION fresh (before_tables p)) (after_tables p))

-- the bytes of a record: its range-coded part, which has no closing bit, and the parity of that
unfoldable pub with_parity : List ℕ → List ℕ
with_parity bytes = bytes ++ big_bytes 4 (parity bytes)

unfoldable pub record_bytes : Parameters → List ℕ
record_bytes p = with_parity (part (written DEFAULT_TRANSITION (coded p)))
