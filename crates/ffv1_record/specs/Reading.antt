-- What the bytes of a configuration record say: its fields, or the first fault in their order. RFC 9043 sections 4.1 to 4.3.
use Rattle.std.specs.Prelude.{◌≡◌, ◌≢◌, ℕ, zero, suc, ◌+◌, ◌-◌, ◌*◌, Bool, true, false, ◌&&◌, ◌||◌, if◌then◌else◌, nat_lt, nat_le, ◌==◌, ℤ, pos, ◌+ℤ◌, nat_abs, int_le, List, [], ◌∷◌, length, take, drop, replicate, Option, Some, None, Result, Ok, Err}
use Rattle.byteorder.specs.Endian.{big_number}
use Rattle.tl_base.specs.Parity.{parity}
use Rattle.pic_planes.specs.declared.shape.Chroma.{Chroma}
use Rattle.pic_planes.specs.declared.shape.Chroma.TheVariants.{Grey, Shifts}
use Rattle.ffv1_range.specs.declared.transition.TheConstants.{DEFAULT_TRANSITION}
use Rattle.ffv1_range.specs.Reading.{opened}
use Rattle.ffv1_range.specs.Symbol.{Source, source, bit_at_place, after_place, symbol_at}
use Rattle.ffv1_record.specs.declared.fault.RecordFault.{RecordFault}
use Rattle.ffv1_record.specs.declared.fault.RecordFault.TheVariants as faults
use Rattle.ffv1_record.specs.Tables.{next_scale}
use Rattle.ffv1_record.specs.Parameters.{Parameters, parameters_of}

infixl 10 ◌>>=◌
abbrev pub ◌>>=◌ : {A B : Type 0} → Result A RecordFault → (A → Result B RecordFault) → Result B RecordFault
(Ok x) >>= f = f x
(Err e) >>= f = Err e

-- What a call answered, seen by view, is what reading gives, unless memory was wanting.
abbrev pub Fails : {A : Type 0} → RecordFault → Result A RecordFault → Type 0
Fails fault read = fault ≢ faults.NoMemory → read ≡ Err fault

abbrev pub Gives : {X A : Type 0} → (X → A) → Result X RecordFault → Result A RecordFault → Type 0
Gives view (Ok x) read = read ≡ Ok (view x)
Gives view (Err fault) read = Fails fault read

-- the same for a call that leaves what is read from at `new`
abbrev pub Leaves : {X A : Type 0} → (X → A) → Result X RecordFault → Source → Result (A × Source) RecordFault → Type 0
Leaves view result new read = Gives (λ x. (view x, new)) result read

abbrev pub fresh : List ℕ
fresh = replicate 32 128

-- ---- fields of one symbol or bit: a value, and what is left
abbrev pub value_of : Option ℤ × Source → Result (ℤ × Source) RecordFault
value_of (Some value, s) = Ok (value, s)
value_of (None, s) = Err faults.Symbol

unfoldable pub signed_at : Source → Result (ℤ × Source) RecordFault
signed_at s = value_of (symbol_at s true)

unfoldable pub number_at : Source → Result (ℕ × Source) RecordFault
number_at s = do
  value ← value_of (symbol_at s false)
  Ok (nat_abs value.0, value.1)

-- a number that has one value only
unfoldable pub only_at : ℕ → RecordFault → Source → Result (ℕ × Source) RecordFault
only_at value fault s = do
  number ← number_at s
  if number.0 == value then Ok number else Err fault

-- ---- version, micro_version, coder_type
unfoldable pub coder_at : Source → Result (ℕ × Source) RecordFault
coder_at s = do
  version ← only_at 3 faults.Version s
  micro ← only_at 4 faults.Micro version.1
  coder ← number_at micro.1
  if nat_le coder.0 2 then Ok coder else Err faults.Coder

-- ---- state_transition_delta: each entry is the default one and a delta
unfoldable pub entry_at : ℕ → Source → Result (ℕ × Source) RecordFault
entry_at default s = do
  delta ← signed_at s
  let entry = pos default +ℤ delta.0 in
      if int_le (pos 1) entry && int_le entry (pos 255) then Ok (nat_abs entry, delta.1) else Err faults.Transition

unfoldable pub entries_at : List ℕ → Source → Result (List ℕ × Source) RecordFault
entries_at [] s = Ok ([], s)
entries_at (default ∷ more) s = do
  entry ← entry_at default s
  others ← entries_at more entry.1
  Ok (entry.0 ∷ others.0, others.1)

unfoldable pub transition_at : ℕ → Source → Result (List ℕ × Source) RecordFault
transition_at coder_type s =
    if coder_type == 2
    then (entries_at (drop 1 DEFAULT_TRANSITION) s >>= λ entries. Ok (0 ∷ entries.0, entries.1))
    else Ok (DEFAULT_TRANSITION, s)

-- ---- colorspace_type, bits_per_raw_sample
unfoldable pub bits_at : Source → Result (ℕ × Source) RecordFault
bits_at s = do
  color ← only_at 0 faults.Color s
  bits ← number_at color.1
  if (bits.0 == 0) || (bits.0 == 8) then Ok (8, bits.1) else Err faults.Depth

-- ---- chroma_planes, log2_h_chroma_subsample, log2_v_chroma_subsample, extra_plane
abbrev pub chroma_of : Bool → ℕ → ℕ → Result Chroma RecordFault
chroma_of false h v = Ok Grey
chroma_of true h v = if nat_le h 2 && nat_le v 2 then Ok (Shifts h v) else Err faults.Subsample

unfoldable pub chroma_at : Source → Result (Chroma × Source) RecordFault
chroma_at s = do
  h ← number_at (after_place s 0)
  v ← number_at h.1
  chroma ← chroma_of (bit_at_place s 0) h.0 v.0
  if bit_at_place v.1 0 then Err faults.ExtraPlane else Ok (chroma, after_place v.1 0)

-- ---- num_h_slices - 1, num_v_slices - 1
unfoldable pub grid_at : Source → Result ((ℕ × ℕ) × Source) RecordFault
grid_at s = do
  columns ← number_at s
  rows ← number_at columns.1
  if nat_le ((columns.0 + 1) * (rows.0 + 1)) 1024 then Ok ((columns.0 + 1, rows.0 + 1), rows.1) else Err faults.Slices

-- ---- quantization tables, as the lengths of their runs
-- the runs of the entries that are left, at most so many runs
unfoldable pub runs_at : ℕ → ℕ → Source → Result (List ℕ × Source) RecordFault
runs_at zero left s = Ok ([], s)
runs_at (suc most) left s =
    if left == 0
    then Ok ([], s)
    else do
      run ← number_at s
      others ← (if nat_lt run.0 left then runs_at most (left - (run.0 + 1)) run.1 else Err faults.Tables)
      Ok ((run.0 + 1) ∷ others.0, others.1)

-- a table's runs, read with a fresh set of their own, and the scale after it
unfoldable pub table_at : ℕ → Source → Result ((List ℕ × ℕ) × Source) RecordFault
table_at scale s = do
  runs ← runs_at 128 128 (source s.reading fresh)
  if nat_le (next_scale scale runs.0) 32768 then Ok ((runs.0, next_scale scale runs.0), source runs.1.reading s.set) else Err faults.Tables

-- so many tables of a set from a scale on
unfoldable pub tables_at : ℕ → ℕ → Source → Result (List (List ℕ) × Source) RecordFault
tables_at zero scale s = Ok ([], s)
tables_at (suc n) scale s = do
  table ← table_at scale s
  others ← tables_at n table.0.1 table.1
  Ok (table.0.0 ∷ others.0, others.1)

unfoldable pub sets_at : ℕ → Source → Result (List (List (List ℕ)) × Source) RecordFault
sets_at zero s = Ok ([], s)
sets_at (suc n) s = do
  set ← tables_at 5 1 s
  others ← sets_at n set.1
  Ok (set.0 ∷ others.0, others.1)

-- states_coded, for each set
unfoldable pub states_at : ℕ → Source → Result (Unit {0} × Source) RecordFault
states_at zero s = Ok (tt, s)
states_at (suc n) s = if bit_at_place s 0 then Err faults.InitialStates else states_at n (after_place s 0)

-- quant_table_set_count, the sets, and states_coded of each
unfoldable pub all_sets_at : Source → Result (List (List (List ℕ)) × Source) RecordFault
all_sets_at s = do
  count ← number_at s
  sets ← (if nat_le 1 count.0 && nat_le count.0 8 then sets_at count.0 count.1 else Err faults.Tables)
  states ← states_at count.0 sets.1
  Ok (sets.0, states.1)

-- ---- ec, intra
unfoldable pub ec_at : Source → Result (Bool × Source) RecordFault
ec_at s = do
  ec ← number_at s
  if nat_le ec.0 1 then Ok (ec.0 == 1, ec.1) else Err faults.Ec

-- ---- the whole record. What follows intra isn't read.
unfoldable pub fields_at : Source → Result Parameters RecordFault
fields_at s = do
  coder ← coder_at s
  transition ← transition_at coder.0 coder.1
  bits ← bits_at transition.1
  chroma ← chroma_at bits.1
  grid ← grid_at chroma.1
  sets ← all_sets_at grid.1
  ec ← ec_at sets.1
  intra ← number_at ec.1
  Ok (parameters_of coder.0 transition.0 chroma.0 grid.0.0 grid.0.1 sets.0 ec.0 intra.0)

-- bytes without their last four, and whether these are the parity of those
abbrev pub content : List ℕ → List ℕ
content bytes = take (length bytes - 4) bytes

abbrev pub has_parity : List ℕ → Bool
has_parity bytes = big_number 4 (drop (length bytes - 4) bytes) == parity (content bytes)

unfoldable pub parameters : List ℕ → Result Parameters RecordFault
parameters bytes =
    if nat_lt (length bytes) 6
    then Err faults.Short
    else if has_parity bytes
    then fields_at (source (opened DEFAULT_TRANSITION (content bytes)) fresh)
    else Err faults.Parity
