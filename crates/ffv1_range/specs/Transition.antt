-- State transitions. RFC 9043 section 3.8.1.4. A table is the list of its 256 entries, the state after a bit 1 for each state.
use Rattle.std.specs.Prelude.{◌≡◌, ℕ, ◌-◌, ◌<◌, Bool, if◌then◌else◌, List, length, slice_index, slice_set}

-- the state after a bit 1
abbrev pub one_state : List ℕ → ℕ → ℕ
one_state table state = slice_index table state

-- the state after a bit 0
abbrev pub zero_state : List ℕ → ℕ → ℕ
zero_state table state = 256 - slice_index table (256 - state)

abbrev pub next_state : List ℕ → ℕ → Bool → ℕ
next_state table state bit = if bit then one_state table state else zero_state table state

-- A state that a table keeps: the table has an entry for both states that can follow it.
abbrev pub IsKept : List ℕ → ℕ → Type 0
IsKept table state = (0 < slice_index table state) × (0 < slice_index table (256 - state))

-- a set of 32 states that a table keeps
abbrev pub AllKept : List ℕ → List ℕ → Type 0
AllKept table set = (k : ℕ) → k < 32 → IsKept table (slice_index set k)

-- What is true of each table of a `Transition`. It keeps 128, where every state starts, and with a state both that can follow it.
pub record IsTransition (table : List ℕ) : Type 0 where
  pub entries : length table ≡ 256
  pub bytes : (k : ℕ) → slice_index table k < 256
  pub none_for_zero : slice_index table 0 ≡ 0
  pub keeps_first : IsKept table 128
  pub keeps_next : (state : ℕ) (bit : Bool) → IsKept table state → IsKept table (next_state table state bit)

-- the states after a bit 0, for each state that has one
abbrev pub IsZeroStates : List ℕ → List ℕ → Type 0
IsZeroStates one zero = (state : ℕ) → 0 < state → 0 < slice_index one (256 - state) → slice_index zero state ≡ zero_state one state

-- the set after a bit at one of its places
abbrev pub moved : List ℕ → List ℕ → ℕ → Bool → List ℕ
moved table set place bit = slice_set set place (next_state table (slice_index set place) bit)
