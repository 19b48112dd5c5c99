-- The masters that are read stand in one another at most as deep as is read.
use Rattle.std.proofs.Common.{◌≡◌, ℕ, zero, suc, ◌+◌, ◌<◌, Bool, true, false, cond, List, [], ◌∷◌, Option, Some, refl, ap, arith}
use Rattle.std.proofs.Math.Path.{fun_ext}
use Rattle.std.specs.Prelude.{◌==◌, nat_lt, not, ◌&&◌, ◌||◌, if◌then◌else◌, find, option_map}
use Rattle.std.specs.List.{list_all}
use Rattle.std.proofs.lemmas.Bool.{and_parts, eqb-true, ltb-true}
use Rattle.ebml_core.specs.declared.element.Element.{Element}
use Rattle.ebml_core.specs.Listing.{Listing}
use Rattle.mkv_elements.specs.declared.TheConstants.{SEGMENT, TRACKS, TRACK_ENTRY, CLUSTER}
use Rattle.mkv_elements.specs.declared.table.Kind.{Kind}
use Rattle.mkv_elements.specs.declared.table.Kind.TheVariants as kinds
use Rattle.mkv_elements.specs.declared.table.Row.{Row}
use Rattle.mkv_elements.specs.declared.table.TheConstants.{FILE, TABLE}
use Rattle.mkv_elements.specs.Table.{kind_in}
use Rattle.mkv_read.specs.declared.block.Block.{Block}
use Rattle.mkv_read.specs.Elements.{elements_in}
use Rattle.mkv_read.specs.Faults.{first_fault, fault_as, fault_in}
use Rattle.mkv_read.specs.Blocks.{each_block, time_in, blocks_as, blocks_in}
use Rattle.mkv_read.specs.Limits.{depth}

-- ---- the table

-- how many masters that are read stand in one another at most in one of this id
height : ℕ → ℕ
height id =
    if id == FILE then 4 else (
    if id == SEGMENT then 3 else (
    if id == TRACKS then 2 else (
    if id == TRACK_ENTRY || id == CLUSTER then 1 else 0)))

abbrev is_master : Kind → Bool
is_master kinds.Master = true
is_master other = false

-- whether the element of a row is lower than its parent, where it is a master that is read
abbrev is_lower : Row → Bool
is_lower row = not (row.read && is_master row.kind) || nat_lt (height row.id) (height row.parent)

-- whether a row says what is read in an element of this id in this parent
abbrev is_of : ℕ → ℕ → Row → Bool
is_of parent id row = row.read && (row.id == id && row.parent == parent)

height-row : (parent id : ℕ) (row : Row) → is_of parent id row ≡ true → row.kind ≡ kinds.Master → is_lower row ≡ true → height id < height parent
height-row parent id row of is lower =
    let parts = and_parts row.read (row.id == id && row.parent == parent) of in
    let same = and_parts (row.id == id) (row.parent == parent) parts.1 in
    rw (← eqb-true row.id id same.0, ← eqb-true row.parent parent same.1) (ltb-true (height row.id) (height row.parent) (rw (parts.0, is) at lower))

height-find : (parent id : ℕ) (rows : List Row) → list_all is_lower rows ≡ true → option_map (λ row. row.kind) (find (is_of parent id) rows) ≡ Some kinds.Master → height id < height parent
height-find parent id [] lower is = absurd cc
height-find parent id (row ∷ rows) lower is =
    let lower_each = and_parts (is_lower row) (list_all is_lower rows) lower in
    by_test (is_of parent id row) refl is lower_each.0 (height-find parent id rows lower_each.1)
  where
    by_test : (here : Bool) → is_of parent id row ≡ here → option_map (λ row. row.kind) (cond here (Some row) (find (is_of parent id) rows)) ≡ Some kinds.Master → is_lower row ≡ true → (option_map (λ row. row.kind) (find (is_of parent id) rows) ≡ Some kinds.Master → height id < height parent) → height id < height parent
    by_test true of is lower later = height-row parent id row of (cc) lower
    by_test false other is lower later = later is

height-kind_in : (parent id : ℕ) → kind_in parent id ≡ Some kinds.Master → height id < height parent
unfolding kind_in height
height-kind_in parent id is = height-find parent id TABLE refl is

-- ---- levels

-- What is read over so many levels takes of the levels below only what these read of masters.
abbrev ReadsMasters : {X A : Type 0} → (ℕ → ℕ → X → A) → Type 0
ReadsMasters {X = X} read =
    (m n parent : ℕ) → ((id : ℕ) → kind_in parent id ≡ Some kinds.Master → (x : X) → read m id x ≡ read n id x) → (x : X) → read (suc m) parent x ≡ read (suc n) parent x

read-same : {X A : Type 0} (read : ℕ → ℕ → X → A) → ReadsMasters read → (m n parent : ℕ) → height parent < m → height parent < n → (x : X) → read m parent x ≡ read n parent x
read-same read masters zero n parent a b x = absurd (omega arith)
read-same read masters (suc m) zero parent a b x = absurd (omega arith)
read-same read masters (suc m) (suc n) parent a b x =
    masters m n parent (λ id is. let falls = height-kind_in parent id is in read-same read masters m n id (omega arith) (omega arith)) x

read-more : {X A : Type 0} (read : ℕ → ℕ → X → A) → ReadsMasters read → (more : ℕ) (x : X) → read (depth + more) FILE x ≡ read depth FILE x
unfolding height
read-more read masters more x = read-same read masters (depth + more) depth FILE (omega arith) (omega arith) x

-- ---- faults

fault_as-same : (bytes : List ℕ) (e : Element) (a b : Option ℕ) (kind : Option Kind) → (kind ≡ Some kinds.Master → a ≡ b) → fault_as bytes e a kind ≡ fault_as bytes e b kind
fault_as-same bytes e a b (Some kinds.Master) same = rw (same refl) refl
fault_as-same bytes e a b other same = refl

ReadsMasters-fault_in : (bytes : List ℕ) → ReadsMasters (λ levels parent (es : Listing). fault_in levels bytes parent es)
unfolding fault_in
ReadsMasters-fault_in bytes m n parent inside es =
    ap (λ (fault : Element → Option ℕ). first_fault fault es) (fun_ext (λ e. fault_as-same bytes e _ _ (kind_in parent e.id) (λ is. inside e.id is (elements_in bytes e))))

pub fault_in-more : (more : ℕ) (bytes : List ℕ) (es : Listing) → fault_in (depth + more) bytes FILE es ≡ fault_in depth bytes FILE es
fault_in-more more bytes es = read-more _ (ReadsMasters-fault_in bytes) more es

-- ---- blocks

blocks_as-same : (bytes : List ℕ) (track : Option ℕ) (time : ℕ) (e : Element) (a b : List Block) (kind : Option Kind) → (kind ≡ Some kinds.Master → a ≡ b) → blocks_as bytes track time e a kind ≡ blocks_as bytes track time e b kind
blocks_as-same bytes track time e a b (Some kinds.Master) same = same refl
blocks_as-same bytes track time e a b other same = refl

ReadsMasters-blocks_in : (bytes : List ℕ) (track : Option ℕ) → ReadsMasters (λ levels parent (x : ℕ × Listing). blocks_in levels bytes track parent x.0 x.1)
unfolding blocks_in
ReadsMasters-blocks_in bytes track m n parent inside x =
    ap (λ (blocks : Element → List Block). each_block blocks x.1) (fun_ext (λ e. blocks_as-same bytes track x.0 e _ _ (kind_in parent e.id) (λ is. inside e.id is (time_in bytes x.0 e, elements_in bytes e))))

pub blocks_in-more : (more : ℕ) (bytes : List ℕ) (track : Option ℕ) (time : ℕ) (es : Listing) → blocks_in (depth + more) bytes track FILE time es ≡ blocks_in depth bytes track FILE time es
blocks_in-more more bytes track time es = read-more _ (ReadsMasters-blocks_in bytes track) more (time, es)
