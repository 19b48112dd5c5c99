-- Lists of entries: whose they are, and which list begins which.
use Rattle.std.specs.Prelude.{◌≡◌, ℕ, ltb, ◌==◌, cond, List, ◌++◌, length, All, filter}
use Rattle.tl_model.specs.declared.journal.Entry.{Entry}

-- the entries of the pass with this number
abbrev pub entries_of : ℕ → List Entry → List Entry
entries_of number log = filter (λ e. e.pass == number) log

-- the log begins with the front
abbrev pub IsFront : (front log : List Entry) → Type 0
IsFront front log = (rest : List Entry) × (log ≡ front ++ rest)

-- entries of this number were added at the end
abbrev pub Adds : ℕ → (before after : List Entry) → Type 0
Adds number before after = (more : List Entry) × (after ≡ before ++ more) × All (λ e. e.pass ≡ number) more

-- of two lists the longer, and the other one; of lists as long as each other the first is the longer
abbrev pub longer : List Entry → List Entry → List Entry
longer xs ys = cond (ltb (length xs) (length ys)) ys xs

abbrev pub shorter : List Entry → List Entry → List Entry
shorter xs ys = cond (ltb (length xs) (length ys)) xs ys
