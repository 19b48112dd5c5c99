-- The only line that words can be the words of, if they are those of a line.
use Rattle.std.specs.Prelude.{◌≡◌, ℕ, ◌+◌, ◌-◌, ◌*◌, ◌^◌, Bool, ◌&&◌, nat_lt, if◌then◌else◌, List, [], ◌∷◌, codes, fold, Option, Some, None, option_map, Result, Ok, Err}
use Rattle.std.specs.Char.{is_ascii_digit}
use Rattle.std.specs.Str.{bytes_eq}
use Rattle.text_words.specs.Blanks.{text}
use Rattle.script_lang.specs.declared.out_line.OutLine.{OutLine}
use Rattle.script_lang.specs.declared.out_line.OutLine.TheVariants as out
use Rattle.script_lang.specs.declared.parsing.Unread.{Unread}
use Rattle.script_lang.specs.declared.parsing.Unread.TheVariants.{NoLine, NoMemory}

infixl 10 ◌>>=◌
abbrev pub ◌>>=◌ : {A B : Type 0} → Option A → (A → Option B) → Option B
(Some x) >>= f = f x
None >>= f = None

-- Digits are read one after another, as long as the number has at most 64 bits.
abbrev pub next_value : Option ℕ → (digit : ℕ) → Option ℕ
next_value None digit = None
next_value (Some value) digit =
    if is_ascii_digit digit && nat_lt (10 * value + (digit - 48)) (2 ^ 64) then Some (10 * value + (digit - 48)) else None

unfoldable pub long_number : List ℕ → Option ℕ
long_number word = fold next_value (Some 0) word

unfoldable pub number : List ℕ → Option ℕ
number word = do
  n ← long_number word
  if nat_lt n (2 ^ 32) then Some n else None

-- a first word and a number
unfoldable pub counted : (first : List ℕ) (n : ℕ) → Option OutLine
counted first n =
    if bytes_eq first (codes "ok") then Some (out.Ok n)
    else if bytes_eq first (codes "wanted") then Some (out.Wanted n)
    else if bytes_eq first (codes "cancelled") then Some (out.Cancelled n)
    else if bytes_eq first (codes "past") then Some (out.Past n)
    else if bytes_eq first (codes "frame") then Some (out.Frame n)
    else if bytes_eq first (codes "pending") then Some (out.Pending n)
    else if bytes_eq first (codes "worked") then Some (out.Worked n)
    else None

-- two words
unfoldable pub two : (first a : List ℕ) → Option OutLine
two first a =
    if bytes_eq first (codes "refused") then (do
      why ← text a
      Some (out.Refused why))
    else if bytes_eq first (codes "asked") then (do
      export ← long_number a
      Some (out.Asked export))
    else if bytes_eq first (codes "screen") then Some out.ScreenFailed
    else if bytes_eq first (codes "no") then Some out.NoMemory
    else (do
      n ← number a
      counted first n)

-- an export and how it ended
unfoldable pub ended : (a b : List ℕ) → Option OutLine
ended a b = do
  export ← long_number a
  if bytes_eq b (codes "sink") then Some (out.Sink export) else Some (out.Memory export)

-- three words
unfoldable pub three : (first a b : List ℕ) → Option OutLine
three first a b =
    if bytes_eq first (codes "fault") then (do
      n ← number a
      kind ← text b
      Some (out.Fault n kind))
    else if bytes_eq first (codes "store") then (do
      name ← text a
      kind ← text b
      Some (out.Store name kind))
    else ended a b

-- an export, how it ended, and a number of frames
unfoldable pub ended_at : (a b c : List ℕ) → Option OutLine
ended_at a b c = do
  export ← long_number a
  n ← number c
  if bytes_eq b (codes "done") then Some (out.Done export n) else Some (out.Long export n)

-- four words
unfoldable pub four : (first a b c : List ℕ) → Option OutLine
four first a b c =
    if bytes_eq first (codes "edl") then (do
      n ← number b
      why ← text c
      Some (out.EdlLine n why))
    else if bytes_eq first (codes "fault") then (do
      n ← number b
      why ← text c
      Some (out.FaultLine n why))
    else if bytes_eq first (codes "journal") then (do
      len ← long_number b
      owed ← long_number c
      Some (out.JournalFull len owed))
    else ended_at a b c

-- the line of a faulty clip
unfoldable pub five : (a b c : List ℕ) → Option OutLine
five a b c = do
  n ← number a
  kind ← text c
  if bytes_eq b (codes "clip") then Some (out.FaultClip n kind) else Some (out.FaultRecord n kind)

-- the frame that stopped an export
unfoldable pub seven : (a b c d e : List ℕ) → Option OutLine
seven a b c d e = do
  export ← long_number a
  at ← number b
  clip ← text c
  frame ← number d
  kind ← text e
  Some (out.ExportFault export at clip frame kind)

unfoldable pub parsed : List (List ℕ) → Option OutLine
parsed (first ∷ a ∷ []) = two first a
parsed (first ∷ a ∷ b ∷ []) = three first a b
parsed (first ∷ a ∷ b ∷ c ∷ []) = four first a b c
parsed (fault ∷ line ∷ a ∷ b ∷ c ∷ []) = five a b c
parsed (export ∷ a ∷ fault ∷ b ∷ c ∷ d ∷ e ∷ []) = seven a b c d e
parsed (a ∷ b ∷ c ∷ d ∷ e ∷ f ∷ g ∷ h ∷ i ∷ []) = Some out.Usage
parsed other = None

-- A function of the code finds what the definition does, unless memory was wanting.
abbrev pub Finds : Result OutLine Unread → Option OutLine → Type 0
Finds (Ok line) found = found ≡ Some line
Finds (Err NoLine) found = found ≡ None
Finds (Err NoMemory) found = Unit {0}

abbrev pub FindsName : Result (List ℕ) Unread → Option (List ℕ) → Type 0
FindsName (Ok name) found = found ≡ Some name
FindsName (Err NoLine) found = found ≡ None
FindsName (Err NoMemory) found = Unit {0}
