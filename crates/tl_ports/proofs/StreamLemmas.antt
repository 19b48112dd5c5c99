-- Buffers that begin with what they held.
use Rattle.std.proofs.Common.{◌≡◌, ◌≤◌, ◌<◌, ◌+◌, Option, Some, None, IfSome, length-append, ◌++◌, ℕ, List, length, take, drop, sym, ◌∙◌, ap, arith, length-drop}
use Rattle.std.proofs.lemmas.List.{length-take, take-take, take-append-drop}
use Rattle.std.specs.Io.{StartsWith}
use Rattle.std.specs.Io.KnownBytes.{Consumes, IsAtEnd}
use Rattle.std.proofs.KnownBytes.{Consumes-all, Consumes-more, starts_with_rest}
use Rattle.tl_ports.specs.declared.fault.FetchFault.{FetchFault}
use Rattle.tl_ports.specs.declared.fault.FetchFault.TheVariants.{Failed, Missing, TooLarge, NoMemory}
use Rattle.tl_ports.specs.Stream.{IsReadFault, IsOver}

-- What begins with a list is at least as long.
pub length-StartsWith : (whole front : List ℕ) → StartsWith whole front → length front ≤ length whole
length-StartsWith whole front begins = omega (arith, length-take (length front) whole, ap length begins)

-- What begins with a list that begins with another begins with that one.
pub StartsWith-trans : (first second third : List ℕ) → StartsWith second first → StartsWith third second → StartsWith third first
StartsWith-trans first second third before after =
    let shorter : length first ≤ length second = length-StartsWith second first before in
    sym (take-take (length first) (length second) third shorter) ∙ ap (take (length first)) after ∙ before

-- What was appended, and how long it is at most.
pub piece_of : (before after : List ℕ) (limit : ℕ) → StartsWith after before → length after ≤ length before + limit → (piece : List ℕ) × (after ≡ before ++ piece) × (length piece ≤ limit)
piece_of before after limit begins within = (
  drop (length before) after,
  sym (take-append-drop (length before) after) ∙ ap (λ front. front ++ drop (length before) after) begins,
  omega (arith, length-drop (length before) after),
)

-- A failed read says nothing of the limit.
pub IsOver-read : (limit : ℕ) (known : Option (List ℕ)) (fault : FetchFault) → IsReadFault fault → IsOver limit known fault
IsOver-read limit known Failed is = tt
IsOver-read limit known Missing is = tt
IsOver-read limit known (TooLarge told) is = absurd is
IsOver-read limit known NoMemory is = tt

-- A buffer that grew twice, up to the reader's end, grew by all that the reader had.
pub whole_of : (a b c : Option (List ℕ)) (old mid new : List ℕ) → StartsWith mid old → StartsWith new mid → Consumes a b (drop (length old) mid) → Consumes b c (drop (length mid) new) → IsAtEnd c
    → IfSome a (λ text. new ≡ old ++ text)
whole_of a b c old mid new first second before more end =
    Consumes-all a c (drop (length old) new) old new (Consumes-more a b c old mid new first second before more) end (starts_with_rest new old (StartsWith-trans old mid new first second))

-- What was taken from a reader is no longer than what it had.
pub longer_than : (a c : Option (List ℕ)) (piece : List ℕ) (limit : ℕ) → Consumes a c piece → limit < length piece → IfSome a (λ text. limit < length text)
longer_than None c piece limit taken over = tt
longer_than (Some text) None piece limit taken over = absurd taken
longer_than (Some text) (Some rest) piece limit taken over = omega (arith, ap length taken, length-append piece rest)

-- A buffer that grew twice, by more than the limit, took more than the limit.
pub over_of : (a b c : Option (List ℕ)) (old mid new : List ℕ) (limit : ℕ) → StartsWith mid old → StartsWith new mid → Consumes a b (drop (length old) mid) → Consumes b c (drop (length mid) new)
    → length old + limit < length new → IfSome a (λ text. limit < length text)
over_of a b c old mid new limit first second before more over =
    longer_than a c (drop (length old) new) limit (Consumes-more a b c old mid new first second before more) (omega (arith, length-drop (length old) new))
