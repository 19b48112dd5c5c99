-- Numbers in turn: what is true of those that are left is true of all.
use Rattle.std.proofs.Common.{ℕ, List, [], ◌∷◌, ◌++◌, refl, subst, append_assoc}
use Rattle.std.proofs.lemmas.List.{append-nil}
use Rattle.ffv1_range.specs.Symbol.{Source}
use Rattle.ffv1_slice.specs.Header.{ReadsNumber, ReadsUpTo}

-- These numbers are read, and others may follow.
pub record AreRead (numbers : List ℕ) (start now : Source) : Type 0 where
  pub follow : (more : List ℕ) (end : Source) → ReadsUpTo more now end → ReadsUpTo (numbers ++ more) start end

pub none_read : (start : Source) → AreRead [] start start
none_read start = record { follow = λ more end reads. reads }

pub all_read : (numbers : List ℕ) (start now : Source) → AreRead numbers start now → ReadsUpTo numbers start now
all_read numbers start now read =
    let P : List ℕ → Type 0 = λ n. ReadsUpTo n start now in subst P (append-nil numbers) (read.follow [] now refl)

pub number_more : (numbers : List ℕ) (number : ℕ) (start now next : Source)
    → AreRead numbers start now → ReadsNumber number now next → AreRead (numbers ++ number ∷ []) start next
number_more numbers number start now next read here = record {
  follow = λ more end reads. rw append_assoc (read.follow (number ∷ more) end (next, here, reads));
}
