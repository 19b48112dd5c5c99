-- Fronts of a list, and the entries of one number.
use Rattle.std.proofs.Common.{◌≡◌, ℕ, ◌≤◌, ◌≢◌, ltb, eqb, cond, Bool, true, false, List, [], ◌∷◌, ◌++◌, length, All, sym, refl, ap, ◌∙◌, subst, append_assoc, append-nil, ne_eqb, arith}
use borrow.Author.Tests.{ltb-true, ltb-false}
use Rattle.std.proofs.lemmas.List.Elements.{filter-append, All-head, All-tail}
use Rattle.tl_model.specs.declared.journal.Entry.{Entry}
use Rattle.turn_lock.specs.Entries.{entries_of, IsFront, longer, shorter}

pub front_self : (log : List Entry) → IsFront log log
front_self log = ([], sym (append-nil log))

pub front_on : (front log more : List Entry) → IsFront front log → IsFront front (log ++ more)
front_on front log more f = (f.0 ++ more, ap (λ l. l ++ more) f.1 ∙ append_assoc front f.0 more)

-- of two fronts of one list the shorter begins the longer
pub front_front : (a b log : List Entry) → IsFront a log → IsFront b log → length a ≤ length b → IsFront a b
front_front [] b log f g le = (b, refl)
front_front (x ∷ xs) [] log f g le = absurd (omega arith)
front_front (x ∷ xs) (y ∷ ys) log f g le =
    let e : x ∷ (xs ++ f.0) ≡ y ∷ (ys ++ g.0) = sym f.1 ∙ g.1 in
    let head : x ≡ y = cc in
    let tail : xs ++ f.0 ≡ ys ++ g.0 = cc in
    let r = front_front xs ys (ys ++ g.0) (f.0, sym tail) (g.0, refl) (omega arith) in
    let whole : y ∷ ys ≡ x ∷ (xs ++ r.0) = cc in (r.0, whole)

fronts_at : (a b log : List Entry) (t : Bool) → ltb (length a) (length b) ≡ t → IsFront (cond t b a) log → IsFront (cond t a b) log → IsFront a (cond t b a) × IsFront b (cond t b a)
fronts_at a b log true is f g = let lt = ltb-true (length a) (length b) is in (front_front a b log g f (omega arith), front_self b)
fronts_at a b log false is f g = let le = ltb-false (length a) (length b) is in (front_self a, front_front b a log g f (omega arith))

pub fronts_of_longer : (a b log : List Entry) → IsFront (longer a b) log → IsFront (shorter a b) log → IsFront a (longer a b) × IsFront b (longer a b)
fronts_of_longer a b log f g = fronts_at a b log (ltb (length a) (length b)) refl f g

pub either_front : (a b log : List Entry) (t : Bool) → IsFront a log → IsFront b log → IsFront (cond t a b) log
either_front a b log true f g = f
either_front a b log false f g = g

pub entries-append : (number : ℕ) (log more : List Entry) → entries_of number (log ++ more) ≡ entries_of number log ++ entries_of number more
entries-append number log more = filter-append (λ (e : Entry). eqb e.pass number) log more

-- another number has no entry among them
pub entries_other : (mine number : ℕ) (more : List Entry) → All (λ e. e.pass ≡ mine) more → number ≢ mine → entries_of number more ≡ []
entries_other mine number [] all other = refl
entries_other mine number (e ∷ es) all other =
    let is : e.pass ≡ mine = All-head (λ (e : Entry). e.pass ≡ mine) e es all in
    let rest = entries_other mine number es (All-tail (λ (e : Entry). e.pass ≡ mine) e es all) other in
    let no_match : eqb e.pass number ≡ false = ne_eqb e.pass number (λ same. other (sym same ∙ is)) in
    ap (λ (t : Bool). cond t (e ∷ entries_of number es) (entries_of number es)) no_match ∙ rest

-- another number's entries stay
pub entries_stay : (mine number : ℕ) (log more : List Entry) → All (λ e. e.pass ≡ mine) more → number ≢ mine → entries_of number (log ++ more) ≡ entries_of number log
entries_stay mine number log more all other =
    entries-append number log more ∙ ap (λ l. entries_of number log ++ l) (entries_other mine number more all other) ∙ append-nil (entries_of number log)

none_left : (xs ys : List Entry) → xs ++ ys ≡ [] → xs ≡ []
none_left [] ys e = refl
none_left (x ∷ xs) ys e = absurd cc

none_after : (xs ys zs : List Entry) → xs ≡ (xs ++ ys) ++ zs → ys ≡ []
none_after [] ys zs e = none_left ys zs (sym e)
none_after (x ∷ xs) ys zs e = let tail : xs ≡ (xs ++ ys) ++ zs = cc in none_after xs ys zs tail

-- a list without entries of a number has no front with some
pub entries_front_none : (number : ℕ) (front log : List Entry) → IsFront front log → entries_of number log ≡ [] → entries_of number front ≡ []
entries_front_none number front log f none =
    none_left (entries_of number front) (entries_of number f.0) (sym (entries-append number front f.0) ∙ ap (entries_of number) (sym f.1) ∙ none)

-- where a front has all entries of a number, so has a longer one
entries_between : (number : ℕ) (a b log : List Entry) → IsFront a b → IsFront b log → entries_of number a ≡ entries_of number log → entries_of number b ≡ entries_of number log
entries_between number a b log f g own =
    let mid : entries_of number b ≡ entries_of number a ++ entries_of number f.0 = ap (entries_of number) f.1 ∙ entries-append number a f.0 in
    let whole : entries_of number log ≡ entries_of number b ++ entries_of number g.0 = ap (entries_of number) g.1 ∙ entries-append number b g.0 in
    let nothing : entries_of number f.0 ≡ [] = none_after (entries_of number a) (entries_of number f.0) (entries_of number g.0) (own ∙ whole ∙ ap (λ l. l ++ entries_of number g.0) mid) in
    mid ∙ ap (λ l. entries_of number a ++ l) nothing ∙ append-nil (entries_of number a) ∙ own

pub entries-longer : (number : ℕ) (a b log : List Entry) → IsFront (longer a b) log → IsFront (shorter a b) log → entries_of number a ≡ entries_of number log → entries_of number (longer a b) ≡ entries_of number log
entries-longer number a b log f g own = entries_between number a (longer a b) log (fronts_of_longer a b log f g).0 f own

-- what two lists were is a front of the longer, where both were compared with one list
pub fronts_after : (a b p q seen behind after : List Entry) → seen ≡ longer a b → behind ≡ shorter a b → after ≡ seen → a ≡ p → b ≡ q → (log : List Entry) × IsFront seen log × IsFront behind log
    → IsFront p after × IsFront q after
fronts_after a b p q seen behind after is other same a_is b_is told =
    let both = fronts_of_longer a b told.0 (subst (λ l. IsFront l told.0) is told.1) (subst (λ l. IsFront l told.0) other told.2) in
    let whole : longer a b ≡ after = sym (same ∙ is) in
    (subst (λ l. IsFront l after) a_is (subst (λ l. IsFront a l) whole both.0), subst (λ l. IsFront l after) b_is (subst (λ l. IsFront b l) whole both.1))
