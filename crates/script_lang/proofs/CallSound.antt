-- What a line of a body gives keeps the limits of numbers, and names no file.
use Rattle.std.proofs.Common.{◌≡◌, ℕ, zero, suc, nat_eq, ◌≤◌, ℤ, pos, neg_ℤ, Bool, true, false, ◌&&◌, nat_le, if◌then◌else◌, List, [], ◌∷◌, Option, Some, None, option_map, Result, Ok, Err, codes, refl, ap, sym, ◌∙◌, subst, arith}
use Rattle.std.specs.Prelude.{unsigned_abs}
use Rattle.std.specs.Option.{ok_or}
use Rattle.std.specs.Str.{bytes_eq}
use Rattle.std.proofs.lemmas.Bool.{leb-true}
use Rattle.tl_limits.specs.Limits.{max_frames, IsFrameCount, IsSmall}
use Rattle.tl_model.specs.Edit.{IsNear}
use Rattle.text_words.specs.Number.{number, signed_number, is_number, value_of}
use Rattle.script_lang.specs.declared.calls.Piece.{Piece}
use Rattle.script_lang.specs.declared.script.Call.{Call}
use Rattle.script_lang.specs.declared.script.Call.TheVariants as call
use Rattle.script_lang.specs.declared.script.ScriptFault.{ScriptFault}
use Rattle.script_lang.specs.declared.script.ScriptFault.TheVariants as faults
use Rattle.script_lang.specs.Fields.{◌>>=◌, within, whole, signed, name_of, one_number, pair_of, two_numbers, place_by}
use Rattle.script_lang.specs.Calls.{span_of, piece_of, relink_of, no_words, journal_call, view_call, place_call, call_of}
use Rattle.script_lang.specs.Lists.{Words}
use Rattle.script_lang.specs.ScriptText.{list_files, export_files}
use Rattle.script_lang.specs.ScriptSound.{IsCall}
use Rattle.script_lang.proofs.Reread.{both}

-- ---- steps that gave something
pub bound : {A B E : Type 0} (r : Result A E) (f : A → Result B E) (y : B) (P : Type 0) → ((x : A) → r ≡ Ok x → f x ≡ Ok y → P) → (r >>= f) ≡ Ok y → P
bound (Ok x) f y P h e = h x refl e
bound (Err why) f y P h e = absurd (cc)

pub mapped : {A B E : Type 0} (r : Result A E) (g : A → B) (y : B) (P : B → Type 0) → ((x : A) → r ≡ Ok x → P (g x)) → (r >>= λ x. Ok (g x)) ≡ Ok y → P y
mapped (Ok x) g y P h e =
    let same : g x ≡ y = cc in
    subst P same (h x refl)
mapped (Err why) g y P h e = absurd (cc)

pub either : {A : Type 0} (b : Bool) (x y z : A) (P : Type 0) → (b ≡ true → x ≡ z → P) → (y ≡ z → P) → (if b then x else y) ≡ z → P
either true x y z P f g e = f refl e
either false x y z P f g e = g e

-- one more test of a first word
pub next : (b : Bool) (r rest : Result Call ScriptFault) (said : Call) (P : Call → Type 0) → (r ≡ Ok said → P said) → (rest ≡ Ok said → P said)
    → (if b then r else rest) ≡ Ok said → P said
next true r rest said P f g e = f e
next false r rest said P f g e = g e

pub some_of : {A E : Type 0} (o : Option A) (why : E) (x : A) → ok_or o why ≡ Ok x → o ≡ Some x
some_of (Some y) why x e = let same : y ≡ x = cc in ap Some same
some_of None why x e = absurd (cc)

-- ---- numbers
some_is : (x y : ℕ) → Some x ≡ Some y → x ≡ y
some_is x y e = cc

inside : (low high value n : ℕ) → (nat_le low value && nat_le value high) ≡ true → Some value ≡ Some n → (low ≤ n) × (n ≤ high)
inside low high value n test e =
    let parts = both (nat_le low value) (nat_le value high) test in
    let same : value ≡ n = some_is value n e in
    let least : low ≤ value = leb-true low value parts.0 in
    let most : value ≤ high = leb-true value high parts.1 in
    (omega arith, omega arith)

pub number_bounds : (most low high : ℕ) (word : List ℕ) (n : ℕ) → number most low high word ≡ Some n → (low ≤ n) × (n ≤ high)
unfolding number
number_bounds most low high word n e =
    let P : Type 0 = (low ≤ n) × (n ≤ high) in
    let value : ℕ = value_of word in
    either (is_number most word) (if nat_le low value && nat_le value high then Some value else None) None (Some n) P
    (λ _ h. either (nat_le low value && nat_le value high) (Some value) None (Some n) P (λ test g. inside low high value n test g) (λ g. absurd (cc)) h)
    (λ g. absurd (cc)) e

pub whole_bounds : (low : ℕ) (word : List ℕ) (n : ℕ) → whole low word ≡ Ok n → (low ≤ n) × (n ≤ max_frames)
unfolding within
whole_bounds low word n e = number_bounds 7 low max_frames word n (some_of (number 7 low max_frames word) faults.Number n e)

-- the value of a number with a sign
signed_value : (o : Option ℕ) (f : ℕ → ℤ) (by : ℤ) → ((n : ℕ) → unsigned_abs (f n) ≡ n) → ((n : ℕ) → o ≡ Some n → n ≤ max_frames) → option_map f o ≡ Some by → IsNear by
signed_value (Some n) f by size few e =
    let same : f n ≡ by = cc in
    let most : n ≤ max_frames = few n refl in
    let length : unsigned_abs (f n) ≤ max_frames = omega (arith, size n) in
    subst IsNear same length
signed_value None f by size few e = absurd (cc)

negated : (n : ℕ) → unsigned_abs (neg_ℤ (pos n)) ≡ n
negated zero = refl
negated (suc n) = refl

pub signed_near : (word : List ℕ) (by : ℤ) → signed word ≡ Ok by → IsNear by
unfolding signed signed_number
signed_near [] by e = absurd (cc)
signed_near (sign ∷ digits) by e =
    either (nat_eq sign 45) (option_map (λ n. neg_ℤ (pos n)) (number 7 0 max_frames digits)) (option_map (λ n. pos n) (number 7 0 max_frames (sign ∷ digits))) (Some by) (IsNear by)
    (λ _ h. signed_value (number 7 0 max_frames digits) (λ n. neg_ℤ (pos n)) by negated (λ n g. (number_bounds 7 0 max_frames digits n g).1) h)
    (λ h. signed_value (number 7 0 max_frames (sign ∷ digits)) (λ n. pos n) by (λ n. refl) (λ n g. (number_bounds 7 0 max_frames (sign ∷ digits) n g).1) h)
    (some_of (signed_number 7 max_frames (sign ∷ digits)) faults.Number by e)

pub one_bounds : (low : ℕ) (rest : Words) (n : ℕ) → one_number low rest ≡ Ok n → (low ≤ n) × (n ≤ max_frames)
unfolding one_number
one_bounds low (a ∷ []) n e = whole_bounds low a n e
one_bounds low [] n e = absurd (cc)
one_bounds low (a ∷ b ∷ more) n e = absurd (cc)

abbrev AreBounded : (low : ℕ) → ℕ × ℕ → Type 0
AreBounded low x = (x.0 ≤ max_frames) × (low ≤ x.1) × (x.1 ≤ max_frames)

pair_bounds : (low : ℕ) (a b : List ℕ) (x : ℕ × ℕ) → pair_of low a b ≡ Ok x → AreBounded low x
unfolding pair_of
pair_bounds low a b x e =
    bound (whole 0 a) (λ at. whole low b >>= λ n. Ok (at, n)) x (AreBounded low x)
    (λ at first h. mapped (whole low b) (λ n. (at, n)) x (AreBounded low)
    (λ n second. let parts = whole_bounds low b n second in ((whole_bounds 0 a at first).1, parts.0, parts.1)) h) e

pub two_bounds : (low : ℕ) (rest : Words) (x : ℕ × ℕ) → two_numbers low rest ≡ Ok x → AreBounded low x
unfolding two_numbers
two_bounds low (a ∷ b ∷ []) x e = pair_bounds low a b x e
two_bounds low [] x e = absurd (cc)
two_bounds low (a ∷ []) x e = absurd (cc)
two_bounds low (a ∷ b ∷ c ∷ more) x e = absurd (cc)

pub by_bounds : (rest : Words) (x : ℕ × ℤ) → place_by rest ≡ Ok x → IsSmall x.0 × IsNear x.1
unfolding place_by
by_bounds (a ∷ b ∷ []) x e =
    bound (whole 0 a) (λ at. signed b >>= λ by. Ok (at, by)) x (IsSmall x.0 × IsNear x.1)
    (λ at first h. mapped (signed b) (λ by. (at, by)) x (λ y. IsSmall y.0 × IsNear y.1) (λ by second. ((whole_bounds 0 a at first).1, signed_near b by second)) h) e
by_bounds [] x e = absurd (cc)
by_bounds (a ∷ []) x e = absurd (cc)
by_bounds (a ∷ b ∷ c ∷ more) x e = absurd (cc)

-- ---- calls
pub record IsOther (said : Call) : Type 0 where
  pub numbers : IsCall said
  pub reads : list_files said ≡ []
  pub writes : export_files said ≡ []

abbrev IsPiece : Piece → Type 0
IsPiece p = IsSmall p.at × IsSmall p.first × IsFrameCount p.len

span_bounds : (a b c : List ℕ) (x : ℕ × ℕ × ℕ) → span_of a b c ≡ Ok x → IsSmall x.0 × IsSmall x.1 × IsFrameCount x.2
unfolding span_of
span_bounds a b c x e =
    bound (whole 0 a) (λ at. pair_of 1 b c >>= λ y. Ok (at, y.0, y.1)) x (IsSmall x.0 × IsSmall x.1 × IsFrameCount x.2)
    (λ at first h. mapped (pair_of 1 b c) (λ y. (at, y.0, y.1)) x (λ z. IsSmall z.0 × IsSmall z.1 × IsFrameCount z.2)
    (λ y second. let parts = pair_bounds 1 b c y second in ((whole_bounds 0 a at first).1, parts.0, (parts.1, parts.2))) h) e

piece_bounds : (rest : Words) (p : Piece) → piece_of rest ≡ Ok p → IsPiece p
unfolding piece_of
piece_bounds (a ∷ word ∷ b ∷ c ∷ []) p e =
    bound (span_of a b c) (λ x. name_of word >>= λ name. Ok (record { at = x.0; name = name; first = x.1; len = x.2 })) p (IsPiece p)
    (λ x h i. mapped (name_of word) (λ name. record { at = x.0; name = name; first = x.1; len = x.2 }) p IsPiece (λ name _. span_bounds a b c x h) i) e
piece_bounds [] p e = absurd (cc)
piece_bounds (a ∷ []) p e = absurd (cc)
piece_bounds (a ∷ b ∷ []) p e = absurd (cc)
piece_bounds (a ∷ b ∷ c ∷ []) p e = absurd (cc)
piece_bounds (a ∷ b ∷ c ∷ d ∷ f ∷ more) p e = absurd (cc)

relink_sound : (rest : Words) (said : Call) → relink_of rest ≡ Ok said → IsOther said
unfolding relink_of
relink_sound (a ∷ word ∷ b ∷ []) said e =
    bound (pair_of 0 a b) (λ x. name_of word >>= λ name. Ok (call.Relink x.0 name x.1)) said (IsOther said)
    (λ x h i. mapped (name_of word) (λ name. call.Relink x.0 name x.1) said IsOther
    (λ name _. let parts = pair_bounds 0 a b x h in record { numbers = (parts.0, parts.2); reads = refl; writes = refl }) i) e
relink_sound [] said e = absurd (cc)
relink_sound (a ∷ []) said e = absurd (cc)
relink_sound (a ∷ b ∷ []) said e = absurd (cc)
relink_sound (a ∷ b ∷ c ∷ d ∷ more) said e = absurd (cc)

journal_sound : (first : List ℕ) (rest : Words) (said : Call) → journal_call first rest ≡ Ok said → IsOther said
unfolding journal_call
journal_sound first rest said e =
    next (bytes_eq first (codes "undo")) _ _ said IsOther
    (mapped (no_words rest) (λ _. call.Undo) said IsOther (λ _ _. record { numbers = tt; reads = refl; writes = refl }))
    (next (bytes_eq first (codes "redo")) _ _ said IsOther
    (mapped (no_words rest) (λ _. call.Redo) said IsOther (λ _ _. record { numbers = tt; reads = refl; writes = refl }))
    (next (bytes_eq first (codes "work")) _ _ said IsOther
    (mapped (one_number 1 rest) (λ n. call.Work n) said IsOther (λ n h. record { numbers = one_bounds 1 rest n h; reads = refl; writes = refl }))
    (λ h. absurd (cc)))) e

view_sound : (first : List ℕ) (rest : Words) (said : Call) → view_call first rest ≡ Ok said → IsOther said
unfolding view_call
view_sound first rest said e =
    next (bytes_eq first (codes "play")) _ _ said IsOther
    (mapped (one_number 0 rest) (λ n. call.Play n) said IsOther (λ n h. record { numbers = (one_bounds 0 rest n h).1; reads = refl; writes = refl }))
    (next (bytes_eq first (codes "show")) _ _ said IsOther
    (mapped (one_number 0 rest) (λ n. call.Show n) said IsOther (λ n h. record { numbers = (one_bounds 0 rest n h).1; reads = refl; writes = refl }))
    (next (bytes_eq first (codes "roll")) _ _ said IsOther
    (mapped (two_numbers 1 rest) (λ x. call.Roll x.0 x.1) said IsOther (λ x h. let b = two_bounds 1 rest x h in record { numbers = (b.0, (b.1, b.2)); reads = refl; writes = refl }))
    (next (bytes_eq first (codes "want")) _ _ said IsOther
    (mapped (two_numbers 1 rest) (λ x. call.Want x.0 x.1) said IsOther (λ x h. let b = two_bounds 1 rest x h in record { numbers = (b.0, (b.1, b.2)); reads = refl; writes = refl }))
    (next (bytes_eq first (codes "cancel")) _ _ said IsOther
    (mapped (two_numbers 1 rest) (λ x. call.Cancel x.0 x.1) said IsOther (λ x h. let b = two_bounds 1 rest x h in record { numbers = (b.0, (b.1, b.2)); reads = refl; writes = refl }))
    (journal_sound first rest said))))) e

place_sound : (first : List ℕ) (rest : Words) (said : Call) → place_call first rest ≡ Ok said → IsOther said
unfolding place_call
place_sound first rest said e =
    next (bytes_eq first (codes "split")) _ _ said IsOther
    (mapped (one_number 0 rest) (λ n. call.Split n) said IsOther (λ n h. record { numbers = (one_bounds 0 rest n h).1; reads = refl; writes = refl }))
    (next (bytes_eq first (codes "trimin")) _ _ said IsOther
    (mapped (place_by rest) (λ x. call.TrimIn x.0 x.1) said IsOther (λ x h. record { numbers = by_bounds rest x h; reads = refl; writes = refl }))
    (next (bytes_eq first (codes "trimout")) _ _ said IsOther
    (mapped (place_by rest) (λ x. call.TrimOut x.0 x.1) said IsOther (λ x h. record { numbers = by_bounds rest x h; reads = refl; writes = refl }))
    (next (bytes_eq first (codes "slip")) _ _ said IsOther
    (mapped (place_by rest) (λ x. call.Slip x.0 x.1) said IsOther (λ x h. record { numbers = by_bounds rest x h; reads = refl; writes = refl }))
    (next (bytes_eq first (codes "relink")) _ _ said IsOther (relink_sound rest said)
    (view_sound first rest said))))) e

pub call_sound : (first : List ℕ) (rest : Words) (said : Call) → call_of first rest ≡ Ok said → IsOther said
unfolding call_of
call_sound first rest said e =
    next (bytes_eq first (codes "insert")) _ _ said IsOther
    (mapped (piece_of rest) (λ p. call.Insert p.at p.name p.first p.len) said IsOther (λ p h. record { numbers = piece_bounds rest p h; reads = refl; writes = refl }))
    (next (bytes_eq first (codes "overwrite")) _ _ said IsOther
    (mapped (piece_of rest) (λ p. call.Overwrite p.at p.name p.first p.len) said IsOther (λ p h. record { numbers = piece_bounds rest p h; reads = refl; writes = refl }))
    (next (bytes_eq first (codes "extract")) _ _ said IsOther
    (mapped (two_numbers 1 rest) (λ x. call.Extract x.0 x.1) said IsOther (λ x h. let b = two_bounds 1 rest x h in record { numbers = (b.0, (b.1, b.2)); reads = refl; writes = refl }))
    (next (bytes_eq first (codes "lift")) _ _ said IsOther
    (mapped (two_numbers 1 rest) (λ x. call.Lift x.0 x.1) said IsOther (λ x h. let b = two_bounds 1 rest x h in record { numbers = (b.0, (b.1, b.2)); reads = refl; writes = refl }))
    (next (bytes_eq first (codes "dissolve")) _ _ said IsOther
    (mapped (two_numbers 0 rest) (λ x. call.Dissolve x.0 x.1) said IsOther (λ x h. let b = two_bounds 0 rest x h in record { numbers = (b.0, b.2); reads = refl; writes = refl }))
    (place_sound first rest said))))) e
