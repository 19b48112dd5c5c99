-- The rows of a list from one on.
use Rattle.std.proofs.Common.{◌≡◌, ℕ, suc, ◌+◌, ◌<◌, ◌≤◌, List, [], ◌∷◌, ◌++◌, map, length, drop, get_or, Option, Some, None, Bool, true, false, if◌then◌else◌, cond, nat_eq, refl, ap, sym, ◌∙◌, add-one, append_assoc, append-nil, Result, Ok}
use Rattle.std.specs.Option.{option_or}
use Rattle.std.specs.Map.{lookup}
use Rattle.std.specs.Str.Lines.{lines}
use Rattle.edl_text.specs.declared.event.Event.{Event}
use Rattle.edl_text.specs.declared.event.Edl.{Edl}
use Rattle.edl_text.specs.declared.row.Side.TheVariants as sides
use Rattle.std.proofs.Math.Seq.{drop-cons}
use Rattle.std.proofs.Math.ListN.{drop_of_length-le}
use Rattle.edl_text.specs.declared.row.Row.{Row}
use Rattle.edl_text.specs.declared.row.Row.TheVariants as rows
use Rattle.edl_text.specs.declared.row.Side.{Side}
use Rattle.edl_text.specs.Row.{said, Said, Passed, Title, From, To, Other, Video}
use Rattle.edl_text.specs.List.{title_of, number_after, name_in, with_name, names_from, name_of, Names, names_of, events_from, said_from, edl}

-- a row and those after it
pub rest_said : (all : List Row) (i : ℕ) (d : Row) → i < length all → map said (drop i all) ≡ said (get_or all i d) ∷ map said (drop (i + 1) all)
rest_said all i d within =
    let parts : drop i all ≡ get_or all i d ∷ drop (i + 1) all = rw (add-one) (drop-cons all i d within) in
    ap (map said) parts

chosen : (b : Bool) (text : List ℕ) (others : Option (List ℕ)) → option_or (if b then Some text else None) others ≡ (if b then Some text else others)
chosen true text others = refl
chosen false text others = refl

-- a name that is kept stands before those that follow
kept_name : (above : Option ℕ) (name : Option (List ℕ)) (more : List (ℕ × List ℕ)) (before : Option (List ℕ)) (q : ℕ)
    → option_or (option_or before (lookup (λ other. nat_eq other q) (with_name above name []))) (lookup (λ other. nat_eq other q) more) ≡ option_or before (lookup (λ other. nat_eq other q) (with_name above name more))
kept_name above name more (Some t) q = refl
kept_name None name more None q = refl
kept_name (Some number) None more None q = refl
kept_name (Some number) (Some text) more None q = chosen (nat_eq number q) text (lookup (λ other. nat_eq other q) more)

-- what the names say of a number, from a row on
pub names_step : (side : Side) (above : Option ℕ) (row : Said) (more : List Said) (before after : Option (List ℕ)) (q : ℕ)
    → after ≡ option_or before (lookup (λ other. nat_eq other q) (with_name above (name_in side row) []))
    → option_or after (lookup (λ other. nat_eq other q) (names_from side (number_after above row) more)) ≡ option_or before (lookup (λ other. nat_eq other q) (names_from side above (row ∷ more)))
unfolding names_from
names_step side above row more before after q e =
    ap (λ x. option_or x (lookup (λ other. nat_eq other q) (names_from side (number_after above row) more))) e
    ∙ kept_name above (name_in side row) (names_from side (number_after above row) more) before q

or_none : (x : Option (List ℕ)) → option_or x None ≡ x
or_none None = refl
or_none (Some t) = refl

pub names_end : (side : Side) (above : Option ℕ) (x : Option (List ℕ)) (q : ℕ) → option_or x (lookup (λ other. nat_eq other q) (names_from side above [])) ≡ x
unfolding names_from
names_end side above x q = or_none x

pub names_next : (side : Side) (above next : Option ℕ) (all : List Row) (i : ℕ) (d : Row) (name before after : Option (List ℕ)) (q : ℕ)
    → i < length all → name ≡ name_in side (said (get_or all i d)) → next ≡ number_after above (said (get_or all i d))
    → after ≡ option_or before (lookup (λ other. nat_eq other q) (with_name above name []))
    → option_or after (lookup (λ other. nat_eq other q) (names_from side next (map said (drop (i + 1) all)))) ≡ option_or before (lookup (λ other. nat_eq other q) (names_from side above (map said (drop i all))))
names_next side above next all i d name before after q within named numbered kept =
    let now : after ≡ option_or before (lookup (λ other. nat_eq other q) (with_name above (name_in side (said (get_or all i d))) [])) =
    kept ∙ ap (λ n. option_or before (lookup (λ other. nat_eq other q) (with_name above n []))) named in
    rw (rest_said all i d within, numbered) (names_step side above (said (get_or all i d)) (map said (drop (i + 1) all)) before after q now)

pub names_done : (side : Side) (above : Option ℕ) (all : List Row) (i : ℕ) (x : Option (List ℕ)) (q : ℕ) → length all ≤ i → option_or x (lookup (λ other. nat_eq other q) (names_from side above (map said (drop i all)))) ≡ x
names_done side above all i x q past =
    let none : drop i all ≡ [] = drop_of_length-le all past in
    rw none (names_end side above x q)

-- the same names give the same events
pub events_same : (a b : Names) (n : ℕ) (rows : List Said) → ((q : ℕ) → a.from q ≡ b.from q) → ((q : ℕ) → a.to q ≡ b.to q) → events_from a n rows ≡ events_from b n rows
unfolding events_from
events_same a b n [] f t = refl
events_same a b n (Video number reel edit ∷ rows) f t = rw (f number, t number, events_same a b (n + 1) rows f t) refl
events_same a b n (Passed ∷ rows) f t = events_same a b (n + 1) rows f t
events_same a b n (Title text ∷ rows) f t = events_same a b (n + 1) rows f t
events_same a b n (From text ∷ rows) f t = events_same a b (n + 1) rows f t
events_same a b n (To text ∷ rows) f t = events_same a b (n + 1) rows f t
events_same a b n (Other number ∷ rows) f t = events_same a b (n + 1) rows f t

-- the events of a row, and of those after it
events_split : (names : Names) (n : ℕ) (row : Said) (more : List Said) → events_from names n (row ∷ more) ≡ events_from names n (row ∷ []) ++ events_from names (n + 1) more
unfolding events_from
events_split names n (Video number reel edit) more = refl
events_split names n Passed more = refl
events_split names n (Title text) more = refl
events_split names n (From text) more = refl
events_split names n (To text) more = refl
events_split names n (Other number) more = refl

pub events_next : (names : Names) (n i : ℕ) (all : List Row) (d : Row) (before after : List Event) → i < length all
    → after ≡ before ++ events_from names n (said (get_or all i d) ∷ [])
    → after ++ events_from names (n + 1) (map said (drop (i + 1) all)) ≡ before ++ events_from names n (map said (drop i all))
events_next names n i all d before after within put =
    ap (λ xs. xs ++ events_from names (n + 1) (map said (drop (i + 1) all))) put
    ∙ append_assoc before (events_from names n (said (get_or all i d) ∷ [])) (events_from names (n + 1) (map said (drop (i + 1) all)))
    ∙ ap (λ xs. before ++ xs) (sym (events_split names n (said (get_or all i d)) (map said (drop (i + 1) all))))
    ∙ ap (λ xs. before ++ events_from names n xs) (sym (rest_said all i d within))

pub events_done : (names : Names) (n i : ℕ) (all : List Row) (before : List Event) → length all ≤ i → before ++ events_from names n (map said (drop i all)) ≡ before
unfolding events_from
events_done names n i all before past =
    let none : drop i all ≡ [] = drop_of_length-le all past in
    rw none (append-nil before)

-- a list from what its lines say
pub edl_of_rows : (rate : ℕ) (text : List ℕ) (rows : List Said) (names : Names) (title : List ℕ) (events : List Event)
    → said_from rate 1 (lines text) ≡ Ok rows → title ≡ title_of rows
    → ((q : ℕ) → names.from q ≡ name_of sides.From rows q) → ((q : ℕ) → names.to q ≡ name_of sides.To rows q) → events ≡ events_from names 1 rows
    → edl rate text ≡ Ok (record { title = title; events = events })
unfolding edl
edl_of_rows rate text rows names title events read titled from to made =
    let all : events ≡ events_from (names_of rows) 1 rows = made ∙ events_same names (names_of rows) 1 rows from to in
    rw (read, titled, all) refl
