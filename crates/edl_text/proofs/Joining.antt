-- Lines that are joined.
use Rattle.std.proofs.Common.{◌≡◌, ℕ, suc, ◌+◌, ◌<◌, ◌≤◌, List, [], ◌∷◌, ◌++◌, length, take, drop, get_or, flat_map, Option, codes, refl, ap, sym, ◌∙◌, append_assoc, append-nil, add-one}
use Rattle.std.proofs.Math.Seq.{drop-cons}
use Rattle.std.proofs.Math.ListN.{drop_of_length-le}
use Rattle.edl_text.specs.declared.event.Event.{Event}
use Rattle.edl_text.specs.declared.event.Edl.{Edl}
use Rattle.edl_text.specs.Writing.{joined, event_line, name_lines, event_lines, list_text}

pub joined-append : (a b : List (List ℕ)) → joined (a ++ b) ≡ joined a ++ joined b
unfolding joined
joined-append [] b = refl
joined-append (line ∷ more) b =
    ap (λ rest. line ++ 10 ∷ rest) (joined-append more b) ∙ sym (append_assoc line (10 ∷ joined more) (joined b))

-- an event's lines: its own, and those of its names
pub joined_event : (rate : ℕ) (e : Event) (before line from all : List ℕ)
    → line ≡ before ++ (event_line rate e ++ 10 ∷ []) → from ≡ line ++ joined (name_lines (codes "* FROM CLIP NAME: ") e.from)
    → all ≡ from ++ joined (name_lines (codes "* TO CLIP NAME: ") e.to) → all ≡ before ++ joined (event_lines rate e)
unfolding joined
joined_event rate e before line from all p q r =
    let own : List ℕ = event_line rate e in
    let froms : List (List ℕ) = name_lines (codes "* FROM CLIP NAME: ") e.from in
    let tos : List (List ℕ) = name_lines (codes "* TO CLIP NAME: ") e.to in
    r ∙ ap (λ xs. xs ++ joined tos) (q ∙ ap (λ xs. xs ++ joined froms) p)
    ∙ append_assoc (before ++ (own ++ 10 ∷ [])) (joined froms) (joined tos)
    ∙ append_assoc before (own ++ 10 ∷ []) (joined froms ++ joined tos)
    ∙ ap (λ xs. before ++ xs) (append_assoc own (10 ∷ []) (joined froms ++ joined tos) ∙ ap (λ rest. own ++ 10 ∷ rest) (sym (joined-append froms tos)))

pub joined_next : (rate : ℕ) (all : List Event) (i : ℕ) (e : Event) (before after : List ℕ) → i < length all → e ≡ get_or all i e
    → after ≡ before ++ joined (event_lines rate e)
    → after ++ joined (flat_map (event_lines rate) (drop (i + 1) all)) ≡ before ++ joined (flat_map (event_lines rate) (drop i all))
joined_next rate all i e before after within is put =
    let parts : drop i all ≡ get_or all i e ∷ drop (i + 1) all = rw (add-one) (drop-cons all i e within) in
    let first : drop i all ≡ e ∷ drop (i + 1) all = parts ∙ ap (λ x. x ∷ drop (i + 1) all) (sym is) in
    ap (λ xs. xs ++ joined (flat_map (event_lines rate) (drop (i + 1) all))) put
    ∙ append_assoc before (joined (event_lines rate e)) (joined (flat_map (event_lines rate) (drop (i + 1) all)))
    ∙ ap (λ xs. before ++ xs) (sym (joined-append (event_lines rate e) (flat_map (event_lines rate) (drop (i + 1) all))))
    ∙ ap (λ es. before ++ joined (flat_map (event_lines rate) es)) (sym first)

pub joined_done : (rate : ℕ) (all : List Event) (i : ℕ) (before : List ℕ) → length all ≤ i → before ++ joined (flat_map (event_lines rate) (drop i all)) ≡ before
unfolding joined
joined_done rate all i before past =
    let none : drop i all ≡ [] = drop_of_length-le all past in
    rw none (append-nil before)

pub joined_list : (rate : ℕ) (l : Edl) (start opened titled framed title all : List ℕ) (events : List Event)
    → start ≡ [] → opened ≡ start ++ codes "TITLE: " → title ≡ l.title → titled ≡ opened ++ title → framed ≡ titled ++ codes "\nFCM: NON-DROP FRAME\n"
    → events ≡ l.events → all ≡ framed ++ joined (flat_map (event_lines rate) events) → all ≡ list_text rate l
unfolding joined
joined_list rate l start opened titled framed title all events a b t c d e f =
    let first : opened ≡ codes "TITLE: " = b ∙ ap (λ xs. xs ++ codes "TITLE: ") a in
    let second : titled ≡ codes "TITLE: " ++ l.title = c ∙ ap (λ xs. xs ++ title) first ∙ ap (λ xs. codes "TITLE: " ++ xs) t in
    f ∙ ap (λ xs. xs ++ joined (flat_map (event_lines rate) events)) (d ∙ ap (λ xs. xs ++ codes "\nFCM: NON-DROP FRAME\n") second)
    ∙ ap (λ es. ((codes "TITLE: " ++ l.title) ++ codes "\nFCM: NON-DROP FRAME\n") ++ joined (flat_map (event_lines rate) es)) e
    ∙ append_assoc (codes "TITLE: " ++ l.title) (codes "\nFCM: NON-DROP FRAME\n") (joined (flat_map (event_lines rate) l.events))
