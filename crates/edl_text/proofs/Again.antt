-- A written list is read back.
use Rattle.std.proofs.Common.{◌≡◌, ℕ, zero, suc, ◌+◌, ◌-◌, ◌*◌, ◌<◌, Bool, true, false, ◌&&◌, not, nat_eq, List, [], ◌∷◌, ◌++◌, length, replicate, map, flat_map, cond, Option, Some, None, Result, Ok, codes, refl, ap, sym, ◌∙◌, append_assoc, arith}
use Rattle.std.specs.List.{list_all}
use Rattle.std.specs.Map.{lookup}
use Rattle.std.specs.Str.{chars}
use Rattle.std.specs.Str.Lines.{lines}
use Rattle.std.proofs.lemmas.Bool.Decides.{nat_tests}
use Rattle.tl_limits.specs.Limits.{IsRate}
use Rattle.text_words.specs.Law.{is_line}
use Rattle.text_words.specs.Number.{number_text}
use Rattle.text_words.specs.Timecode.{timecode_text}
use Rattle.text_words.proofs.Splitting.{lines_read_back}
use Rattle.edl_text.specs.declared.event.Edl.{Edl}
use Rattle.edl_text.specs.declared.event.Event.{Event}
use Rattle.edl_text.specs.declared.fault.EdlFault.{EdlFault}
use Rattle.edl_text.specs.declared.row.Side.{Side}
use Rattle.edl_text.specs.declared.row.Side.TheVariants as sides
use Rattle.edl_text.specs.Row.{Said, Passed, Title, From, To, Video}
use Rattle.edl_text.specs.Line.{row_of}
use Rattle.edl_text.specs.List.{said_from, title_of, number_after, name_in, with_name, names_from, name_of, Names, names_of, events_from, edl}
use Rattle.edl_text.specs.Writing.{head_text, kind_text, times_text, event_line, name_lines, event_lines, list_lines, joined, list_text}
use Rattle.edl_text.specs.Law.{IsName, IsNameOrNone, IsWritableEvent, AreWritable, Agrees, AllAgree, IsWritable, without_line, IsSameList, ReadBack}
use Rattle.edl_text.proofs.Bytes.{both, joint, all_append, clock-number, clock-timecode, clock_is_line}
use Rattle.edl_text.proofs.Rowed.{times_in, fill_passes, row_event, row_title, row_from, row_to, row_counting}

-- ---- rows
one_row : (rate n : ℕ) (line : List ℕ) (more : List (List ℕ)) (row : Said) (rows : List Said) → row_of rate line ≡ Ok row → said_from rate (n + 1) more ≡ Ok rows → said_from rate n (line ∷ more) ≡ Ok (row ∷ rows)
unfolding said_from
one_row rate n line more row rows p q = rw (p, q) refl

abbrev name_rows : (List ℕ → Said) → Option (List ℕ) → List Said
name_rows side None = []
name_rows side (Some name) = side name ∷ []

abbrev event_rows : Event → List Said
event_rows e = Video e.number e.reel (record { duration = e.duration; times = times_in e }) ∷ (name_rows From e.from ++ name_rows To e.to)

to_said : (rate : ℕ) (to : Option (List ℕ)) (more : List (List ℕ)) (rows : List Said) → IsNameOrNone to → ((n : ℕ) → said_from rate n more ≡ Ok rows)
    → (n : ℕ) → said_from rate n (name_lines (codes "* TO CLIP NAME: ") to ++ more) ≡ Ok (name_rows To to ++ rows)
to_said rate None more rows w rest n = rest n
to_said rate (Some name) more rows w rest n = one_row rate n (codes "* TO CLIP NAME: " ++ name) more (To name) rows (row_to rate name w) (rest (n + 1))

from_said : (rate : ℕ) (from : Option (List ℕ)) (more : List (List ℕ)) (rows : List Said) → IsNameOrNone from → ((n : ℕ) → said_from rate n more ≡ Ok rows)
    → (n : ℕ) → said_from rate n (name_lines (codes "* FROM CLIP NAME: ") from ++ more) ≡ Ok (name_rows From from ++ rows)
from_said rate None more rows w rest n = rest n
from_said rate (Some name) more rows w rest n = one_row rate n (codes "* FROM CLIP NAME: " ++ name) more (From name) rows (row_from rate name w) (rest (n + 1))

events_said : (rate : ℕ) (es : List Event) → IsRate rate → AreWritable rate es → (n : ℕ) → said_from rate n (flat_map (event_lines rate) es) ≡ Ok (flat_map event_rows es)
unfolding said_from
events_said rate [] bounds w n = refl
events_said rate (e ∷ es) bounds w n =
    let froms : List (List ℕ) = name_lines (codes "* FROM CLIP NAME: ") e.from in
    let tos : List (List ℕ) = name_lines (codes "* TO CLIP NAME: ") e.to in
    let more : List (List ℕ) = flat_map (event_lines rate) es in
    let rows : List Said = flat_map event_rows es in
    let wrap : List Said → Result (List Said) EdlFault = λ xs. Ok xs in
    let names : said_from rate (n + 1) ((froms ++ tos) ++ more) ≡ Ok ((name_rows From e.from ++ name_rows To e.to) ++ rows) =
    ap (said_from rate (n + 1)) (append_assoc froms tos more)
    ∙ from_said rate e.from (tos ++ more) (name_rows To e.to ++ rows) w.0.from (to_said rate e.to more rows w.0.to (events_said rate es bounds w.1)) (n + 1)
    ∙ ap wrap (sym (append_assoc (name_rows From e.from) (name_rows To e.to) rows)) in
    one_row rate n (event_line rate e) ((froms ++ tos) ++ more) (Video e.number e.reel (record { duration = e.duration; times = times_in e })) ((name_rows From e.from ++ name_rows To e.to) ++ rows) (row_event rate e bounds w.0) names

-- ---- names
abbrev side_name : Side → Event → Option (List ℕ)
side_name sides.From e = e.from
side_name sides.To e = e.to

abbrev own_names : Side → List Event → List (ℕ × List ℕ)
own_names side [] = []
own_names side (e ∷ es) = with_name (Some e.number) (side_name side e) (own_names side es)

names_rest : (side : Side) (n : ℕ) (from to : Option (List ℕ)) (more : List Said) (e : Event) → from ≡ e.from → to ≡ e.to
    → names_from side (Some n) ((name_rows From from ++ name_rows To to) ++ more) ≡ with_name (Some n) (side_name side e) (names_from side (Some n) more)
unfolding names_from
names_rest sides.From n None None more e f t = rw (← f) refl
names_rest sides.From n None (Some b) more e f t = rw (← f) refl
names_rest sides.From n (Some a) None more e f t = rw (← f) refl
names_rest sides.From n (Some a) (Some b) more e f t = rw (← f) refl
names_rest sides.To n None None more e f t = rw (← t) refl
names_rest sides.To n None (Some b) more e f t = rw (← t) refl
names_rest sides.To n (Some a) None more e f t = rw (← t) refl
names_rest sides.To n (Some a) (Some b) more e f t = rw (← t) refl

names_events : (side : Side) (above : Option ℕ) (es : List Event) → names_from side above (flat_map event_rows es) ≡ own_names side es
unfolding names_from
names_events side above [] = refl
names_events side above (e ∷ es) =
    no_name above (name_in side (Video e.number e.reel (record { duration = e.duration; times = times_in e }))) _ (video side e)
    ∙ names_rest side e.number e.from e.to (flat_map event_rows es) e refl refl
    ∙ ap (with_name (Some e.number) (side_name side e)) (names_events side (Some e.number) es)
  where
    video : (side : Side) (e : Event) → name_in side (Video e.number e.reel (record { duration = e.duration; times = times_in e })) ≡ None
    video sides.From e = refl
    video sides.To e = refl

    no_name : (above : Option ℕ) (name : Option (List ℕ)) (more : List (ℕ × List ℕ)) → name ≡ None → with_name above name more ≡ more
    no_name None None more h = refl
    no_name (Some n) None more h = refl
    no_name above (Some t) more h = absurd (cc)

looked : Bool → Option (List ℕ) → Option (List ℕ) → Option (List ℕ)
looked b None more = more
looked b (Some text) more = cond b (Some text) more

lookup_with : (n q : ℕ) (name : Option (List ℕ)) (more : List (ℕ × List ℕ)) → lookup (λ other. nat_eq other q) (with_name (Some n) name more) ≡ looked (nat_eq n q) name (lookup (λ other. nat_eq other q) more)
unfolding looked
lookup_with n q None more = refl
lookup_with n q (Some text) more = refl

equal_numbers : (a b : ℕ) → nat_eq a b ≡ true → a ≡ b
equal_numbers a b e = grind (arith, nat_tests)

side_same : (side : Side) (e f : Event) → (f.from ≡ e.from) × (f.to ≡ e.to) → side_name side f ≡ side_name side e
side_same sides.From e f h = h.0
side_same sides.To e f h = h.1

looked_none : (b : Bool) (name more : Option (List ℕ)) → (b ≡ true → name ≡ None) → more ≡ None → looked b name more ≡ None
unfolding looked
looked_none b None more h e = e
looked_none true (Some text) more h e = h refl
looked_none false (Some text) more h e = e

looked_same : (b : Bool) (name more own : Option (List ℕ)) → (b ≡ true → own ≡ name) → more ≡ own → looked b name more ≡ own
unfolding looked
looked_same b None more own h e = e
looked_same true (Some text) more own h e = sym (h refl)
looked_same false (Some text) more own h e = e

looked_first : (b : Bool) (name more : Option (List ℕ)) → b ≡ true → (name ≡ None → more ≡ None) → looked b name more ≡ name
unfolding looked
looked_first b None more e h = h refl
looked_first b (Some text) more e h = rw e refl

none_found : (side : Side) (e : Event) (es : List Event) → Agrees e es → side_name side e ≡ None → lookup (λ other. nat_eq other e.number) (own_names side es) ≡ None
none_found side e [] agrees none = refl
none_found side e (f ∷ es) agrees none =
    lookup_with f.number e.number (side_name side f) (own_names side es)
    ∙ looked_none (nat_eq f.number e.number) (side_name side f) (lookup (λ other. nat_eq other e.number) (own_names side es))
    (λ same. side_same side e f (agrees.0 (equal_numbers f.number e.number same)) ∙ none) (none_found side e es agrees.1 none)

Found : Side → List (ℕ × List ℕ) → List Event → Type 0
Found side names [] = Unit {0}
Found side names (e ∷ es) = (lookup (λ other. nat_eq other e.number) names ≡ side_name side e) × Found side names es

found_more : (side : Side) (f : Event) (names : List (ℕ × List ℕ)) (es : List Event) → Agrees f es → Found side names es → Found side (with_name (Some f.number) (side_name side f) names) es
unfolding Found
found_more side f names [] agrees found = tt
found_more side f names (g ∷ es) agrees found = (
  lookup_with f.number g.number (side_name side f) names
      ∙ looked_same (nat_eq f.number g.number) (side_name side f) (lookup (λ other. nat_eq other g.number) names) (side_name side g)
      (λ same. side_same side f g (agrees.0 (sym (equal_numbers f.number g.number same)))) found.0,
  found_more side f names es agrees.1 found.1,
)

itself : (n : ℕ) → nat_eq n n ≡ true
itself n = grind (arith, nat_tests)

found_all : (side : Side) (es : List Event) → AllAgree es → Found side (own_names side es) es
unfolding Found
found_all side [] agree = tt
found_all side (e ∷ es) agree = (
  lookup_with e.number e.number (side_name side e) (own_names side es)
      ∙ looked_first (nat_eq e.number e.number) (side_name side e) (lookup (λ other. nat_eq other e.number) (own_names side es)) (itself e.number) (none_found side e es agree.0),
  found_more side e (own_names side es) es agree.0 (found_all side es agree.1),
)

-- ---- events
HaveNames : Names → List Event → Type 0
HaveNames names [] = Unit {0}
HaveNames names (e ∷ es) = (names.from e.number ≡ e.from) × (names.to e.number ≡ e.to) × HaveNames names es

have_names : (names : Names) (from to : List (ℕ × List ℕ)) (es : List Event)
    → ((q : ℕ) → names.from q ≡ lookup (λ other. nat_eq other q) from) → ((q : ℕ) → names.to q ≡ lookup (λ other. nat_eq other q) to)
    → Found sides.From from es → Found sides.To to es → HaveNames names es
unfolding HaveNames Found
have_names names from to [] f t p q = tt
have_names names from to (e ∷ es) f t p q = (f e.number ∙ p.0, t e.number ∙ q.0, have_names names from to es f t p.1 q.1)

skip_names : (names : Names) (n : ℕ) (from to : Option (List ℕ)) (more : List Said) (target : List Event) → ((k : ℕ) → map without_line (events_from names k more) ≡ target)
    → map without_line (events_from names n ((name_rows From from ++ name_rows To to) ++ more)) ≡ target
unfolding events_from
skip_names names n None None more target h = h n
skip_names names n None (Some b) more target h = h (n + 1)
skip_names names n (Some a) None more target h = h (n + 1)
skip_names names n (Some a) (Some b) more target h = h (n + 1 + 1)

events_back : (names : Names) (es : List Event) → HaveNames names es → (n : ℕ) → map without_line (events_from names n (flat_map event_rows es)) ≡ map without_line es
unfolding events_from HaveNames
events_back names [] h n = refl
events_back names (e ∷ es) h n =
    rw (h.0, h.1, skip_names names (n + 1) e.from e.to (flat_map event_rows es) (map without_line es) (events_back names es h.2)) refl

-- ---- lines
line_byte : ℕ → Bool
line_byte byte = not (nat_eq byte 10) && not (nat_eq byte 13)

AllLines : List (List ℕ) → Type 0
AllLines [] = Unit {0}
AllLines (line ∷ more) = (is_line line ≡ true) × AllLines more

lines_append : (a b : List (List ℕ)) → AllLines a → AllLines b → AllLines (a ++ b)
unfolding AllLines
lines_append [] b p q = q
lines_append (line ∷ more) b p q = (p.0, lines_append more b p.1 q)

lines_again : (ls : List (List ℕ)) → AllLines ls → lines (joined ls) ≡ ls
unfolding AllLines joined
lines_again [] p = refl
lines_again (line ∷ more) p = lines_read_back line (joined more) p.0 ∙ ap (λ ls. line ∷ ls) (lines_again more p.1)

line_append : (a b : List ℕ) → is_line a ≡ true → is_line b ≡ true → is_line (a ++ b) ≡ true
line_append a b p q = all_append (λ byte. not (nat_eq byte 10) && not (nat_eq byte 13)) a b p q

number_line : (n : ℕ) → is_line (number_text 3 n) ≡ true
number_line n = clock_is_line (number_text 3 n) (clock-number 3 n)

time_line : (rate frame : ℕ) → is_line (timecode_text rate frame) ≡ true
time_line rate frame = clock_is_line (timecode_text rate frame) (clock-timecode rate frame)

head_line : (e : Event) → is_line e.reel ≡ true → is_line (head_text e) ≡ true
unfolding head_text
head_line e reel =
    let num : List ℕ = number_text 3 e.number in
    let fill : List ℕ = replicate (8 - length (chars e.reel)) 32 in
    line_append (((num ++ codes "  ") ++ e.reel) ++ fill) (codes " V     ")
    (line_append ((num ++ codes "  ") ++ e.reel) fill (line_append (num ++ codes "  ") e.reel (line_append num (codes "  ") (number_line e.number) refl) reel)
    (fill_passes (λ byte. not (nat_eq byte 10) && not (nat_eq byte 13)) (8 - length (chars e.reel)) refl)) refl

kind_line : (duration : Option ℕ) → is_line (kind_text duration) ≡ true
unfolding kind_text
kind_line None = refl
kind_line (Some frames) = line_append (codes "D    " ++ number_text 3 frames) (codes " ") (line_append (codes "D    ") (number_text 3 frames) refl (number_line frames)) refl

times_line : (rate : ℕ) (e : Event) → is_line (times_text rate e) ≡ true
unfolding times_text
times_line rate e =
    let a : List ℕ = timecode_text rate e.source_in in
    let b : List ℕ = timecode_text rate e.source_out in
    let c : List ℕ = timecode_text rate e.record_in in
    let d : List ℕ = timecode_text rate e.record_out in
    line_append (((((a ++ codes " ") ++ b) ++ codes " ") ++ c) ++ codes " ") d
    (line_append ((((a ++ codes " ") ++ b) ++ codes " ") ++ c) (codes " ")
    (line_append (((a ++ codes " ") ++ b) ++ codes " ") c
    (line_append ((a ++ codes " ") ++ b) (codes " ")
    (line_append (a ++ codes " ") b (line_append a (codes " ") (time_line rate e.source_in) refl) (time_line rate e.source_out)) refl)
    (time_line rate e.record_in)) refl) (time_line rate e.record_out)

name_line : (keyword : List ℕ) (name : Option (List ℕ)) → is_line keyword ≡ true → IsNameOrNone name → AllLines (name_lines keyword name)
unfolding AllLines
name_line keyword None p w = tt
name_line keyword (Some name) p w = (line_append keyword name p w.line, tt)

event_are_lines : (rate : ℕ) (es : List Event) → AreWritable rate es → AllLines (flat_map (event_lines rate) es)
unfolding AllLines
event_are_lines rate [] w = tt
event_are_lines rate (e ∷ es) w =
    let froms : List (List ℕ) = name_lines (codes "* FROM CLIP NAME: ") e.from in
    let tos : List (List ℕ) = name_lines (codes "* TO CLIP NAME: ") e.to in (
      line_append (head_text e ++ kind_text e.duration) (times_text rate e) (line_append (head_text e) (kind_text e.duration) (head_line e w.0.reel_line) (kind_line e.duration)) (times_line rate e),
      lines_append (froms ++ tos) (flat_map (event_lines rate) es)
          (lines_append froms tos (name_line (codes "* FROM CLIP NAME: ") e.from refl w.0.from) (name_line (codes "* TO CLIP NAME: ") e.to refl w.0.to))
          (event_are_lines rate es w.1),
    )

-- ---- the list
names_there : (side : Side) (title : List ℕ) (es : List Event) (q : ℕ) → name_of side (Title title ∷ Passed ∷ flat_map event_rows es) q ≡ lookup (λ other. nat_eq other q) (own_names side es)
unfolding name_of names_from
names_there sides.From title es q = ap (lookup (λ other. nat_eq other q)) (names_events sides.From None es)
names_there sides.To title es q = ap (lookup (λ other. nat_eq other q)) (names_events sides.To None es)

pub read_back : ReadBack
unfolding edl AllLines title_of events_from
read_back rate l bounds w =
    let rows : List Said = Title l.title ∷ Passed ∷ flat_map event_rows l.events in
    let names : Names = names_of rows in
    let said : said_from rate 1 (list_lines rate l) ≡ Ok rows =
    one_row rate 1 (codes "TITLE: " ++ l.title) (codes "FCM: NON-DROP FRAME" ∷ flat_map (event_lines rate) l.events) (Title l.title) (Passed ∷ flat_map event_rows l.events) (row_title rate l.title w.title)
    (one_row rate 2 (codes "FCM: NON-DROP FRAME") (flat_map (event_lines rate) l.events) Passed (flat_map event_rows l.events) (row_counting rate) (events_said rate l.events bounds w.events 3)) in
    let cut : lines (list_text rate l) ≡ list_lines rate l =
    lines_again (list_lines rate l) (line_append (codes "TITLE: ") l.title refl w.title.line, (refl, event_are_lines rate l.events w.events)) in
    let there : HaveNames names l.events =
    have_names names (own_names sides.From l.events) (own_names sides.To l.events) l.events (names_there sides.From l.title l.events) (names_there sides.To l.title l.events)
    (found_all sides.From l.events w.names) (found_all sides.To l.events w.names) in
    (record { title = title_of rows; events = events_from names 1 rows }, rw (cut, said) refl, record { title = refl; events = events_back names l.events there 3 })
