-- The exports of a journal, as one pass takes and ends them while others make other calls.
use Rattle.std.proofs.Common.{◌≡◌, ℕ, ◌+◌, ◌-◌, ◌<◌, cond, not, Bool, true, false, List, [], ◌∷◌, ◌++◌, map, length, Option, Some, None, refl, sym, ap, subst, ◌∙◌, arith, length-append, lt-ltb, le-ltb, true≢false}
use Rattle.std.specs.Prelude.{IsSome, nat_lt, slice_get}
use Rattle.std.specs.List.{flat_map, position, position_or_len}
use Rattle.std.proofs.lemmas.List.{append-nil, append_assoc, length-map, map-append}
use Rattle.tl_model.specs.Cells.{Cell}
use Rattle.tl_model.specs.declared.journal.Act.TheVariants as act
use Rattle.render_core.specs.declared.export.Stage.TheVariants as stage
use Rattle.render_core.specs.Calls.{CallOf, entry_of}
use Rattle.render_core.specs.Export.{ExportOf, is_untaken, with_taker, with_ending}
use Rattle.render_core.specs.State.{State, update}
use Rattle.render_core.specs.Step.{Setup, Reply, Taken, Silent, step, after, after_take, take_reply, place_of}
use Rattle.play_head.specs.Carrying.{Carried, carried_calls}
use Rattle.timeline_app.specs.Course.{AreNumbered, ended_export}
use Rattle.timeline_app.proofs.Among.{carrying_calls}
use Rattle.timeline_app.proofs.AskedNames.{AddsExports, AreUntaken, act_asked, adds_step, asked_names, is_carrying, names_of, untaken-append}
use Rattle.timeline_app.proofs.Entered.{AreAnswered, answered_later, told_first}
use Rattle.timeline_app.proofs.Files.{names_carried}

-- ---- the first export that nobody took

-- Somebody took each of these.
abbrev AreTaken : List ExportOf → Type 0
AreTaken [] = Unit {0}
AreTaken (x ∷ xs) = (is_untaken x ≡ false) × AreTaken xs

ended_taken : (carried : List Carried) → AreTaken (map ended_export carried)
ended_taken [] = tt
ended_taken (c ∷ more) = (refl, ended_taken more)

first_place : (front rest : List ExportOf) (x : ExportOf) → AreTaken front → is_untaken x ≡ true → position_or_len is_untaken (front ++ x ∷ rest) ≡ length front
first_place [] rest x h e = ap (λ (b : Bool). cond (not b) (1 + position_or_len is_untaken rest) 0) e
first_place (y ∷ front) rest x h e =
    let more = first_place front rest x h.1 e in
    ap (λ (b : Bool). cond (not b) (1 + position_or_len is_untaken (front ++ x ∷ rest)) 0) h.0 ∙ omega (arith, more)

no_place : (xs : List ExportOf) → AreTaken xs → position_or_len is_untaken xs ≡ length xs
no_place [] h = refl
no_place (x ∷ xs) h =
    let more = no_place xs h.1 in
    ap (λ (b : Bool). cond (not b) (1 + position_or_len is_untaken xs) 0) h.0 ∙ omega (arith, more)

found_first : (front rest : List ExportOf) (x : ExportOf) → AreTaken front → is_untaken x ≡ true → position is_untaken (front ++ x ∷ rest) ≡ Some (length front)
found_first front rest x h e =
    let all = front ++ x ∷ rest in
    let within : length front < length all = (let long = length-append front (x ∷ rest) in omega (arith, long)) in
    ap (λ (k : ℕ). cond (nat_lt k (length all)) (Some k) None) (first_place front rest x h e)
    ∙ ap (λ (b : Bool). cond b (Some (length front)) None) (lt-ltb (length front) (length all) within)

found_none : (xs : List ExportOf) → AreTaken xs → position is_untaken xs ≡ None
found_none xs h =
    ap (λ (k : ℕ). cond (nat_lt k (length xs)) (Some k) None) (no_place xs h)
    ∙ ap (λ (b : Bool). cond b (Some (length xs)) None) (le-ltb (length xs) (length xs) (omega arith))

nothing_left : (front left : List ExportOf) → AreTaken front → AreUntaken left → position is_untaken (front ++ left) ≡ None → left ≡ []
nothing_left front [] h u e = refl
nothing_left front (x ∷ rest) h u e = let found : None ≡ Some (length front) = sym e ∙ found_first front rest x h u.0 in absurd cc

update_here : (change : ExportOf → ExportOf) (front rest : List ExportOf) (x : ExportOf) → update (length front) change (front ++ x ∷ rest) ≡ front ++ change x ∷ rest
update_here change [] rest x = refl
update_here change (y ∷ front) rest x = ap (λ (xs : List ExportOf). y ∷ xs) (update_here change front rest x)

get_here : (front rest : List ExportOf) (x : ExportOf) → slice_get (front ++ x ∷ rest) (length front) ≡ Some x
get_here [] rest x = refl
get_here (y ∷ front) rest x = get_here front rest x

-- ---- where carrying out stands

-- The exports that were ended, the one that is taken, and those that nobody took.
pub record Standing : Type 0 where
  pub ended : List Carried
  pub now : Option Carried
  pub left : List ExportOf

abbrev listed : Option Carried → List Carried
listed None = []
listed (Some c) = c ∷ []

-- the exports that were taken, ended or not
abbrev pub begun : Standing → List Carried
begun st = st.ended ++ listed st.now

abbrev names_at : Standing → List (List ℕ)
names_at st = names_carried (begun st) ++ names_of st.left

abbrev pub taken_by : ℕ → Carried → ExportOf
taken_by by c = record { name = c.name; line = c.line; stage = stage.Taken by }

abbrev taken_now : ℕ → Option Carried → List ExportOf
taken_now by None = []
taken_now by (Some c) = taken_by by c ∷ []

abbrev pub exports_at : ℕ → Standing → List ExportOf
exports_at by st = map ended_export st.ended ++ (taken_now by st.now ++ st.left)

pub record Stands (by : ℕ) (st : Standing) (s : State) : Type 0 where
  pub exports : s.exports ≡ exports_at by st
  pub untaken : AreUntaken st.left
  pub numbers : AreNumbered 1 (begun st)

numbered_push : (first : ℕ) (xs : List Carried) (c : Carried) → AreNumbered first xs → c.export ≡ first + length xs → AreNumbered first (xs ++ c ∷ [])
numbered_push first [] c h e = (omega (arith, e), tt)
numbered_push first (x ∷ xs) c h e = (h.0, numbered_push (first + 1) xs c h.1 (omega (arith, e)))

numbered_last : (first : ℕ) (xs : List Carried) (c : Carried) → AreNumbered first (xs ++ c ∷ []) → c.export ≡ first + length xs
numbered_last first [] c h = let e = h.0 in omega (arith, e)
numbered_last first (x ∷ xs) c h = let e = numbered_last (first + 1) xs c h.1 in omega (arith, e)

-- ---- one call

-- what was told of a take
record IsTold (place : ℕ) (x : ExportOf) (c : Carried) : Type 0 where
  number : c.export ≡ place + 1
  name : c.name ≡ x.name
  line : c.line ≡ x.line

abbrev told_number : {F : Type 0} → Reply F → ℕ
told_number (Taken export name line) = export
told_number other = 0

abbrev told_name : {F : Type 0} → Reply F → List ℕ
told_name (Taken export name line) = name
told_name other = []

abbrev told_line : {F : Type 0} → Reply F → List Cell
told_line (Taken export name line) = line
told_line other = []

is_told : {F : Type 0} (place : ℕ) (x : ExportOf) (c : Carried) → ◌≡◌ {A = Reply F} (Taken c.export c.name c.line) (Taken (place + 1) x.name x.line) → IsTold place x c
is_told place x c h = record { number = ap told_number h; name = ap told_name h; line = ap told_line h }

taken_is : (by : ℕ) (x : ExportOf) (c : Carried) → c.name ≡ x.name → c.line ≡ x.line → with_taker by x ≡ taken_by by c
taken_is by x c name line =
    ap (λ (n : List ℕ). record { name = n; line = x.line; stage = stage.Taken by }) (sym name)
    ∙ ap (λ (l : List Cell). record { name = c.name; line = l; stage = stage.Taken by }) (sym line)

-- a take
record TakesOne (by : ℕ) (s : State) (ended : List Carried) (x : ExportOf) (rest : List ExportOf) (c : Carried) : Type 0 where
  name : c.name ≡ x.name
  stands : Stands by (record { ended = ended; now = Some c; left = rest }) (after_take by (position is_untaken s.exports) s)

take_one : {F : Type 0} (by : ℕ) (s : State) (ended : List Carried) (x : ExportOf) (rest : List ExportOf) (c : Carried) → Stands by (record { ended = ended; now = None; left = x ∷ rest }) s
    → ◌≡◌ {A = Reply F} (Taken c.export c.name c.line) (take_reply (position is_untaken s.exports) (slice_get s.exports (place_of (position is_untaken s.exports))))
    → TakesOne by s ended x rest c
take_one {F} by s ended x rest c h told =
    let front = map ended_export ended in
    let place = length front in
    let found : position is_untaken s.exports ≡ Some place = ap (position is_untaken) h.exports ∙ found_first front rest x (ended_taken ended) h.untaken.0 in
    let here : slice_get s.exports place ≡ Some x = ap (λ (xs : List ExportOf). slice_get xs place) h.exports ∙ get_here front rest x in
    let is : IsTold place x c = is_told {F = F} place x c
    (told ∙ ap (λ (o : Option ℕ). take_reply {F = F} o (slice_get s.exports (place_of o))) found ∙ ap (take_reply {F = F} (Some place)) here) in
    let number = is.number in
    let long = length-map ended ended_export in
    record {
      name = is.name;
      stands = record {
        exports = ap (λ (o : Option ℕ). (after_take by o s).exports) found
            ∙ ap (update place (with_taker by)) h.exports
            ∙ update_here (with_taker by) front rest x
            ∙ ap (λ (y : ExportOf). front ++ y ∷ rest) (taken_is by x c is.name is.line);
        untaken = h.untaken.1;
        numbers = numbered_push 1 ended c (subst (AreNumbered 1) (append-nil ended) h.numbers) (omega (arith, number, long));
      };
    }

-- its end
end_one : (by : ℕ) (s : State) (ended : List Carried) (left : List ExportOf) (c : Carried) → Stands by (record { ended = ended; now = Some c; left = left }) s
    → Stands by (record { ended = ended ++ c ∷ []; now = None; left = left }) (record s { exports = update (c.export - 1) (with_ending c.ending) s.exports })
end_one by s ended left c h =
    let front = map ended_export ended in
    let number = numbered_last 1 ended c h.numbers in
    let long = length-map ended ended_export in
    let at : c.export - 1 ≡ length front = omega (arith, number, long) in
    record {
      exports = ap (λ (i : ℕ). update i (with_ending c.ending) s.exports) at
          ∙ ap (update (length front) (with_ending c.ending)) h.exports
          ∙ update_here (with_ending c.ending) front left (taken_by by c)
          ∙ sym (append_assoc front (ended_export c ∷ []) left)
          ∙ ap (λ (xs : List ExportOf). xs ++ left) (sym (map-append ended_export ended (c ∷ [])));
      untaken = h.untaken;
      numbers = subst (AreNumbered 1) (sym (append-nil (ended ++ c ∷ []))) h.numbers;
    }

-- a call that takes and ends none
stay_one : (by : ℕ) (s next : State) (st : Standing) (asked : List (List ℕ)) (h : AddsExports s next asked) → Stands by st s → Stands by (record st { left = st.left ++ h.more }) next
stay_one by s next st asked h k = record {
  exports = h.exports ∙ ap (λ (xs : List ExportOf). xs ++ h.more) k.exports
      ∙ append_assoc (map ended_export st.ended) (taken_now by st.now ++ st.left) h.more
      ∙ ap (λ (xs : List ExportOf). map ended_export st.ended ++ xs) (append_assoc (taken_now by st.now) st.left h.more);
  untaken = untaken-append st.left h.more k.untaken h.untaken;
  numbers = k.numbers;
}

-- ---- all calls

abbrev take_call : {F : Type 0} → ℕ → Carried → CallOf F
take_call by c = record { pass = by; act = act.Take; told = Taken c.export c.name c.line }

abbrev end_call : {F : Type 0} → ℕ → Carried → CallOf F
end_call by c = record { pass = by; act = act.End c.export c.ending; told = Silent }

-- the calls that carry these out, where the one before them is taken
abbrev pub to_do : {F : Type 0} → ℕ → Option Carried → List Carried → List (CallOf F)
to_do by None more = flat_map (carried_calls by) more
to_do by (Some c) more = end_call by c ∷ flat_map (carried_calls by) more

-- From there on these names were asked for, and of the calls that carry out more exports these are left.
pub record Reaches {F : Type 0} (by : ℕ) (st : Standing) (more : List Carried) (asked : List (List ℕ)) (tail : List (CallOf F)) (new : State) : Type 0 where
  pub to : Standing
  pub later : List Carried
  pub stands : Stands by to new
  pub is : tail ≡ to_do by to.now later
  pub same : begun st ++ more ≡ begun to ++ later
  pub names : names_at st ++ asked ≡ names_at to

abbrev Goes : {F : Type 0} → Setup F → (by count : ℕ) → (calls tail : List (CallOf F)) → Type 0
Goes {F} setup by count calls tail =
    (s : State) (st : Standing) (more : List Carried) → Stands by st s → AreAnswered setup count calls s → carrying_calls calls ++ tail ≡ to_do by st.now more
    → Reaches by st more (flat_map asked_names calls) tail (after setup count (map entry_of calls) s)

-- what is known before a call
record Before {F : Type 0} (setup : Setup F) (by count : ℕ) (call : CallOf F) (calls tail : List (CallOf F)) : Type 0 where
  state : State
  answered : AreAnswered setup count (call ∷ calls) state
  goes : Goes setup by (count + 1) calls tail

abbrev rest_calls : {F : Type 0} → List (CallOf F) → List (CallOf F)
rest_calls [] = []
rest_calls (c ∷ cs) = cs

abbrev head_or : {F : Type 0} → CallOf F → List (CallOf F) → CallOf F
head_or other [] = other
head_or other (c ∷ cs) = c

module _ {F : Type 0} (setup : Setup F) (by count : ℕ) (calls tail : List (CallOf F)) where
  abbrev There : CallOf F → State → Standing → List Carried → Type 0
  There call s st more = Reaches by st more (flat_map asked_names (call ∷ calls)) tail (after setup count (map entry_of (call ∷ calls)) s)

  go_past : (call : CallOf F) (b : Before setup by count call calls tail) (st : Standing) (more : List Carried) → Stands by st b.state → is_carrying call.act ≡ false → carrying_calls calls ++ tail ≡ to_do by st.now more → There call b.state st more
  go_past call b st more h other e =
      let s = b.state in
      let next = step setup (count + 1) call.pass call.act s in
      let one : AddsExports s next (asked_names call) =
      subst (λ (told : Reply F). AddsExports s next (act_asked call.act told)) (sym (told_first setup count call calls s b.answered)) (adds_step setup (count + 1) call.pass call.act s other) in
      let r = b.goes next (record st { left = st.left ++ one.more }) more (stay_one by s next st (asked_names call) one h) (answered_later setup count call calls s b.answered) e in
      record {
        to = r.to;
        later = r.later;
        stands = r.stands;
        is = r.is;
        same = r.same;
        names = sym (append_assoc (names_at st) (asked_names call) (flat_map asked_names calls))
            ∙ ap (λ (ns : List (List ℕ)). ns ++ flat_map asked_names calls)
            (append_assoc (names_carried (begun st)) (names_of st.left) (asked_names call)
            ∙ ap (λ (ns : List (List ℕ)). names_carried (begun st) ++ (names_of st.left ++ ns)) (sym one.names)
            ∙ ap (λ (ns : List (List ℕ)). names_carried (begun st) ++ ns) (sym (map-append (λ (x : ExportOf). x.name) st.left one.more)))
            ∙ r.names;
      }

  go_end : (s : State) (ended : List Carried) (left : List ExportOf) (c : Carried) (more : List Carried) → Goes setup by (count + 1) calls tail → AreAnswered setup count (end_call by c ∷ calls) s
      → Stands by (record { ended = ended; now = Some c; left = left }) s → carrying_calls calls ++ tail ≡ flat_map (carried_calls by) more → There (end_call by c) s (record { ended = ended; now = Some c; left = left }) more
  go_end s ended left c more goes a h e =
      let next = step setup (count + 1) by (act.End c.export c.ending) s in
      let st : Standing = record { ended = ended ++ c ∷ []; now = None; left = left } in
      let r = goes next st more (end_one by s ended left c h) (answered_later setup count (end_call by c) calls s a) e in
      let none = append-nil (ended ++ c ∷ []) in
      record {
        to = r.to;
        later = r.later;
        stands = r.stands;
        is = r.is;
        same = ap (λ (cs : List Carried). cs ++ more) (sym none) ∙ r.same;
        names = ap (λ (cs : List Carried). (names_carried cs ++ names_of left) ++ flat_map asked_names calls) (sym none) ∙ r.names;
      }

  go_take : (s : State) (ended : List Carried) (left : List ExportOf) (c : Carried) (more : List Carried) → Goes setup by (count + 1) calls tail → AreAnswered setup count (take_call by c ∷ calls) s
      → Stands by (record { ended = ended; now = None; left = left }) s → carrying_calls calls ++ tail ≡ end_call by c ∷ flat_map (carried_calls by) more → There (take_call by c) s (record { ended = ended; now = None; left = left }) (c ∷ more)
  go_take s ended [] c more goes a h e =
      let front = map ended_export ended in
      absurd (true≢false (sym (subst IsSome (ap (position is_untaken) (h.exports ∙ append-nil front) ∙ found_none front (ended_taken ended)) a.legal.0)))
  go_take s ended (x ∷ left) c more goes a h e =
      let next = step setup (count + 1) by act.Take s in
      let st : Standing = record { ended = ended; now = Some c; left = left } in
      let one = take_one {F = F} by s ended x left c h (told_first setup count (take_call by c) calls s a) in
      let r = goes next st more one.stands (answered_later setup count (take_call by c) calls s a) e in
      let none = append-nil ended in
      record {
        to = r.to;
        later = r.later;
        stands = r.stands;
        is = r.is;
        same = ap (λ (cs : List Carried). cs ++ c ∷ more) none ∙ sym (append_assoc ended (c ∷ []) more) ∙ r.same;
        names = ap (λ (ns : List (List ℕ)). ns ++ flat_map asked_names calls)
            (ap (λ (cs : List Carried). names_carried cs ++ names_of (x ∷ left)) none
            ∙ ap (λ (n : List ℕ). names_carried ended ++ n ∷ names_of left) (sym one.name)
            ∙ sym (append_assoc (names_carried ended) (c.name ∷ []) (names_of left))
            ∙ ap (λ (ns : List (List ℕ)). ns ++ names_of left) (sym (map-append (λ (d : Carried). d.name) ended (c ∷ []))))
            ∙ r.names;
      }

  -- a call that takes or ends an export is the next one of those to do
  go_next : (call : CallOf F) (s : State) (ended : List Carried) (now : Option Carried) (left : List ExportOf) (more : List Carried) → Goes setup by (count + 1) calls tail → AreAnswered setup count (call ∷ calls) s
      → Stands by (record { ended = ended; now = now; left = left }) s → call ∷ (carrying_calls calls ++ tail) ≡ to_do by now more → There call s (record { ended = ended; now = now; left = left }) more
  go_next call s ended None left [] goes a h e = absurd cc
  go_next call s ended None left (c ∷ more) goes a h e =
      let is : call ≡ take_call by c = ap (head_or call) e in
      subst (λ (k : CallOf F). There k s (record { ended = ended; now = None; left = left }) (c ∷ more)) (sym is)
      (go_take s ended left c more goes (subst (λ (k : CallOf F). AreAnswered setup count (k ∷ calls) s) is a) h (ap rest_calls e))
  go_next call s ended (Some c) left more goes a h e =
      let is : call ≡ end_call by c = ap (head_or call) e in
      subst (λ (k : CallOf F). There k s (record { ended = ended; now = Some c; left = left }) more) (sym is)
      (go_end s ended left c more goes (subst (λ (k : CallOf F). AreAnswered setup count (k ∷ calls) s) is a) h (ap rest_calls e))

  go_by : (call : CallOf F) (test : Bool) (s : State) (st : Standing) (more : List Carried) → Goes setup by (count + 1) calls tail → AreAnswered setup count (call ∷ calls) s → Stands by st s
      → is_carrying call.act ≡ test → cond test (call ∷ carrying_calls calls) (carrying_calls calls) ++ tail ≡ to_do by st.now more → There call s st more
  go_by call true s st more goes a h t e = go_next call s st.ended st.now st.left more goes a h e
  go_by call false s st more goes a h t e = go_past call (record { state = s; answered = a; goes = goes }) st more h t e

-- Over calls of several passes, of which one pass alone takes and ends exports.
pub reaches : {F : Type 0} (setup : Setup F) (by count : ℕ) (calls tail : List (CallOf F)) → Goes setup by count calls tail
reaches setup by count [] tail s st more h a e = record {
  to = st;
  later = more;
  stands = h;
  is = e;
  same = refl;
  names = append-nil (names_at st);
}
reaches setup by count (call ∷ calls) tail s st more h a e =
    go_by setup by count calls tail call (is_carrying call.act) s st more (reaches setup by (count + 1) calls tail) a h refl e

-- ---- to the end of the last one

-- Each of these was ended, after those that were ended before.
pub record EndsAll (by : ℕ) (ended : List Carried) (left : List ExportOf) (more : List Carried) (asked : List (List ℕ)) (new : State) : Type 0 where
  pub over : List ExportOf
  pub stands : Stands by (record { ended = ended ++ more; now = None; left = over }) new
  pub names : (names_carried ended ++ names_of left) ++ asked ≡ names_carried (ended ++ more) ++ names_of over

ends_by : {F : Type 0} (by : ℕ) (ended : List Carried) (left : List ExportOf) (more : List Carried) (asked : List (List ℕ)) (new : State) (there : List Carried) (now : Option Carried) (over : List ExportOf) (later : List Carried)
    → Stands by (record { ended = there; now = now; left = over }) new → [] ≡ to_do {F = F} by now later → (ended ++ []) ++ more ≡ (there ++ listed now) ++ later
    → (names_carried (ended ++ []) ++ names_of left) ++ asked ≡ names_carried (there ++ listed now) ++ names_of over → EndsAll by ended left more asked new
ends_by by ended left more asked new there (Some c) over later h is same names = absurd cc
ends_by by ended left more asked new there None over (c ∷ later) h is same names = absurd cc
ends_by by ended left more asked new there None over [] h is same names =
    let all : there ≡ ended ++ more =
    sym (append-nil there) ∙ sym (append-nil (there ++ [])) ∙ sym same ∙ ap (λ (cs : List Carried). cs ++ more) (append-nil ended) in
    record {
      over = over;
      stands = subst (λ (cs : List Carried). Stands by (record { ended = cs; now = None; left = over }) new) all h;
      names = ap (λ (cs : List Carried). (names_carried cs ++ names_of left) ++ asked) (sym (append-nil ended)) ∙ names
          ∙ ap (λ (cs : List Carried). names_carried cs ++ names_of over) (append-nil there ∙ all);
    }

pub ends_all : {F : Type 0} (setup : Setup F) (by count : ℕ) (calls : List (CallOf F)) (s : State) (ended : List Carried) (left : List ExportOf) (more : List Carried) → Stands by (record { ended = ended; now = None; left = left }) s → AreAnswered setup count calls s
    → carrying_calls calls ≡ flat_map (carried_calls by) more → EndsAll by ended left more (flat_map asked_names calls) (after setup count (map entry_of calls) s)
ends_all {F} setup by count calls s ended left more h a e =
    let r = reaches setup by count calls [] s (record { ended = ended; now = None; left = left }) more h a (append-nil (carrying_calls calls) ∙ e) in
    ends_by {F = F} by ended left more (flat_map asked_names calls) (after setup count (map entry_of calls) s) r.to.ended r.to.now r.to.left r.later r.stands r.is r.same r.names

-- None is left that nobody took.
pub record HasEnded (carried : List Carried) (asked : List (List ℕ)) (new : State) : Type 0 where
  pub exports : new.exports ≡ map ended_export carried
  pub numbers : AreNumbered 1 carried
  pub names : names_carried carried ≡ asked

pub none_left : (by : ℕ) (carried : List Carried) (left : List ExportOf) (asked : List (List ℕ)) (new : State) → Stands by (record { ended = carried; now = None; left = left }) new → asked ≡ names_carried carried ++ names_of left → position is_untaken new.exports ≡ None → HasEnded carried asked new
none_left by carried left asked new h names done =
    let ended = map ended_export carried in
    let none : left ≡ [] = nothing_left ended left (ended_taken carried) h.untaken (sym (ap (position is_untaken) h.exports) ∙ done) in
    record {
      exports = h.exports ∙ ap (λ (xs : List ExportOf). ended ++ xs) none ∙ append-nil ended;
      numbers = subst (AreNumbered 1) (append-nil carried) h.numbers;
      names = sym (names ∙ ap (λ (xs : List ExportOf). names_carried carried ++ names_of xs) none ∙ append-nil (names_carried carried));
    }
