-- A board with one entry more, over plain values.
use Rattle.std.proofs.Common.{◌≡◌, ℕ, suc, ◌+◌, ◌-◌, ◌≤◌, List, [], ◌∷◌, ◌++◌, length, Option, Some, None, Result, Ok, Err, refl, sym, ap, subst, ◌∙◌, arith}
use Rattle.std.specs.Prelude.{IsSome, MatchResult}
use Rattle.std.proofs.lemmas.List.{length_push}
use Rattle.tl_limits.specs.Limits.{IsJournalLimit}
use Rattle.tl_model.specs.Media.{Library}
use Rattle.tl_model.specs.Cells.{Cell}
use Rattle.tl_model.specs.declared.recipe.Recipe.{Recipe}
use Rattle.tl_model.specs.declared.journal.Act.{Act}
use Rattle.tl_model.specs.declared.journal.Entry.{Entry}
use Rattle.render_core.specs.State.{State, start, owed, Holds, HoldsExport}
use Rattle.render_core.specs.Step.{Setup, Reply, IsLegal, need, step, reply, after, state_after, AreLegal, IsJournal}
use Rattle.render_core.specs.Parts.{MachineOf, in_state, setup_at}
use Rattle.render_core.specs.Board.{BoardOf, CallAs, state_of, IsSame, HasRoom, Adds, Makes, Refuses, Does, Pays, Ledger, IsBoard, told_by}
use Rattle.render_core.specs.declared.reply.Full.{Full}
use Rattle.render_core.proofs.Owed.{owed-step}

pub after-append : {F : Type 0} (setup : Setup F) (count : ℕ) (es : List Entry) (e : Entry) (s : State) → after setup count (es ++ e ∷ []) s ≡ step setup (count + length es + 1) e.pass e.act (after setup count es s)
after-append setup count [] e s = let n : count + 1 ≡ count + 0 + 1 = omega arith in ap (λ (k : ℕ). step setup k e.pass e.act s) n
after-append setup count (x ∷ es) e s =
    let n : count + 1 + length es + 1 ≡ count + suc (length es) + 1 = omega arith in
    let next = step setup (count + 1) x.pass x.act s in
    after-append setup (count + 1) es e next ∙ ap (λ (k : ℕ). step setup k e.pass e.act (after setup (count + 1) es next)) n

legal-append : {F : Type 0} (setup : Setup F) (count : ℕ) (es : List Entry) (e : Entry) (s : State) → AreLegal setup count es s → IsLegal e.pass e.act (after setup count es s) → AreLegal setup count (es ++ e ∷ []) s
legal-append setup count [] e s all one = (one, tt)
legal-append setup count (x ∷ es) e s all one = (all.0, legal-append setup (count + 1) es e (step setup (count + 1) x.pass x.act s) all.1 one)

-- the board keeps its invariant with an entry more
grows : {F : Type 0} (setup : Setup F) (b next : Ledger) (pass : ℕ) (what : Act) → IsBoard setup b → IsLegal pass what b.state → next.state ≡ step setup (length b.journal + 1) pass what b.state → next.journal ≡ b.journal ++ record { pass = pass; act = what } ∷ [] → next.limit ≡ b.limit → next.owing + 1 ≡ b.owing + need what b.state → length b.journal + b.owing + need what b.state ≤ b.limit → length b.journal + b.owing + need what b.state ≤ next.room → IsBoard setup next
grows setup b next pass what is legal turn longer limit owing within kept =
    let e : Entry = record { pass = pass; act = what } in
    let n : length b.journal + 1 ≡ 0 + length b.journal + 1 = omega arith in
    let stands : next.state ≡ state_after setup (b.journal ++ e ∷ []) =
    turn ∙ ap (λ (k : ℕ). step setup k pass what b.state) n ∙ ap (step setup (0 + length b.journal + 1) pass what) is.stands ∙ sym (after-append setup 0 b.journal e start) in
    let all : IsJournal setup (b.journal ++ e ∷ []) = legal-append setup 0 b.journal e start is.legal (subst (IsLegal pass what) is.stands legal) in
    let len : length next.journal ≡ length b.journal + 1 = ap length longer ∙ length_push b.journal e in
    let owes : owed next.state + 1 ≡ b.owing + need what b.state =
    ap (λ (s : State). owed s + 1) turn ∙ owed-step setup (length b.journal + 1) pass what b.state legal ∙ ap (λ (k : ℕ). k + need what b.state) (sym is.owes) in
    record {
      stands = stands ∙ ap (state_after setup) (sym longer);
      legal = subst (IsJournal setup) (sym longer) all;
      owes = omega (arith, owes, owing);
      within = omega (arith, len, owing, within, limit);
      few = subst IsJournalLimit (sym limit) is.few;
      kept = omega (arith, len, owing, kept);
    }

-- the same state, seen from the board before room was made
pub same_state : {M F : Type 0} (library : M → Library F) (old mid : BoardOf M) → IsSame old mid → state_of library mid ≡ state_of library old
same_state library old mid s = let a = s.library in let b = s.cache in let c = s.journal in cc

abbrev pub view_of : {M : Type 0} → MachineOf M → ℕ → List Entry → ℕ → BoardOf M
view_of m limit journal spare = record { library = m.library; cache = m.cache; limit = limit; journal = journal; spare = spare }

pub state_from : {M F : Type 0} (library : M → Library F) (old mid : BoardOf M) (m : MachineOf M) (limit : ℕ) (journal : List Entry) (spare : ℕ) → view_of m limit journal spare ≡ mid → IsSame old mid → m.state ≡ state_after (setup_at library m) journal → m.state ≡ state_of library old
state_from library old mid m limit journal spare v same stands = stands ∙ ap (state_of library) v ∙ same_state library old mid same

pub adds : {M F : Type 0} (library : M → Library F) (old mid : BoardOf M) (m next : MachineOf M) (limit : ℕ) (journal longer : List Entry) (spare spare' pass : ℕ) (what : Act) (state : State) → view_of m limit journal spare ≡ mid → IsSame old mid → m.state ≡ state_after (setup_at library m) journal → IsLegal pass what m.state → next ≡ in_state state m → longer ≡ journal ++ record { pass = pass; act = what } ∷ [] → Adds library old (view_of next limit longer spare') pass what
adds {M} library old mid m next limit journal longer spare spare' pass what state v same stands legal turn is = record {
  library_stays = ap (λ (x : MachineOf M). x.library) turn ∙ ap (λ (b : BoardOf M). b.library) v ∙ same.library;
  cache = ap (λ (x : MachineOf M). x.cache) turn ∙ ap (λ (b : BoardOf M). b.cache) v ∙ same.cache;
  limit = ap (λ (b : BoardOf M). b.limit) v ∙ same.limit;
  journal = is ∙ ap (λ (b : BoardOf M). b.journal ++ record { pass = pass; act = what } ∷ []) v ∙ ap (λ (j : List Entry). j ++ record { pass = pass; act = what } ∷ []) same.journal;
  legal = subst (IsLegal pass what) (state_from library old mid m limit journal spare v same stands) legal;
}

pub replies : {M F : Type 0} (library : M → Library F) (old mid : BoardOf M) (m : MachineOf M) (limit : ℕ) (journal : List Entry) (spare : ℕ) (what : Act) (told : Reply F) → view_of m limit journal spare ≡ mid → IsSame old mid → m.state ≡ state_after (setup_at library m) journal → told ≡ reply (library m.library) what m.state → told ≡ reply (library old.library) what (state_of library old)
replies {M} library old mid m limit journal spare what told v same stands e =
    e ∙ ap (reply (library m.library) what) (state_from library old mid m limit journal spare v same stands)
    ∙ ap (λ (x : M). reply (library x) what (state_of library old)) (ap (λ (b : BoardOf M). b.library) v ∙ same.library)

pub same_board : {M : Type 0} (b : BoardOf M) → IsSame b b
same_board b = record { library = refl; cache = refl; limit = refl; journal = refl; room = omega arith }

-- what the machine tells is told in the state that the board stands for
pub told_at : {M F : Type 0} (library : M → Library F) (old : BoardOf M) (m : MachineOf M) (limit : ℕ) (journal : List Entry) (spare : ℕ) (what : Act) (told : Reply F) → view_of m limit journal spare ≡ old → m.state ≡ state_after (setup_at library m) journal → reply (library m.library) what m.state ≡ told → reply (library old.library) what (state_of library old) ≡ told
told_at library old m limit journal spare what told v stands e =
    sym (replies library old old m limit journal spare what told v (same_board old) stands (sym e))

abbrev pub ledger : State → List Entry → (limit owing room : ℕ) → Ledger
ledger state journal limit owing room = record { state = state; journal = journal; limit = limit; owing = owing; room = room }

pub grown : {M F : Type 0} (library : M → Library F) (om nm : MachineOf M) (at pass : ℕ) (what : Act) (journal longer : List Entry) (limit owing room owing' room' : ℕ) → IsBoard (setup_at library om) (ledger om.state journal limit owing room) → IsLegal pass what om.state → at ≡ length journal + 1 → nm ≡ in_state (step (setup_at library om) at pass what om.state) om → longer ≡ journal ++ record { pass = pass; act = what } ∷ [] → owing' + 1 ≡ owing + need what om.state → length journal + owing + need what om.state ≤ limit → length journal + owing + need what om.state ≤ room' → IsBoard (setup_at library nm) (ledger nm.state longer limit owing' room')
grown {M} library om nm at pass what journal longer limit owing room owing' room' b legal here turn is owes within kept =
    let next = step (setup_at library om) at pass what om.state in
    subst (λ (x : MachineOf M). IsBoard (setup_at library x) (ledger x.state longer limit owing' room')) (sym turn)
    (grows (setup_at library om) (ledger om.state journal limit owing room) (ledger next longer limit owing' room') pass what b legal (ap (λ (k : ℕ). step (setup_at library om) k pass what om.state) here) is refl owes within kept)

pub room_inside : {M F : Type 0} (library : M → Library F) (old mid : BoardOf M) (m : MachineOf M) (journal : List Entry) (limit owing room spare count : ℕ) → view_of m limit journal spare ≡ mid → IsSame old mid → IsBoard (setup_at library m) (ledger m.state journal limit owing room) → HasRoom library old count → length journal + owing + count ≤ limit
room_inside {M} library old mid m journal limit owing room spare count v same b h =
    let a = ap owed (state_from library old mid m limit journal spare v same b.stands) in
    let c = ap length (ap (λ (x : BoardOf M). x.journal) v ∙ same.journal) in
    let d = ap (λ (x : BoardOf M). x.limit) v ∙ same.limit in
    omega (arith, a, c, d, b.owes, h)

-- a call for which room was made
pub grown_room : {M F : Type 0} (library : M → Library F) (old mid : BoardOf M) (om nm : MachineOf M) (at pass : ℕ) (what : Act) (journal longer : List Entry) (limit owing owing' len cap cap' count : ℕ) → view_of om limit journal (cap - (len + owing)) ≡ mid → IsBoard (setup_at library om) (ledger om.state journal limit owing cap) → len ≡ length journal → IsSame old mid → HasRoom library old count → count ≤ mid.spare → need what om.state ≡ count → IsLegal pass what om.state → at ≡ len + 1 → nm ≡ in_state (step (setup_at library om) at pass what om.state) om → longer ≡ journal ++ record { pass = pass; act = what } ∷ [] → owing' + 1 ≡ owing + count → cap' ≡ cap → IsBoard (setup_at library nm) (ledger nm.state longer limit owing' cap')
grown_room {M} library old mid om nm at pass what journal longer limit owing owing' len cap cap' count v b is_len same room spare needs legal here turn is owes is_cap =
    let within = room_inside library old mid om journal limit owing cap (cap - (len + owing)) count v same b room in
    let left : cap - (len + owing) ≡ mid.spare = ap (λ (x : BoardOf M). x.spare) v in
    let fits : length journal + owing ≤ cap = b.kept in
    grown library om nm at pass what journal longer limit owing cap owing' cap' b legal (omega (arith, here, is_len)) turn is (omega (arith, owes, needs)) (omega (arith, within, needs)) (omega (arith, left, spare, needs, is_len, is_cap, fits))

-- a call whose entry was owed
pub grown_owed : {M F : Type 0} (library : M → Library F) (om nm : MachineOf M) (at pass : ℕ) (what : Act) (journal longer : List Entry) (limit owing cap cap' : ℕ) → IsBoard (setup_at library om) (ledger om.state journal limit owing cap) → IsLegal pass what om.state → need what om.state ≡ 0 → at ≡ length journal + 1 → nm ≡ in_state (step (setup_at library om) at pass what om.state) om → longer ≡ journal ++ record { pass = pass; act = what } ∷ [] → cap' ≡ cap → IsBoard (setup_at library nm) (ledger nm.state longer limit (owing - 1) cap')
grown_owed library om nm at pass what journal longer limit owing cap cap' b legal none here turn is is_cap =
    let owes = owed-step (setup_at library om) at pass what om.state legal in
    let was : owing ≡ owed om.state = b.owes in
    let within : length journal + owing ≤ limit = b.within in
    let fits : length journal + owing ≤ cap = b.kept in
    grown library om nm at pass what journal longer limit owing cap (owing - 1) cap' b legal here turn is (omega (arith, owes, was, none)) (omega (arith, within, none)) (omega (arith, fits, none, is_cap))

-- an owed entry was counted
pub was_owed : {M F : Type 0} (library : M → Library F) (m : MachineOf M) (at pass : ℕ) (what : Act) (journal : List Entry) (limit owing cap : ℕ) → IsBoard (setup_at library m) (ledger m.state journal limit owing cap) → IsLegal pass what m.state → need what m.state ≡ 0 → 1 ≤ owing
was_owed library m at pass what journal limit owing cap b legal none =
    let owes = owed-step (setup_at library m) at pass what m.state legal in
    let was : owing ≡ owed m.state = b.owes in
    omega (arith, owes, was, none)

pub Holds-inside : {M F : Type 0} (library : M → Library F) (old : BoardOf M) (m : MachineOf M) (limit : ℕ) (journal : List Entry) (spare pass n : ℕ) (recipe : Recipe) → view_of m limit journal spare ≡ old → m.state ≡ state_after (setup_at library m) journal → Holds (state_of library old) pass n recipe → Holds m.state pass n recipe
Holds-inside library old m limit journal spare pass n recipe v stands h = subst (λ (s : State). Holds s pass n recipe) (sym (stands ∙ ap (state_of library) v)) h

pub HoldsExport-inside : {M F : Type 0} (library : M → Library F) (old : BoardOf M) (m : MachineOf M) (limit : ℕ) (journal : List Entry) (spare pass n : ℕ) (name : List ℕ) (line : List Cell) → view_of m limit journal spare ≡ old → m.state ≡ state_after (setup_at library m) journal → HoldsExport (state_of library old) pass n name line → HoldsExport m.state pass n name line
HoldsExport-inside library old m limit journal spare pass n name line v stands h = subst (λ (s : State). HoldsExport s pass n name line) (sym (stands ∙ ap (state_of library) v)) h

pub pays : {M F R : Type 0} (library : M → Library F) (old : BoardOf M) (om nm : MachineOf M) (at : ℕ) (call : CallAs R F) (journal longer : List Entry) (limit owing len len' cap cap' : ℕ) (given : R) → view_of om limit journal (cap - (len + owing)) ≡ old → om.state ≡ state_after (setup_at library om) journal → IsLegal call.pass call.act om.state → nm ≡ in_state (step (setup_at library om) at call.pass call.act om.state) om → longer ≡ journal ++ record { pass = call.pass; act = call.act } ∷ [] → call.view given ≡ reply (library om.library) call.act om.state → 1 ≤ owing → len' ≡ len + 1 → cap' ≡ cap → Pays library old (view_of nm limit longer (cap' - (len' + (owing - 1)))) call given
pays {M} library old om nm at call journal longer limit owing len len' cap cap' given v stands legal turn is told some is_len is_cap =
    let left : cap' - (len' + (owing - 1)) ≡ cap - (len + owing) = omega arith in
    record {
      made = (
        adds library old old om nm limit journal longer (cap - (len + owing)) (cap' - (len' + (owing - 1))) call.pass call.act (step (setup_at library om) at call.pass call.act om.state) v (same_board old) stands legal turn is,
        replies library old old om limit journal (cap - (len + owing)) call.act (call.view given) v (same_board old) stands told,
      );
      spare = left ∙ ap (λ (x : BoardOf M). x.spare) v;
    }

pub some_of : {A : Type 0} (o : Option A) (x : A) → o ≡ Some x → IsSome o
some_of None x e = absurd cc
some_of (Some y) x e = refl

-- a call that needs so many entries
pub does_for : {M F R : Type 0} (library : M → Library F) (old new : BoardOf M) (call : CallAs R F) (count : ℕ) (result : Result R Full) → count ≡ need call.act (state_of library old) → MatchResult result (λ given. HasRoom library old count × Makes library old new (Some (told_by call given))) (λ why. Refuses library old new count why) → Does library old new call result
does_for library old new call count (Ok given) e h = subst (λ (k : ℕ). HasRoom library old k × Makes library old new (Some (told_by call given))) e h
does_for library old new call count (Err why) e h = subst (λ (k : ℕ). Refuses library old new k why) e h
