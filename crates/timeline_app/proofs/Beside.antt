-- Main and its crew, each with a pass of one studio, make a session that was played to its end.
use Rattle.std.proofs.Common.{◌≡◌, ℕ, zero, suc, ◌+◌, ◌<◌, ◌≤◌, Bool, List, [], ◌∷◌, ◌++◌, None, Result, refl, sym, ap, subst, ◌∙◌, arith}
use Rattle.std.specs.Prelude.{Contains}
use Rattle.std.specs.List.{flat_map}
use Rattle.std.proofs.lemmas.List.{append_assoc, append-nil}
use Rattle.tl_model.specs.Media.{Library}
use Rattle.tl_model.specs.declared.journal.Act.TheVariants as act
use Rattle.tl_model.specs.declared.journal.Entry.{Entry}
use Rattle.tl_ports.specs.declared.fault.PutFault.{PutFault}
use Rattle.tl_ports.specs.Seen.{SinkSeen, VaultSeen}
use Rattle.turn_lock.specs.declared.view.Joined.{Joined}
use Rattle.turn_lock.specs.Entries.{entries_of, IsFront}
use Rattle.turn_lock.specs.Passes.{Names, TurnOf, PassOf, first_pass, named_by}
use Rattle.render_core.specs.Board.{BoardOf}
use Rattle.render_core.specs.Calls.{CallOf, own}
use Rattle.render_core.specs.Step.{Silent}
use Rattle.edit_desk.specs.Desk.{DeskOf, FixedOf, IsDesk, Learns}
use Rattle.studio.specs.Known.{AtPassOf, KeptOf, Knows, desk_at}
use Rattle.play_head.specs.declared.stop.Stop.{Stop}
use Rattle.play_head.specs.Carrying.{Carried, CarriesAll, FinishesAll, carried_calls, carrier, exporter}
use Rattle.play_head.specs.Playing.{Player}
use Rattle.play_head.specs.Work.{turns_calls}
use Rattle.script_lang.specs.ScriptSound.{AreDistinct}
use Rattle.crew.specs.Joining.{HasIn, Stays}
use Rattle.timeline_app.specs.Course.{Course, IsCrew, IsWorker, Program, RunsCourse, SaysRest, Session, session_at}
use Rattle.timeline_app.specs.Ending.{entry_endings, entry_lines, final_status, said_by, stop_in}
use Rattle.timeline_app.specs.Together.{HasMade, MainOf, PlaysTogether, carrier_of, main_desk, player_at}
use Rattle.timeline_app.proofs.Crew.{own_after}
use Rattle.timeline_app.proofs.Finished.{HasFinished, has_manned}
use Rattle.timeline_app.proofs.Joined.{HasLeft, IsClosed, IsJoined, carries-append, closed_all, crew_by, joined_over, left_calls, left_worker}
use Rattle.timeline_app.proofs.Named.{files_of}
use Rattle.timeline_app.proofs.Plain.{course_plain, enters_plain, finishes_plain, hears_plain, known_plain, plain, plain_player}
use Rattle.timeline_app.proofs.Sessions.{script_course}

module _ {M F : Type 0} (p : Program M F) (studio : TurnOf (BoardOf M)) where
  -- The journal of a studio that was closed with main's pass: it is legal, main's entries are main's own, and each pass that main joined
  -- has the entries that main names.
  pub record Closes (main : PassOf (BoardOf M)) (journal : List Entry) : Type 0 where
    pub known : IsDesk p.setting.library (record (desk_at studio main) { seen = journal })
    pub extends : IsFront main.seen journal
    pub main_is : entries_of 0 journal ≡ main.own
    pub joined : (ended : Joined) → Contains main.joined ended → entries_of ended.number journal ≡ ended.own
    pub others : (number : ℕ) → main.made < number → entries_of number journal ≡ []

  -- Main carried out the exports that were left, and closed the studio.
  pub record EndsTogether (main : PassOf (BoardOf M)) (old new : VaultSeen) (journal : List Entry) : Type 0 where
    pub over : PassOf (BoardOf M)
    pub knows : Knows p.setting.library studio over
    pub finishes : FinishesAll p.setting.library (carrier_of p studio main) (exporter (desk_at studio main) old) (exporter (desk_at studio over) new)
    pub closes : Closes over journal
    pub idle : new.begun ≡ None

-- a front of a front
fronts : (one two three : List Entry) → IsFront one two → IsFront two three → IsFront one three
fronts one two three f g = (f.0 ++ g.0, g.1 ∙ ap (λ (es : List Entry). es ++ g.0) f.1 ∙ append_assoc one f.0 g.0)

module _ {M F : Type 0} (library : M → Library F) (studio : TurnOf (BoardOf M)) where
  -- what main saw when it joined others are entries of others
  learns_stays : (old new : PassOf (BoardOf M)) → Knows library studio old → Stays library studio old new → Learns (plain (desk_at studio old)) (plain (desk_at studio new))
  learns_stays old new knows s =
      let all : own old.number new.seen ≡ own old.number old.seen = ap (λ (n : ℕ). own n new.seen) (sym s.number) ∙ s.knows.own ∙ s.own ∙ sym knows.own in
      record {
        fixed = ap (λ (n : ℕ). record { number = n; library = studio.start.library; cache = studio.start.cache; limit = studio.start.limit; kept = tt }) s.number;
        others = s.extends.0;
        apart = own_after old.number old.seen s.extends.0 (ap (own old.number) (sym s.extends.1) ∙ all);
        seen = s.extends.1;
      }

-- ---- a pass that main joined, in a journal that main saw later

module _ {M F : Type 0} (p : Program M F) (studio : TurnOf (BoardOf M)) (main over : PassOf (BoardOf M)) (journal : List Entry) (sees : IsFront main.seen over.seen) (names : over.joined ≡ main.joined) (c : Closes p studio over journal) where
  made_joined : (number : ℕ) (calls : List (CallOf F)) → HasMade p.setting.library studio main number calls → IsJoined number main.seen journal
  made_joined number calls h =
      let pass = h.0 in
      record {
        front = pass.seen;
        rest = h.2.front.0;
        is = h.2.front.1;
        all = ap (λ (n : ℕ). own n journal) (sym h.1.numbered)
            ∙ c.joined (named_by pass) (subst (λ (js : List Joined). Contains js (named_by pass)) (sym names) h.2.named)
            ∙ sym h.1.knows.own ∙ ap (λ (n : ℕ). own n pass.seen) h.1.numbered;
      }

  see_over : (pass : PassOf (BoardOf M)) → HasIn main pass → IsFront pass.seen over.seen
  see_over pass has = fronts pass.seen main.seen over.seen has.front sees

  made_over : (number : ℕ) (calls : List (CallOf F)) → HasMade p.setting.library studio main number calls → IsJoined number over.seen journal
  unfolding made_joined
  made_over number calls h =
      let front = see_over h.0 h.2 in
      record { front = h.0.seen; rest = front.0; is = front.1; all = (made_joined number calls h).all }

  made_left : (number : ℕ) (calls : List (CallOf F)) → journal ≡ over.seen → HasMade p.setting.library studio main number calls → HasLeft p.setting.library (KeptOf M) (plain (desk_at studio over)) number calls
  unfolding made_joined
  made_left number calls same h =
      let front = see_over h.0 h.2 in
      record {
        pass = desk_at studio h.0;
        numbered = h.1.numbered;
        library_is = refl;
        cache_is = refl;
        heard_is = h.1.heard_is;
        rest = front.0;
        is = front.1;
        all = ap (own number) (sym same) ∙ (made_joined number calls h).all;
      }

-- ---- the whole

module _ {M F : Type 0} (p : Program M F) (studio : TurnOf (BoardOf M)) (old mid : MainOf M) (r : Result Unit Stop) (silenced : Bool) (h : PlaysTogether p studio old mid (r, silenced)) (vault : VaultSeen) (journal : List Entry) (e : EndsTogether p studio mid.pass mid.seen.vault vault journal) where
  abbrev lib : M → Library F
  lib = p.setting.library

  abbrev over : PassOf (BoardOf M)
  over = e.over

  abbrev more : List Entry
  more = e.finishes.1.hears.more

  abbrev first_session : Session M (Unit {0})
  first_session = record { player = plain_player (player_at p studio old); vault = old.seen.vault }

  abbrev last_session : Session M (Unit {0})
  last_session = record { player = plain_player (player_at p studio (record mid { pass = over })); vault = vault }

  names_over : over.joined ≡ mid.pass.joined
  names_over = ap (λ (x : FixedOf M (KeptOf M)). x.kept.joined) e.finishes.1.hears.fixed

  made_is : over.made ≡ p.others
  made_is = ap (λ (x : FixedOf M (KeptOf M)). x.kept.made) e.finishes.1.hears.fixed ∙ h.made

  number_is : over.number ≡ mid.pass.number
  number_is = ap (λ (x : FixedOf M (KeptOf M)). x.number) e.finishes.1.hears.fixed

  sees : IsFront mid.pass.seen over.seen
  sees = (more, e.finishes.1.hears.seen)

  abbrev rest : List Entry
  rest = e.closes.extends.0

  made_all : (number : ℕ) → 1 ≤ number → number ≤ p.others → IsJoined number over.seen journal
  made_all zero le most = absurd (omega (arith, le))
  made_all (suc zero) le most = made_over p studio mid.pass over journal sees names_over e.closes 1 (flat_map (carried_calls 1) h.early) h.exports
  made_all (suc (suc n)) le most =
      let w = h.workers (suc (suc n)) (omega arith) most in
      made_over p studio mid.pass over journal sees names_over e.closes (suc (suc n)) (turns_calls (suc (suc n)) w.0) w.2

  past_made : (number : ℕ) → p.others < number → over.made < number
  past_made number past = subst (λ (n : ℕ). n < number) (sym made_is) past

  module _ (first : old.pass.number ≡ 0) (fresh : old.pass.seen ≡ []) (main : over.number ≡ 0) where
    closed_is : IsClosed p.others over.seen rest
    closed_is = record {
      main = ap (own 0) (sym e.closes.extends.1) ∙ e.closes.main_is ∙ sym e.knows.own ∙ ap (λ (n : ℕ). own n over.seen) main;
      passes = λ number le most. subst (λ (es : List Entry). IsJoined number over.seen es) e.closes.extends.1 (made_all number le most);
      others = λ number past. ap (own number) (sym e.closes.extends.1) ∙ e.closes.others number (past_made number past);
    }

    -- main had seen the whole journal
    pub seen_all : journal ≡ over.seen
    seen_all = e.closes.extends.1 ∙ ap (λ (es : List Entry). over.seen ++ es) (closed_all p.others over.seen rest closed_is) ∙ append-nil over.seen

    made_for : (number : ℕ) (calls : List (CallOf F)) → HasMade lib studio mid.pass number calls → HasLeft lib (KeptOf M) (plain (desk_at studio over)) number calls
    made_for number calls made = made_left p studio mid.pass over journal sees names_over e.closes number calls seen_all made

    worker_for : (number : ℕ) → 2 ≤ number → number ≤ p.others → IsWorker lib (plain (desk_at studio over)) number
    worker_for number le most =
        let w = h.workers number le most in
        left_worker lib (plain (desk_at studio over)) number w.0 w.1 (made_for number (turns_calls number w.0) w.2)

    crew_is : IsCrew lib (plain (desk_at studio over)) p.others h.early
    crew_is = crew_by lib (plain (desk_at studio over)) p.others h.early
        (left_calls lib (plain (desk_at studio over)) 1 (flat_map (carried_calls 1) h.early) (made_for 1 (flat_map (carried_calls 1) h.early) h.exports))
        worker_for
        (λ number past. ap (own number) (sym seen_all) ∙ e.closes.others number (past_made number past))

    -- the exporter enters nothing once main joined it
    over_is : own 1 more ≡ []
    over_is =
        let there = made_joined p studio mid.pass over journal sees names_over e.closes 1 (flat_map (carried_calls 1) h.early) h.exports in
        joined_over 1 mid.pass.seen more (subst (IsJoined 1 mid.pass.seen) (seen_all ∙ e.finishes.1.hears.seen) there)

    pub finished_together : AreDistinct (files_of p.body) → (said : Result Unit PutFault) → HasFinished p first_session last_session r silenced h.early e.finishes.0 said
    unfolding finishes_plain hears_plain
    finished_together distinct said =
        let s = p.setting in
        let late = e.finishes.0 in
        let start = player_at p studio (record old { pass = record old.pass { made = p.others } }) in
        let stopped = player_at p studio (record mid { pass = h.stopped }) in
        let played : Player M (KeptOf M) = record stopped { desk = h.plays.played } in
        record {
          number = first;
          fresh = fresh;
          distinct = distinct;
          played = plain_player played;
          script = course_plain s start played p.body r h.early late (said_by r silenced) said (script_course s start played p.body h.early late said r silenced fresh h.plays.plays);
          closed = record {
            stopped = plain (desk_at studio h.stopped);
            stops = enters_plain lib h.plays.played (desk_at studio h.stopped) act.Stop Silent h.plays.stops;
            joined = plain (desk_at studio mid.pass);
            joins = learns_stays lib studio h.stopped mid.pass h.knows h.stays;
            finishes = finishes_plain lib (desk_at studio mid.pass) (desk_at studio over) late e.finishes.1;
          };
          known = known_plain lib (desk_at studio over) e.knows.known;
          crew = crew_is;
          over = over_is;
          carries = carries-append (carrier_of p studio over) old.seen.vault mid.seen.vault vault h.early late h.carries e.finishes.2;
          stays = refl;
          idle = e.idle;
        }

    -- a session from a new studio to its closed journal, with its end lines and its status
    pub ran_together : (out : SinkSeen) (said : Result Unit PutFault) (code : ℕ) → old.pass ≡ first_pass studio → AreDistinct (files_of p.body)
        → SaysRest p.setting.tells.out mid.seen.out out (flat_map (entry_lines p.setting.clips) journal) (said_by r silenced, said) → mid.seen.out.faults ≤ out.faults
        → code ≡ final_status said (stop_in r) (flat_map entry_endings journal)
        → (course : Course F) × RunsCourse p (session_at (main_desk studio []) old.seen) (session_at (main_desk studio journal) (record mid.seen { vault = vault; out = out })) course code
    ran_together out said code begins distinct lines later status =
        subst (λ (x : PassOf (BoardOf M)). (course : Course F) × RunsCourse p (session_at (plain (desk_at studio x)) old.seen)
        (session_at (record (plain (desk_at studio x)) { seen = journal }) (record mid.seen { vault = vault; out = out })) course code) begins
        (has_manned p first_session last_session r silenced h.early e.finishes.0 journal said out code (finished_together distinct said)
        (record { is = seen_all; lines = lines; later = later; status = status }))

-- ---- main's pass, through the desk with which it carried out what was left

module _ {M F : Type 0} (p : Program M F) (studio : TurnOf (BoardOf M)) (main : PassOf (BoardOf M)) (old new : VaultSeen) (first last : AtPassOf M) (over : PassOf (BoardOf M)) where
  -- what the desk's call tells, over its studio and its pass
  pub record Finishes : Type 0 where
    pub studio_is : first.studio ≡ studio
    pub pass_is : first.pass ≡ main
    pub finishes : FinishesAll p.setting.library (carrier p.setting.library (desk_at first.studio first.pass) p.setting.rate p.vault_tells)
        (exporter (desk_at first.studio first.pass) old) (exporter (desk_at last.studio last.pass) new)
    pub over_is : over ≡ last.pass
    pub knows : Knows p.setting.library last.studio over

  module _ (f : Finishes) where
    last_studio : last.studio ≡ studio
    last_studio = ap (λ (x : FixedOf M (KeptOf M)). x.kept.studio) f.finishes.1.hears.fixed ∙ f.studio_is

    pub knows_over : Knows p.setting.library studio over
    knows_over = subst (λ (s : TurnOf (BoardOf M)). Knows p.setting.library s over) last_studio f.knows

    -- the same over the studio and main's pass
    pub finishes_over : FinishesAll p.setting.library (carrier_of p studio main) (exporter (desk_at studio main) old) (exporter (desk_at studio over) new)
    finishes_over =
        subst (λ (x : PassOf (BoardOf M)). FinishesAll p.setting.library (carrier_of p studio main) (exporter (desk_at studio main) old) (exporter (desk_at studio x) new)) (sym f.over_is)
        (subst (λ (x : PassOf (BoardOf M)). FinishesAll p.setting.library (carrier_of p studio x) (exporter (desk_at studio x) old) (exporter (desk_at studio last.pass) new)) f.pass_is
        (subst (λ (s : TurnOf (BoardOf M)). FinishesAll p.setting.library (carrier_of p s first.pass) (exporter (desk_at s first.pass) old) (exporter (desk_at studio last.pass) new)) f.studio_is
        (subst (λ (s : TurnOf (BoardOf M)). FinishesAll p.setting.library (carrier_of p first.studio first.pass) (exporter (desk_at first.studio first.pass) old) (exporter (desk_at s last.pass) new)) last_studio
        f.finishes)))

names_mid : {M F : Type 0} (p : Program M F) (studio : TurnOf (BoardOf M)) (old mid : MainOf M) (ended : Result Unit Stop × Bool) → PlaysTogether p studio old mid ended
    → (number : ℕ) → 1 ≤ number → number ≤ p.others → Names mid.pass.joined number
names_mid p studio old mid ended h zero le most = absurd (omega (arith, le))
names_mid p studio old mid ended h (suc zero) le most = (named_by h.exports.0, h.exports.2.named, h.exports.1.numbered)
names_mid p studio old mid ended h (suc (suc n)) le most =
    let w = h.workers (suc (suc n)) (omega arith) most in
    (named_by w.2.0, w.2.2.named, w.2.1.numbered)

-- main names each pass that it made, when it closes the studio
pub names_all : {M F : Type 0} (p : Program M F) (studio : TurnOf (BoardOf M)) (old mid : MainOf M) (ended : Result Unit Stop × Bool) (over : PassOf (BoardOf M)) → PlaysTogether p studio old mid ended
    → over.joined ≡ mid.pass.joined → over.made ≡ mid.pass.made → (number : ℕ) → 1 ≤ number → number ≤ over.made → Names over.joined number
names_all p studio old mid ended over h joined made number le most =
    subst (λ (js : List Joined). Names js number) (sym joined) (names_mid p studio old mid ended h number le (subst (λ (n : ℕ). number ≤ n) (made ∙ h.made) most))
