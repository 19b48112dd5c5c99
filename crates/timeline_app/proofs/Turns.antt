-- What a worker and an exporter heard of their own, from their start with a new pass.
use Rattle.std.proofs.Common.{◌≡◌, ℕ, List, [], ◌∷◌, ◌++◌, length, refl, sym, ap, subst, ◌∙◌}
use Rattle.std.specs.List.{flat_map}
use Rattle.std.proofs.lemmas.List.{append-nil}
use Rattle.std.proofs.lemmas.List.Concat.{flat_map-append}
use Rattle.tl_model.specs.Media.{Library}
use Rattle.render_core.specs.Calls.{CallOf, own}
use Rattle.render_core.specs.State.{start}
use Rattle.render_core.specs.Step.{Reply}
use Rattle.render_core.proofs.Journals.{own_calls-others}
use Rattle.edit_desk.specs.Desk.{FixedOf, DeskOf, Hears, heard, setup_of}
use Rattle.edit_desk.proofs.Heard.{hears_on}
use Rattle.play_head.specs.Work.{Turn, AreEnded, AreTurns, turn_calls, turns_calls}
use Rattle.render_pool.specs.declared.end.WorkEnd.{WorkEnd}
use Rattle.render_pool.specs.declared.end.WorkEnd.TheVariants as end
use Rattle.render_pool.specs.Working.{MakesTurn, WorksUntilStopped}
use Rattle.turn_lock.specs.Passes.{TurnOf, PassOf}
use Rattle.render_core.specs.Board.{BoardOf}
use Rattle.studio.specs.Known.{desk_at}
use Rattle.studio.specs.Parts.{KnowsAs}
use Rattle.play_head.specs.Carrying.{Carried, carried_calls}
use Rattle.timeline_app.specs.Together.{IsFresh, Made, MadeExports, MadeTurns}
use Rattle.timeline_app.proofs.Crew.{ended_then, ended_turns}

one_calls : {F : Type 0} (number : ℕ) (turns : List (Turn F)) (turn : Turn F) → turns_calls number turns ++ turn_calls number turn ≡ turns_calls number (turns ++ turn ∷ [])
one_calls {F} number turns turn =
    ap (λ (cs : List (CallOf F)). turns_calls number turns ++ cs) (sym (append-nil (turn_calls number turn)))
    ∙ sym (flat_map-append (turn_calls number) turns (turn ∷ []))

module _ {M K F : Type 0} (library : M → Library F) where
  -- of its own it heard turns of work
  pub record HearsTurns (old new : DeskOf M K) : Type 0 where
    pub turns : List (Turn F)
    pub are_turns : AreTurns turns
    pub hears : Hears library old new (turns_calls old.fixed.number turns)

  none_then : (old between new : DeskOf M K) (turns : List (Turn F)) → AreEnded turns → Hears library old between (turns_calls old.fixed.number turns) → Hears library between new [] → HearsTurns old new
  none_then old between new turns ended h k = record {
    turns = turns;
    are_turns = ended_turns turns ended;
    hears = subst (Hears library old new) (append-nil (turns_calls old.fixed.number turns)) (hears_on library old between new (turns_calls old.fixed.number turns) [] h k);
  }

  one_then : (old between new : DeskOf M K) (turns : List (Turn F)) (job : ℕ) (told : Reply F) → AreEnded turns → Hears library old between (turns_calls old.fixed.number turns) → MakesTurn library between new job told → HearsTurns old new
  one_then old between new turns job told ended h m =
      let number = old.fixed.number in
      let made : Hears library between new (turn_calls number m.turn) = subst (λ (f : FixedOf M K). Hears library between new (turn_calls f.number m.turn)) h.fixed m.hears in
      record {
        turns = turns ++ m.turn ∷ [];
        are_turns = ended_then turns m.turn ended m.is_turn;
        hears = subst (Hears library old new) (one_calls number turns m.turn) (hears_on library old between new (turns_calls number turns) (turn_calls number m.turn) h made);
      }

  pub hears_turns : (old new : DeskOf M K) (last : WorkEnd) → WorksUntilStopped library old new last → HearsTurns old new
  hears_turns old new (end.Filed job) h = absurd (h.1 tt)
  hears_turns old new (end.Closed job at) h = absurd (h.1 tt)
  hears_turns old new (end.Released job) h = let w = h.0 in one_then old w.between new w.turns job _ w.ended w.hears w.works
  hears_turns old new (end.Idle len) h = absurd (h.1 tt)
  hears_turns old new (end.Stopped len) h = let w = h.0 in none_then old w.between new w.turns w.ended w.hears w.works.0
  hears_turns old new (end.JournalFull len owing) h = let w = h.0 in none_then old w.between new w.turns w.ended w.hears w.works.0
  hears_turns old new end.NoMemory h = let w = h.0 in none_then old w.between new w.turns w.ended w.hears w.works.0

  -- a pass that had made no calls
  pub heard_first : (old new : DeskOf M K) (calls : List (CallOf F)) → own old.fixed.number old.seen ≡ [] → Hears library old new calls → heard library new ≡ calls
  heard_first old new calls first h =
      h.heard ∙ ap (λ (cs : List (CallOf F)). cs ++ calls) (own_calls-others (setup_of library old) old.fixed.number 0 old.seen start first)

-- ---- with a pass of a studio

module _ {M F : Type 0} (library : M → Library F) (studio : TurnOf (BoardOf M)) (number : ℕ) (old new : PassOf (BoardOf M)) (fresh : IsFresh library studio number old) (knows : KnowsAs library studio old new) where
  made_first : (calls : List (CallOf F)) → Hears library (desk_at studio old) (desk_at studio new) calls → Made library studio number calls new
  made_first calls h = record {
    knows = knows.knows;
    numbered = knows.number ∙ fresh.numbered;
    heard_is = heard_first library (desk_at studio old) (desk_at studio new) calls (fresh.knows.own ∙ fresh.own) h;
  }

  -- a worker's
  pub made_turns : (last : WorkEnd) → WorksUntilStopped library (desk_at studio old) (desk_at studio new) last → MadeTurns library studio number new
  made_turns last works =
      let t = hears_turns library (desk_at studio old) (desk_at studio new) last works in
      (t.turns, t.are_turns, made_first (turns_calls number t.turns) (subst (λ (n : ℕ). Hears library (desk_at studio old) (desk_at studio new) (turns_calls n t.turns)) fresh.numbered t.hears))

  -- the exporter's
  pub made_exports : (carried : List Carried) → number ≡ 1 → Hears library (desk_at studio old) (desk_at studio new) (flat_map (carried_calls old.number) carried) → MadeExports library studio carried new
  made_exports carried one h =
      subst (λ (n : ℕ). Made library studio n (flat_map (carried_calls n) carried) new) one
      (made_first (flat_map (carried_calls number) carried) (subst (λ (n : ℕ). Hears library (desk_at studio old) (desk_at studio new) (flat_map (carried_calls n) carried)) fresh.numbered h))
