-- The body of a script, line after line.
use Rattle.std.proofs.Common.{◌≡◌, ◌≢◌, ℕ, zero, suc, ◌+◌, ◌<◌, ◌≤◌, Bool, true, false, List, [], ◌∷◌, ◌++◌, length, take, drop, get_or, Option, Result, Ok, Err, inl, inr, refl, sym, ap, subst, ◌∙◌, arith}
use Rattle.std.proofs.lemmas.List.{append_assoc, take_more, take_all, take-append-drop}
use Rattle.tl_model.specs.Media.{Library}
use Rattle.pic_planes.specs.Picture.{Image}
use Rattle.tl_ports.specs.declared.fault.FetchFault.{FetchFault}
use Rattle.tl_ports.specs.declared.fault.FetchFault.TheVariants as fetching
use Rattle.tl_ports.specs.Seen.{StoreSeen, SinkSeen}
use Rattle.edit_desk.specs.Desk.{DeskOf}
use Rattle.script_lang.specs.declared.script.BodyLine.{BodyLine}
use Rattle.script_lang.specs.ScriptSound.{IsCall, AreCalls}
use Rattle.play_head.specs.declared.halt.Halt.{Halt}
use Rattle.play_head.specs.declared.halt.Halt.TheVariants as halt
use Rattle.play_head.specs.declared.stop.Stop.{Stop}
use Rattle.play_head.specs.Playing.{Tells, Player, player}
use Rattle.play_head.specs.PlayingLine.{PlaysLine, PlaysPart}
use Rattle.play_head.specs.PlayingScript.{PlaysLines, PlaysScript, StopsBy, setting_of}
use Rattle.play_head.proofs.Growing.{lines_more}

pub call_at : (lines : List BodyLine) (i : ℕ) (d : BodyLine) → i < length lines → AreCalls lines → IsCall (get_or lines i d).call
call_at [] i d within calls = absurd (omega (arith, within))
call_at (x ∷ xs) zero d within calls = calls.0
call_at (x ∷ xs) (suc i) d within calls = call_at xs i d (omega (arith, within)) calls.1

pub call_here : (lines : List BodyLine) (i : ℕ) (line : BodyLine) → i < length lines → line ≡ get_or lines i line → AreCalls lines → IsCall line.call
call_here lines i line within is calls = subst (λ (l : BodyLine). IsCall l.call) (sym is) (call_at lines i line within calls)

front_more : (body : List BodyLine) (i : ℕ) (line : BodyLine) → i < length body → line ≡ get_or body i line → take (i + 1) body ≡ take i body ++ line ∷ []
front_more body i line within is = take_more body i line within ∙ ap (λ (l : BodyLine). take i body ++ l ∷ []) (sym is)

body_parts : (body : List BodyLine) (i : ℕ) (line : BodyLine) → i < length body → line ≡ get_or body i line → body ≡ take i body ++ line ∷ drop (i + 1) body
body_parts body i line within is =
    sym (take-append-drop (i + 1) body) ∙ ap (λ (ls : List BodyLine). ls ++ drop (i + 1) body) (front_more body i line within is)
    ∙ append_assoc (take i body) (line ∷ []) (drop (i + 1) body)

module _ {M K : Type 0} (library : M → Library Image) (clips : List (List ℕ × ℕ)) (rate : ℕ) (tells : Tells) where
  -- one line more was played to its end
  pub body_next : (old mid new : Player M K) (body : List BodyLine) (i : ℕ) (line : BodyLine) → i < length body → line ≡ get_or body i line → PlaysLines (setting_of library clips rate old.store.file tells) old mid (take i body) → PlaysLine (setting_of library clips rate mid.store.file tells) mid new line (Ok tt) → PlaysLines (setting_of library clips rate old.store.file tells) old new (take (i + 1) body)
  body_next old mid new body i line within is f w =
      let here = subst (λ (files : List ℕ → Option (List ℕ)). PlaysLine (setting_of library clips rate files tells) mid new line (Ok tt)) f.lasts.files w in
      subst (PlaysLines (setting_of library clips rate old.store.file tells) old new) (sym (front_more body i line within is)) (lines_more (setting_of library clips rate old.store.file tells) old mid new (take i body) line f here.0 here.1)

  -- memory that ran out for a fetch isn't told as a fault of the store
  pub part_stored : (files : List ℕ → Option (List ℕ)) (old new : Player M K) (line : BodyLine) (why : Halt) → PlaysLine (setting_of library clips rate files tells) old new line (Err why) → why ≢ halt.Store fetching.NoMemory
  part_stored files old new line why w e = let part = subst (λ (x : Halt). PlaysPart (setting_of library clips rate files tells) old new line x) e w.0 in part.stops.2 refl

  stopped_by : (old mid halted : Player M K) (after : SinkSeen) (body : List BodyLine) (i : ℕ) (line : BodyLine) (why : Halt) (r : Result Unit Stop) (silenced : Bool) → i < length body → line ≡ get_or body i line → PlaysLines (setting_of library clips rate old.store.file tells) old mid (take i body) → PlaysLine (setting_of library clips rate mid.store.file tells) mid halted line (Err why) → StopsBy tells.out halted.out after (line.call, why) (r, silenced) → halted.out.faults ≤ after.faults → PlaysScript (setting_of library clips rate old.store.file tells) old (record halted { out = after }) body (r, silenced)
  stopped_by old mid halted after body i line why (Ok done) silenced within is f w h later = absurd h
  stopped_by old mid halted after body i line why (Err what) silenced within is f w h later =
      let here = subst (λ (files : List ℕ → Option (List ℕ)). PlaysLine (setting_of library clips rate files tells) mid halted line (Err why)) f.lasts.files w in
      record {
        why = why;
        halted = halted;
        plays = record { front = take i body; line = line; rest = drop (i + 1) body; is = body_parts body i line within is; between = mid; plays = f; part = here.0; lasts = here.1 };
        says = h;
        only = record { desk = refl; store = refl; screen = refl; later = later };
      }

  -- a line stopped the script
  pub body_stops : (old mid : Player M K) (desk : DeskOf M K) (store : StoreSeen) (screen before after : SinkSeen) (body : List BodyLine) (i : ℕ) (line : BodyLine) (why : Halt) (r : Result Unit Stop) (silenced : Bool) → i < length body → line ≡ get_or body i line → PlaysLines (setting_of library clips rate old.store.file tells) old mid (take i body) → PlaysLine (setting_of library clips rate mid.store.file tells) mid (player desk store screen before) line (Err why) → StopsBy tells.out before after (line.call, why) (r, silenced) → before.faults ≤ after.faults → PlaysScript (setting_of library clips rate old.store.file tells) old (player desk store screen after) body (r, silenced)
  body_stops old mid desk store screen before after body i line why r silenced within is f w h later =
      stopped_by old mid (player desk store screen before) after body i line why r silenced within is f w h later

  -- all lines were played
  pub body_ends : (old new : Player M K) (body : List BodyLine) (i : ℕ) → length body ≤ i → PlaysLines (setting_of library clips rate old.store.file tells) old new (take i body) → PlaysScript (setting_of library clips rate old.store.file tells) old new body (Ok tt, false)
  body_ends old new body i past f = subst (PlaysLines (setting_of library clips rate old.store.file tells) old new) (take_all i body past) f
