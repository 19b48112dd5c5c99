-- What `out` gets over a session: the lines of its script, the stop line, and the end lines.
use Rattle.std.proofs.Common.{◌≡◌, ℕ, ◌≤◌, Bool, true, false, List, [], ◌∷◌, ◌++◌, Result, Ok, Err, inl, inr, refl, sym, ap, subst, ◌∙◌, arith}
use Rattle.std.proofs.lemmas.List.{append-nil, map-append}
use Rattle.tl_ports.specs.declared.fault.PutFault.{PutFault}
use Rattle.tl_ports.specs.declared.fault.PutFault.TheVariants as putting
use Rattle.tl_ports.specs.Outside.{Rose, PutHasCause}
use Rattle.tl_ports.specs.Seen.{SinkSeen}
use Rattle.script_lang.specs.declared.out_line.OutLine.{OutLine}
use Rattle.script_lang.specs.declared.script.Call.{Call}
use Rattle.script_lang.specs.Line.{line_text}
use Rattle.play_head.specs.declared.halt.Halt.{Halt}
use Rattle.play_head.specs.declared.halt.Halt.TheVariants as halt
use Rattle.play_head.specs.declared.stop.Stop.{Stop}
use Rattle.play_head.specs.PlayingLine.{texts}
use Rattle.play_head.specs.Putting.{IsFront, GotAll, GotFront, Gets}
use Rattle.play_head.specs.PlayingScript.{SaysStop, is_silent, stop_lines, stop_of}
use Rattle.play_head.proofs.Pieces.{all_then, front_more, front_nothing}
use Rattle.timeline_app.specs.Course.{SaysBy}
use Rattle.timeline_app.specs.Ending.{said_by}

pub rose_later : (before between now : ℕ) → before ≤ between → Rose between now → Rose before now
rose_later before between now le rose = omega arith

texts-append : (first more : List OutLine) → texts first ++ texts more ≡ texts (first ++ more)
texts-append first more = sym (map-append line_text first more)

module _ (tells : Bool) where
  pub all_lines : (old mid new : SinkSeen) (first more : List OutLine) → GotAll tells old mid (texts first) → GotAll tells mid new (texts more) → GotAll tells old new (texts (first ++ more))
  all_lines old mid new first more h k = subst (GotAll tells old new) (texts-append first more) (all_then tells old mid new (texts first) (texts more) (Ok tt) h k)

  pub front_lines : (old mid new : SinkSeen) (first more : List OutLine) → GotAll tells old mid (texts first) → GotFront tells mid new (texts more) → GotFront tells old new (texts (first ++ more))
  front_lines old mid new first more h k = subst (GotFront tells old new) (texts-append first more) (all_then tells old mid new (texts first) (texts more) (Err putting.Failed) h k)

  pub front_of_more : (old new : SinkSeen) (first more : List OutLine) → GotFront tells old new (texts first) → GotFront tells old new (texts (first ++ more))
  front_of_more old new first more h = subst (GotFront tells old new) (texts-append first more) (front_more tells old new (texts first) (texts more) h)

  -- some lines were put, and then more
  pub says_then : (old mid new : SinkSeen) (first more : List OutLine) (said : Result Unit PutFault) → GotAll tells old mid (texts first) → old.faults ≤ mid.faults → SaysBy tells mid new more said → SaysBy tells old new (first ++ more) said
  says_then old mid new first more (Ok done) h le k = all_lines old mid new first more h k
  says_then old mid new first more (Err putting.Failed) h le k = (front_lines old mid new first more h k.0, rose_later old.faults mid.faults new.faults le k.1)
  says_then old mid new first more (Err putting.NoMemory) h le k = front_lines old mid new first more h k

  -- nothing more is put after a put that isn't `Ok`
  pub says_silent : (old new : SinkSeen) (first more : List OutLine) (fault : PutFault) → SaysBy tells old new first (Err fault) → SaysBy tells old new (first ++ more) (Err fault)
  says_silent old new first more putting.Failed h = (front_of_more old new first more h.0, h.1)
  says_silent old new first more putting.NoMemory h = front_of_more old new first more h

  -- ---- with the stop line

  front_empty : (got : List (List ℕ)) → IsFront got [] → got ≡ []
  front_empty [] h = refl
  front_empty (piece ∷ got) h = absurd h

  -- some front was put, and then nothing
  front_quiet : (old mid new : SinkSeen) (pieces : List (List ℕ)) → GotFront tells old mid pieces → GotFront tells mid new [] → GotFront tells old new pieces
  front_quiet old mid new pieces h k = λ t. (let got = h t in let none = k t in (
    got.0,
    none.1 ∙ ap (λ (ps : List (List ℕ)). mid.pieces ++ ps) (front_empty none.0 none.2) ∙ append-nil mid.pieces ∙ got.1,
    got.2,
  ))

  silent_none : (call : Call) (why : Halt) → is_silent why ≡ true → stop_lines call why ≡ []
  silent_none call (halt.Store fault) e = cc
  silent_none call halt.Screen e = cc
  silent_none call halt.Out e = refl
  silent_none call halt.NoMemory e = cc
  silent_none call halt.OutMemory e = refl
  silent_none call (halt.JournalFull len owing) e = cc

  -- the line that stopped, and its stop line or some front of it
  front_stop : (mid halted new : SinkSeen) (lines : List OutLine) (call : Call) (why : Halt) (b : Bool) → is_silent why ≡ b → (is_silent why ≡ false → GotAll tells mid halted (texts lines)) → (is_silent why ≡ true → GotFront tells mid halted (texts lines)) → GotFront tells halted new (texts (stop_lines call why)) → GotFront tells mid new (texts (lines ++ stop_lines call why))
  front_stop mid halted new lines call why false e all some k = front_lines mid halted new lines (stop_lines call why) (all e) k
  front_stop mid halted new lines call why true e all some k =
      front_of_more mid new lines (stop_lines call why)
      (front_quiet mid halted new (texts lines) (some e) (subst (λ (ls : List OutLine). GotFront tells halted new (texts ls)) (silent_none call why e) k))

  says_failed : (old new : SinkSeen) (lines : List OutLine) (why : Halt) → GotFront tells old new (texts lines) → Rose old.faults new.faults → SaysBy tells old new lines (said_by (Err (stop_of why)) true)
  says_failed old new lines (halt.Store fault) h rose = (h, rose)
  says_failed old new lines halt.Screen h rose = (h, rose)
  says_failed old new lines halt.Out h rose = (h, rose)
  says_failed old new lines halt.NoMemory h rose = (h, rose)
  says_failed old new lines halt.OutMemory h rose = h
  says_failed old new lines (halt.JournalFull len owing) h rose = (h, rose)

  -- nothing was put after a put that wasn't `Ok`
  says_quiet : (old new : SinkSeen) (lines : List OutLine) (why : Halt) → is_silent why ≡ true → GotFront tells old new (texts lines) → (why ≡ halt.Out → Rose old.faults new.faults) → SaysBy tells old new lines (said_by (Err (stop_of why)) true)
  says_quiet old new lines (halt.Store fault) e h rose = absurd cc
  says_quiet old new lines halt.Screen e h rose = absurd cc
  says_quiet old new lines halt.Out e h rose = (h, rose refl)
  says_quiet old new lines halt.NoMemory e h rose = absurd cc
  says_quiet old new lines halt.OutMemory e h rose = h
  says_quiet old new lines (halt.JournalFull len owing) e h rose = absurd cc

  -- a line that stopped, and its stop line
  pub says_stop : (mid halted new : SinkSeen) (lines : List OutLine) (call : Call) (why : Halt) (what : Stop) (silenced : Bool) → (is_silent why ≡ false → GotAll tells mid halted (texts lines)) → (is_silent why ≡ true → GotFront tells mid halted (texts lines)) → (why ≡ halt.Out → Rose mid.faults halted.faults) → mid.faults ≤ halted.faults → SaysStop tells halted new (call, why) (what, silenced) → SaysBy tells mid new (lines ++ stop_lines call why) (said_by (Err what) silenced)
  says_stop mid halted new lines call why what false all some rose le h = all_lines mid halted new lines (stop_lines call why) (all h.0) h.2
  says_stop mid halted new lines call why what true all some rose le (inl h) =
      let front = front_of_more mid halted lines (stop_lines call why) (some h.1) in
      let there = says_quiet mid halted (lines ++ stop_lines call why) why h.1 front rose in
      subst (λ (x : SinkSeen). SaysBy tells mid x (lines ++ stop_lines call why) (said_by (Err what) true)) (sym h.2)
      (subst (λ (w : Stop). SaysBy tells mid halted (lines ++ stop_lines call why) (said_by (Err w) true)) (sym h.0) there)
  says_stop mid halted new lines call why what true all some rose le (inr (k, inl h)) =
      let front = front_stop mid halted new lines call why (is_silent why) refl all some k in
      subst (λ (w : Stop). SaysBy tells mid new (lines ++ stop_lines call why) (said_by (Err w) true)) (sym h.0)
      (says_failed mid new (lines ++ stop_lines call why) why front (rose_later mid.faults halted.faults new.faults le h.1))
  says_stop mid halted new lines call why what true all some rose le (inr (k, inr h)) =
      let front = front_stop mid halted new lines call why (is_silent why) refl all some k in
      subst (λ (w : Stop). SaysBy tells mid new (lines ++ stop_lines call why) (said_by (Err w) true)) (sym h) front

  -- ---- a lone line

  said_texts : (old new : SinkSeen) (line : OutLine) (result : Result Unit PutFault) → Gets tells old new (line_text line ∷ []) result → PutHasCause old.faults new.faults result → SaysBy tells old new (line ∷ []) result
  said_texts old new line (Ok done) h cause = h
  said_texts old new line (Err putting.Failed) h cause = (h, cause)
  said_texts old new line (Err putting.NoMemory) h cause = h

  pub said_one : (old new : SinkSeen) (line asked : OutLine) (result : Result Unit PutFault) → line ≡ asked → Gets tells old new (line_text line ∷ []) result → PutHasCause old.faults new.faults result → SaysBy tells old new (asked ∷ []) result
  said_one old new line asked result e h cause =
      subst (λ (l : OutLine). SaysBy tells old new (l ∷ []) result) e (said_texts old new line result h cause)

  -- memory ran out for it
  pub said_none : (sink : SinkSeen) (lines : List OutLine) → SaysBy tells sink sink lines (Err putting.NoMemory)
  said_none sink lines = front_nothing tells sink (texts lines)
