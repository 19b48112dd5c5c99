-- What a sink got first, whatever came after it.
use Rattle.std.proofs.Common.{◌≡◌, Bool, ℕ, List, [], ◌++◌, Option, Some, None, Result, Ok, Err, sym, ap, subst, ◌∙◌}
use Rattle.std.specs.Prelude.{IsTrue}
use Rattle.std.proofs.lemmas.List.{append-nil, append_assoc}
use Rattle.tl_ports.specs.declared.fault.PutFault.{PutFault}
use Rattle.tl_ports.specs.declared.fault.PutFault.TheVariants as putting
use Rattle.tl_ports.specs.Seen.{SinkSeen}
use Rattle.script_lang.specs.declared.out_line.OutLine.{OutLine}
use Rattle.play_head.specs.declared.halt.Halt.{Halt}
use Rattle.play_head.specs.declared.halt.Halt.TheVariants as halt
use Rattle.play_head.specs.PlayingLine.{texts}
use Rattle.play_head.specs.Putting.{GotAll, GotFront}
use Rattle.timeline_app.specs.Course.{GotFirst, SaysBy, SaysRest, ShowsBy}

-- A sink that tells its bytes lost none.
abbrev pub GotMore : Bool → (old new : SinkSeen) → Type 0
GotMore tells old new = IsTrue tells → (more : List (List ℕ)) × (new.pieces ≡ old.pieces ++ more)

module _ (tells : Bool) where
  -- all pieces, and nothing after them
  pub first_alone : (old new : SinkSeen) (pieces : List (List ℕ)) → GotAll tells old new pieces → GotFirst tells old new pieces
  first_alone old new pieces h = λ t. ([], h t ∙ sym (append-nil (old.pieces ++ pieces)))

  -- and then more
  pub first_then : (old mid new : SinkSeen) (pieces : List (List ℕ)) → GotFirst tells old mid pieces → GotMore tells mid new → GotFirst tells old new pieces
  first_then old mid new pieces h k = λ t. (let some = h t in let more = k t in (
    some.0 ++ more.0,
    more.1 ∙ ap (λ (ps : List (List ℕ)). ps ++ more.0) some.1 ∙ append_assoc (old.pieces ++ pieces) some.0 more.0,
  ))

  -- ---- what was put adds to it

  more_all : (old new : SinkSeen) (pieces : List (List ℕ)) → GotAll tells old new pieces → GotMore tells old new
  more_all old new pieces h = λ t. (pieces, h t)

  more_front : (old new : SinkSeen) (pieces : List (List ℕ)) → GotFront tells old new pieces → GotMore tells old new
  more_front old new pieces h = λ t. (let got = h t in (got.0, got.1))

  more_none : (sink : SinkSeen) → GotMore tells sink sink
  more_none sink = λ t. ([], sym (append-nil sink.pieces))

  pub more_says : (old new : SinkSeen) (lines : List OutLine) (said : Result Unit PutFault) → SaysBy tells old new lines said → GotMore tells old new
  more_says old new lines (Ok done) h = more_all old new (texts lines) h
  more_says old new lines (Err putting.Failed) h = more_front old new (texts lines) h.0
  more_says old new lines (Err putting.NoMemory) h = more_front old new (texts lines) h

  pub more_rest : (old new : SinkSeen) (lines : List OutLine) (one said : Result Unit PutFault) → SaysRest tells old new lines (one, said) → GotMore tells old new
  more_rest old new lines (Ok done) said h = more_says old new lines said h
  more_rest old new lines (Err fault) said h = subst (λ (x : SinkSeen). GotMore tells old x) (sym h.1) (more_none old)

  pub more_shows : (old new : SinkSeen) (rows : List (List ℕ)) (why : Option Halt) → ShowsBy tells old new rows why → GotMore tells old new
  more_shows old new rows None h = more_all old new rows h
  more_shows old new rows (Some (halt.Store fault)) h = more_all old new rows h
  more_shows old new rows (Some halt.Screen) h = more_front old new rows h.0
  more_shows old new rows (Some halt.Out) h = more_front old new rows h
  more_shows old new rows (Some halt.NoMemory) h = more_front old new rows h
  more_shows old new rows (Some halt.OutMemory) h = more_front old new rows h
  more_shows old new rows (Some (halt.JournalFull len owing)) h = more_all old new rows h
