-- A front of what a desk has seen.
use Rattle.std.proofs.Common.{◌≡◌, ℕ, ◌+◌, ◌≤◌, List, [], ◌∷◌, ◌++◌, length, length-append, arith}
use Rattle.tl_model.specs.Media.{Library}
use Rattle.tl_model.specs.declared.journal.Entry.{Entry}
use Rattle.render_core.specs.State.{State, start, owed}
use Rattle.render_core.specs.Step.{Setup, step, after, AreLegal}
use Rattle.render_core.proofs.Journals.{legal_front}
use Rattle.render_core.proofs.Owed.{owed-step}
use Rattle.edit_desk.specs.Desk.{DeskOf, IsDesk, setup_of}

-- an entry uses up one of those owed at most
owed-after : {F : Type 0} (setup : Setup F) (count : ℕ) (es : List Entry) (s : State) → AreLegal setup count es s → owed s ≤ length es + owed (after setup count es s)
owed-after setup count [] s legal = omega arith
owed-after setup count (e ∷ es) s legal =
    let one = owed-step setup (count + 1) e.pass e.act s legal.0 in
    let rest = owed-after setup (count + 1) es (step setup (count + 1) e.pass e.act s) legal.1 in omega (arith, one, rest)

owed-front : {F : Type 0} (setup : Setup F) (count : ℕ) (es more : List Entry) (s : State) → AreLegal setup count (es ++ more) s
    → length es + owed (after setup count es s) ≤ length (es ++ more) + owed (after setup count (es ++ more) s)
owed-front setup count [] more s legal = let all = owed-after setup count more s legal in omega (arith, all)
owed-front setup count (e ∷ es) more s legal =
    let rest = owed-front setup (count + 1) es more (step setup (count + 1) e.pass e.act s) legal.1 in omega (arith, rest)

pub known_front : {M K F : Type 0} (library : M → Library F) (d : DeskOf M K) (rest : List Entry) → IsDesk library (record d { seen = d.seen ++ rest }) → IsDesk library d
known_front library d rest known = record {
  legal = legal_front (setup_of library d) 0 d.seen rest start known.legal;
  within = let front = owed-front (setup_of library d) 0 d.seen rest start known.legal in let all = known.within in omega (arith, front, all);
  few = known.few;
}
