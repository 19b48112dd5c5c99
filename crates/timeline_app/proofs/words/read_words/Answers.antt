use Rattle.std.proofs.Common.{◌≡◌, refl, sym, subst, true, List, []}
use Rattle.std.specs.Prelude.{Option, Some, None}
use Rattle.clap.specs.Words.{App, Row, Text, fault_of, matches_of, is_simple, is_simple_and_free}
use Rattle.timeline_app.specs.declared.words.Asked.{Asked}
use Rattle.timeline_app.specs.Words.{command, AsksBy, AsksWords}
use Rattle.timeline_app.proofs.words.read_words.Goals as goal

asked_of : (words : List Text) (rows : List Row) (asked : Option Asked)
    → fault_of command words ≡ [] → rows ≡ matches_of command words → AsksBy rows asked → AsksWords words asked
asked_of words rows None fit is asks = rw (fit, ← is) asks
asked_of words rows (Some asked) fit is asks = rw (fit, ← is) asks

simple : (app : App) → app ≡ command → is_simple app ≡ true
simple app is = subst (λ (a : App). is_simple a ≡ true) (sym is) refl

free : (app : App) → app ≡ command → is_simple_and_free app ≡ true
free app is = subst (λ (a : App). is_simple_and_free a ≡ true) (sym is) refl

faultless : (app : App) (words : List Text) → app ≡ command → fault_of app words ≡ [] → fault_of command words ≡ []
faultless app words is none = subst (λ (a : App). fault_of a words ≡ []) is none

matched : (app : App) (words : List Text) (rows : List Row) → app ≡ command → rows ≡ matches_of app words → rows ≡ matches_of command words
matched app words rows is same = subst (λ (a : App). rows ≡ matches_of a words) is same

pub returns-in-Ok : goal.returns-in-Ok
returns-in-Ok c =
    let is = c.in_ok-command.ensures in
    let fit = faultless _ _ is (c.in-Ok.ensures.kinds (free _ is)) in
    let rows = matched _ _ _ is ((c.in-Ok.ensures.matches (simple _ is)).0) in
    asked_of _ _ c.asked_by.result fit rows c.asked_by.ensures
