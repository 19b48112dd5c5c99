-- Each event of a list that was read has its numbers below their bounds.
use Rattle.std.proofs.Common.{◌≡◌, ℕ, ◌+◌, List, [], ◌∷◌, All, Result, Ok, Err, IfOk, subst}
use Rattle.std.specs.Str.Lines.{lines}
use Rattle.std.proofs.lemmas.List.Elements.{All-nil, All-cons, All-head, All-tail}
use Rattle.tl_limits.specs.Limits.{IsRate}
use Rattle.edl_text.specs.declared.event.Edl.{Edl}
use Rattle.edl_text.specs.declared.fault.EdlFault.{EdlFault}
use Rattle.edl_text.specs.declared.fault.EdlWhy.{EdlWhy}
use Rattle.edl_text.specs.declared.row.Edit.{Edit}
use Rattle.edl_text.specs.Row.{Said, Passed, Title, From, To, Other, Video}
use Rattle.edl_text.specs.Line.{row_of}
use Rattle.edl_text.specs.List.{◌>>=◌, at_line, said_from, title_of, names_of, Names, event, events_from, edl}
use Rattle.edl_text.specs.Timed.{IsTimed}
use Rattle.edl_text.proofs.TimedLine.{IsTimedEdit, IsTimedRow, line_timed}

rows_more : (n : ℕ) (first : Result Said EdlWhy) (rest : Result (List Said) EdlFault) → IfOk first IsTimedRow → IfOk rest (All IsTimedRow)
    → IfOk (at_line n first >>= λ row. rest >>= λ rows. Ok (row ∷ rows)) (All IsTimedRow)
rows_more n (Err e) rest f r = tt
rows_more n (Ok row) (Err e) f r = tt
rows_more n (Ok row) (Ok rows) f r = All-cons IsTimedRow row rows f r

rows_timed : (rate n : ℕ) (ls : List (List ℕ)) → IsRate rate → IfOk (said_from rate n ls) (All IsTimedRow)
unfolding said_from
rows_timed rate n [] bounds = All-nil IsTimedRow
rows_timed rate n (line ∷ more) bounds =
    rows_more n (row_of rate line) (said_from rate (n + 1) more) (line_timed rate line bounds) (rows_timed rate (n + 1) more bounds)

one_timed : (names : Names) (n number : ℕ) (reel : List ℕ) (edit : Edit) → IsTimedEdit edit → IsTimed (event names n number reel edit)
one_timed names n number reel edit s = record {
  duration = s.duration;
  source_in = s.times.source_in;
  source_out = s.times.source_out;
  record_in = s.times.record_in;
  record_out = s.times.record_out;
}

events_timed : (names : Names) (n : ℕ) (rows : List Said) → All IsTimedRow rows → All IsTimed (events_from names n rows)
unfolding events_from
events_timed names n [] s = All-nil IsTimed
events_timed names n (Video number reel edit ∷ rows) s =
    All-cons IsTimed (event names n number reel edit) (events_from names (n + 1) rows)
    (one_timed names n number reel edit (All-head IsTimedRow (Video number reel edit) rows s))
    (events_timed names (n + 1) rows (All-tail IsTimedRow (Video number reel edit) rows s))
events_timed names n (Passed ∷ rows) s = events_timed names (n + 1) rows (All-tail IsTimedRow Passed rows s)
events_timed names n (Title text ∷ rows) s = events_timed names (n + 1) rows (All-tail IsTimedRow (Title text) rows s)
events_timed names n (From text ∷ rows) s = events_timed names (n + 1) rows (All-tail IsTimedRow (From text) rows s)
events_timed names n (To text ∷ rows) s = events_timed names (n + 1) rows (All-tail IsTimedRow (To text) rows s)
events_timed names n (Other number ∷ rows) s = events_timed names (n + 1) rows (All-tail IsTimedRow (Other number) rows s)

said_timed : (said : Result (List Said) EdlFault) → IfOk said (All IsTimedRow)
    → IfOk {T = Edl} (said >>= λ rows. Ok (record { title = title_of rows; events = events_from (names_of rows) 1 rows }))
    (λ list. All IsTimed list.events)
said_timed (Err e) s = tt
said_timed (Ok rows) s = events_timed (names_of rows) 1 rows s

pub list_timed : (rate : ℕ) (text : List ℕ) → IsRate rate → IfOk (edl rate text) (λ list. All IsTimed list.events)
unfolding edl
list_timed rate text bounds = said_timed (said_from rate 1 (lines text)) (rows_timed rate 1 (lines text) bounds)

-- what a reader answers
pub timed_if_read : (rate : ℕ) (text : List ℕ) (list : Edl) → IsRate rate → edl rate text ≡ Ok list → All IsTimed list.events
timed_if_read rate text list bounds read = subst (λ (x : Result Edl EdlFault). IfOk x (λ l. All IsTimed l.events)) read (list_timed rate text bounds)
