use Rattle.std.proofs.Common.{◌≡◌, ◌∙◌, ap, sym, map, arith, rules}
use Rattle.edl_text.specs.Row.{said}
use Rattle.edl_text.specs.List.{title_of, name_of, events_from}
use Rattle.edl_text.specs.Names.{names_in}
use Rattle.edl_text.specs.declared.row.Side.TheVariants as sides
use Rattle.edl_text.proofs.Rows.{edl_of_rows}
use Rattle.edl_text.proofs.TimedList.{timed_if_read}
use Rattle.edl_text.proofs.reading.read_edl.Goals as goal

pub returns : goal.returns
returns c =
    let read =
    edl_of_rows c.args.rate c.args.text.now (map said c.in_ok-rows.rows.items) (names_in c.in_ok-names.names) _ _ c.in_ok-rows.ensures.exact
    (c.in_ok-title.ensures ∙ c.title_of.ensures ∙ ap (λ xs. title_of (map said xs)) c.deref.ensures.value)
    (λ q. c.in_ok-names.ensures.from q ∙ ap (λ xs. name_of sides.From (map said xs) q) c.deref-2.ensures.value)
    (λ q. c.in_ok-names.ensures.to q ∙ ap (λ xs. name_of sides.To (map said xs) q) c.deref-2.ensures.value)
    (c.from_vec-events.ensures ∙ c.in_ok-events_of.ensures ∙ ap (λ xs. events_from (names_in c.in_ok-names.names) 1 (map said xs)) c.deref-3.ensures.value) in
    record { exact = read; timed = timed_if_read c.args.rate c.args.text.now _ c.requires.rate read }
