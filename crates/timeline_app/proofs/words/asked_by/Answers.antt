use Rattle.std.proofs.Common.{◌∙◌, ap, sym}
use Rattle.std.specs.Prelude.{codes, option_map}
use Rattle.clap.proofs.WalkLemmas.{first_value-rows}
use Rattle.clap.specs.Words.{found_of}
use Rattle.timeline_app.specs.Words.{is_named}
use Rattle.timeline_app.proofs.words.asked_by.Goals as goal

pub returns-in_default : goal.returns-in_default
returns-in_default c =
    let rows = first_value-rows (found_of c.args.matches.now) (codes "SCRIPT") in
    ap is_named (sym rows ∙ (sym c.get_str.ensures ∙ ap (option_map (λ s. s.now)) c.in_default.is))

pub returns-then-not-is_name : goal.returns-then-not-is_name
returns-then-not-is_name c =
    let rows = first_value-rows (found_of c.args.matches.now) (codes "SCRIPT") in
    ap is_named (sym rows ∙ sym c.in-Some.ensures) ∙ (sym c.is_name.ensures ∙ c.if-not-is_name.true)

pub returns : goal.returns
returns c =
    let rows = first_value-rows (found_of c.args.matches.now) (codes "SCRIPT") in
    let given = sym rows ∙ sym c.in-Some.ensures in (
      ap is_named given ∙ (sym c.is_name.ensures ∙ c.if-not-is_name.false),
      record {
        script = given;
        workers = c.number_of.ensures;
        cache = c.number_of-2.ensures;
        journal = c.number_of-3.ensures;
      },
    )
