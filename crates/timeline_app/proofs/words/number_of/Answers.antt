use Rattle.std.proofs.Common.{◌∙◌, refl, rules, arith}
use Rattle.clap.proofs.WalkLemmas.{one_text-rows}
use Rattle.clap.specs.Words.{found_of}
use Rattle.timeline_app.proofs.words.number_of.Goals as goal

pub returns-in-None : goal.returns-in-None
returns-in-None c =
    let rows = one_text-rows (found_of c.args.matches.now) c.args.id.now in
    record {
      usual = λ given. refl;
      read = λ text given within. absurd ((c.in-None.ensures.value text (rows ∙ given)).1.0 (within.0, within.1));
      least = c.requires.least;
      most = c.requires.most;
    }

pub returns-in-Some : goal.returns-in-Some
returns-in-Some c =
    let rows = one_text-rows (found_of c.args.matches.now) c.args.id.now in
    record {
      usual = λ given. let gone = c.in-Some.ensures.none (rows ∙ given) in absurd (search rules);
      read = λ text given within.
          let parsed = (c.in-Some.ensures.value text (rows ∙ given)).0.1 in
          c.within.ensures.same (omega (arith, parsed, within.2)) (omega (arith, parsed, within.2)) ∙ parsed;
      least = c.within.ensures.least;
      most = c.within.ensures.most;
    }
