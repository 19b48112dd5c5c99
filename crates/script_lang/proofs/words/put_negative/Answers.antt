use Rattle.std.proofs.Common.{Result, Ok, Err}
use Rattle.std.specs.Result.{OnErr}
use Rattle.script_lang.proofs.Spelling.{extends_one}
use Rattle.script_lang.proofs.words.put_negative.Goals as goal

on_err : {T E : Type 0} (P : Type 0) (result : Result T E) → P → OnErr result P
on_err P (Ok x) fact = tt
on_err P (Err e) fact = fact

pub returns-in_err-put_number-clause-err : goal.returns-in_err-put_number-clause-err
returns-in_err-put_number-clause-err c =
    on_err _ _ (extends_one c.args.into.now.items c.push.new.self.items c.put_number.new.out.items 45 c.in_ok-push.ensures.items
    c.in_err-put_number.ensures.err)
