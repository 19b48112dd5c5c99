use Rattle.std.proofs.Common.{Result, Ok, Err}
use Rattle.std.specs.Result.{OnErr}
use Rattle.script_lang.proofs.Spelling.{extends_after}
use Rattle.script_lang.proofs.words.put_more.Goals as goal

on_err : {T E : Type 0} (P : Type 0) (result : Result T E) → P → OnErr result P
on_err P (Ok x) fact = tt
on_err P (Err e) fact = fact

pub returns-in_err-put_word-clause-err : goal.returns-in_err-put_word-clause-err
returns-in_err-put_word-clause-err c =
    on_err _ _ (extends_after c.args.into.now.items c.loop-word.into.items
    c.push.new.self.items c.put_word.new.into.items _ c.loop-word.invariant c.in_ok-push.ensures.items c.in_err-put_word.ensures.err)
