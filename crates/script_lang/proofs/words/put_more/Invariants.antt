use Rattle.std.proofs.Common.{◌≡◌, ◌++◌, ◌∷◌, take, flat_map}
use Rattle.script_lang.specs.Word.{spelled}
use Rattle.script_lang.proofs.words.put_more.Given as goal

abbrev pub invariant-loop-word : goal.invariant-loop-word
invariant-loop-word l = l.into.items ≡ l.fn.into.items ++ flat_map (λ word. 32 ∷ spelled word) (take l.word-index l.words)
