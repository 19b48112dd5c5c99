use Rattle.std.proofs.Common.{◌≡◌, map, take, length, not, nat_eq, filter}
use Rattle.text_words.proofs.blanks.words.Given as goal

abbrev pub invariant-loop-piece : goal.invariant-loop-piece
invariant-loop-piece l =
    map (λ word. word.now) l.words.items ≡ filter (λ word. not (nat_eq (length word) 0)) (map (λ piece. piece.now) (take l.piece-index l.piece-items))
