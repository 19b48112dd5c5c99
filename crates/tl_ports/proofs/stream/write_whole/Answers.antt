use Rattle.std.proofs.Common.{◌≡◌, ℕ, ◌-◌, List, ◌++◌, length, take, drop, Bor, sym, ap, ◌∙◌, append_assoc, take-append-drop}
use Rattle.std.proofs.lemmas.List.{take_rest}
use Rattle.std.proofs.KnownBytes.{Appends-trans, Appends-kept}
use Rattle.tl_ports.proofs.stream.write_whole.Goals as goal
use Rattle.tl_ports.proofs.stream.write_whole.Goals.{in-Ok, in-Err+else-not-is_interrupted}

moved : (all front rest after : List ℕ) (n : ℕ) → all ≡ front ++ rest → after ≡ take (length rest - n) (drop n rest) → all ≡ (front ++ take n rest) ++ after
moved all front rest after n split is =
    split ∙ ap (λ l. front ++ l) (sym (take-append-drop n rest)) ∙ sym (append_assoc front (take n rest) (drop n rest)) ∙ ap (λ l. (front ++ take n rest) ++ l) (sym (is ∙ take_rest rest n))

pub loop-preserved : goal.loop-preserved
loop-preserved g c =
    let (front, split, appended) = c.loop.invariant in
    let now : Bor (List ℕ) → List ℕ = λ part. part.now in
    elim c.match-write.branch [
      | in-Ok w ↦ (front ++ take w.in-Ok.count c.loop.rest.now, moved _ front c.loop.rest.now _ w.in-Ok.count split (ap now w.rest-is), Appends-trans _ _ _ _ _ appended w.in-Ok.ensures.bytes)
      | in-Err+else-not-is_interrupted w ↦ (front, split ∙ ap (λ l. front ++ l) (sym (ap now w.rest-is)), Appends-kept _ _ _ _ appended w.in-Err.ensures.bytes)
    ]
