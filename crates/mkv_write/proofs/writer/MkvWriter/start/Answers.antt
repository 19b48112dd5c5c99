use Rattle.std.proofs.Common.{◌≡◌, ℕ, ◌++◌, [], List, length, map, sym, ap, ◌∙◌, subst, arith}
use Rattle.mkv_write.specs.File.{ebml_header, segment_head, lead}
use Rattle.mkv_write.specs.History.{packet_of, writing_of}
use Rattle.mkv_write.specs.Writing.{Writing, nothing_yet, put_of, IsPrefix}
use Rattle.mkv_write.proofs.Files.{put_of-nothing, puts_err}
use Rattle.mkv_write.proofs.Kept.{keeps_nothing}
use Rattle.mkv_write.proofs.writer.MkvWriter.start.Goals as goal

-- an empty file
nothing-prefix : (held whole : List ℕ) → held ≡ [] → IsPrefix held whole
nothing-prefix held whole e = (whole, ap (λ (x : List ℕ). x ++ whole) (sym e))

-- what is held with the head
held_then : (private : List ℕ) (width height rate : ℕ) (held first second : List ℕ) → held ≡ [] → first ≡ ebml_header ++ segment_head → second ≡ lead private width height → held ++ (first ++ second) ≡ put_of (nothing_yet private width height rate)
held_then private width height rate held first second held-is first-is second-is =
    ap (λ (x : List ℕ). x ++ (first ++ second)) held-is ∙ ap (λ (x : List ℕ). x ++ second) first-is ∙ ap (λ (x : List ℕ). (ebml_header ++ segment_head) ++ x) second-is ∙ put_of-nothing private width height rate

pub returns-in_err-history-clause-put : goal.returns-in_err-history-clause-put
returns-in_err-history-clause-put g c =
    puts_err _ _ _ _ c.from_residual.ensures.0 (λ t. nothing-prefix _ _ (c.requires.empty t))

pub returns-in_err-preamble-clause-put : goal.returns-in_err-preamble-clause-put
returns-in_err-preamble-clause-put g c =
    puts_err _ _ _ _ c.from_residual-in_err-preamble.ensures.0 (λ t. nothing-prefix _ _ (c.requires.empty t))

pub returns-in_err-lead-clause-put : goal.returns-in_err-lead-clause-put
returns-in_err-lead-clause-put g c =
    puts_err _ _ _ _ c.from_residual-in_err-lead.ensures.0 (λ t. nothing-prefix _ _ (c.requires.empty t))

pub returns-in_err-put_both-clause-put : goal.returns-in_err-put_both-clause-put
returns-in_err-put_both-clause-put g c =
    puts_err _ _ _ _ c.from_residual-in_err-put_both.ensures.0
    (λ t. subst (λ (x : List ℕ). IsPrefix (g.V.Vault.seen c.put_both.new.vault).held x) (held_then c.args.private.now c.args.width c.args.height c.args.rate _ _ _ (c.requires.empty t) (c.deref.ensures.value ∙ c.in_ok-preamble.ensures) (c.deref-2.ensures.value ∙ c.in_ok-lead.ensures)) (c.in_err-put_both.ensures.put t))

pub invariant_of-result : goal.invariant_of-result
invariant_of-result g c =
    let w : Writing = nothing_yet c.args.private.now c.args.width c.args.height c.args.rate in
    let made = c.in_ok-history.ensures in
    let none_given : map packet_of c.in_ok-history.history.packets.items ≡ [] = ap (map packet_of) made.packets in
    let is : writing_of c.in_ok-history.history c.args.rate ≡ w = rw (made.private, made.width, made.height, none_given) in
    let lead_bytes = c.in_ok-lead.lead in
    let place : c.len.result ≡ length (lead c.args.private.now c.args.width c.args.height) = omega (arith, lead_bytes.ok.0, c.len.ensures, ap length c.in_ok-lead.ensures) in
    rw (is, c.new-2.ensures.items, c.new-3.ensures.items) (keeps_nothing c.args.private.now c.args.width c.args.height c.args.rate c.len.result c.requires.rate.0 c.requires.rate.1 c.requires.private.1 place)

pub returns-clause-put : goal.returns-clause-put
returns-clause-put g c =
    λ t. c.in_ok-put_both.ensures.put t ∙ held_then c.args.private.now c.args.width c.args.height c.args.rate _ _ _ (c.requires.empty t) (c.deref.ensures.value ∙ c.in_ok-preamble.ensures) (c.deref-2.ensures.value ∙ c.in_ok-lead.ensures)
