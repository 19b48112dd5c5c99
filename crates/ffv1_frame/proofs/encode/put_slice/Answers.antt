-- The slice begins behind what was put before.
use Rattle.std.proofs.Common.{◌≡◌, ℕ, List, ◌++◌, length, refl, sym, ◌∙◌, ap}
use Rattle.ffv1_frame.proofs.Packets.{plain_slice, checked_slice}
use Rattle.ffv1_frame.proofs.encode.put_slice.Goals as goal

pub returns-in_ok-extend_from_slice-3 : goal.returns-in_ok-extend_from_slice-3
returns-in_ok-extend_from_slice-3 c =
    let at : c.len-start.result ≡ length c.args.packet.now.items = c.len-start.ensures ∙ c.args.packet.now.ok.0 in
    let put = c.in_ok-extend_from_slice-3.ensures.items ∙ ap (λ (l : List ℕ). l ++ c.parity_bytes-parity.result) (sym c.deref.ensures.value) in
    checked_slice c.args.ec c.args.packet.now.items c.args.content.now c.size_bytes.result c.parity_bytes-parity.result c.extend_from_slice.new.self.items c.extend_from_slice-2.new.self.items c.deref.result.now
    c.extend_from_slice-then-ec.new.self.items c.len-start.result (length c.deref.result.now) c.if-ec.true at c.in_ok-extend_from_slice.ensures.items c.size_bytes.ensures c.in_ok-extend_from_slice-2.ensures.items
    (c.deref.ensures.value ∙ c.in_ok-push.ensures.items) refl c.parity_bytes-parity.ensures put

pub returns-else-ec : goal.returns-else-ec
returns-else-ec c =
    plain_slice c.args.ec c.args.packet.now.items c.args.content.now c.size_bytes.result c.extend_from_slice.new.self.items c.extend_from_slice-2.new.self.items
    c.if-ec.false c.in_ok-extend_from_slice.ensures.items c.size_bytes.ensures c.in_ok-extend_from_slice-2.ensures.items
