use Rattle.std.proofs.Common.{◌≡◌, ◌+◌, length, take, ap, ◌∙◌, rules}
use Rattle.std.proofs.lemmas.List.{with_items_is, places, drop-take}
use Rattle.tl_ports.proofs.stream.read_piece.Goals as goal

pub returns-clause-bytes : goal.returns-clause-bytes
returns-clause-bytes g c =
    let at = c.len-len.result in
    let count = c.in_ok-count.count in
    let buffer = c.read_at.new.buffer in
    let start : length c.args.into.now.items ≡ at = search (rules, places) in
    let kept : c.truncate.new.self.items ≡ take (at + count) buffer =
    c.truncate.ensures.items ∙ ap (take (at + count)) (with_items_is c.make_room.new.into buffer (search (rules, places))) in
    rw (start, kept, drop-take at count buffer) c.in_ok-count.ensures.bytes
