use Rattle.std.proofs.Common.{◌≡◌, ℕ, ◌+◌, ◌<◌, ◌%◌, ◌++◌, ◌∷◌, [], List, length, sym, ap, ◌∙◌, subst, arith}
use Rattle.mkv_write.specs.History.{writing_of}
use Rattle.mkv_write.specs.Keeping.{Keeps}
use Rattle.mkv_write.specs.Writing.{Writing}
use Rattle.mkv_write.proofs.Kept.{keeps_gathered, packets-push}
use Rattle.mkv_write.proofs.writer.MkvWriter.gather.Goals as goal

pub invariant_of-self-2 : goal.invariant_of-self-2
invariant_of-self-2 c =
    let inside = c.self.inside in
    let w : Writing = writing_of inside.history inside.rate in
    let view : length w.packets ≡ length c.args.self.now.packets = ap (λ (x : Writing). length x.packets) c.self.view_is in
    let frames_are : inside.frames ≡ length w.packets = c.self.invariant.frames_are in
    let early : length w.packets % 25 < 24 = omega (arith, c.requires.early) in
    let added = packets-push inside.history.packets.items c.push_reserved.new.self.items c.in_ok-given.given c.args.packet.now (c.push_reserved.ensures.items ∙ ap (λ (x : List _). x ++ c.in_ok-given.given ∷ []) c.in_ok-reserve.ensures.items) c.in_ok-given.ensures.given in
    let block = c.in_ok-given.ensures.ok in
    subst (λ (packets : List (List ℕ)). Keeps (record w { packets = packets }) (inside.frames + 1) inside.place c.put_block.new.out.items inside.cues.items) (sym added)
    (keeps_gathered w inside.frames inside.place inside.gathered.items c.put_block.new.out.items inside.cues.items c.args.packet.now c.self.invariant (omega arith) c.requires.size early (rw (← c.block_time-time.ensures) block))
