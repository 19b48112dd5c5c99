use Rattle.std.specs.Prelude.{Ok}
use Rattle.std.proofs.Common.{◌≡◌, length, take}
use Rattle.tl_ports.specs.Outside.{KeepsBegun}
use Rattle.tl_model.specs.Cells.{cells, recipes}
use Rattle.smart_export.specs.Puts.{frames_on, PutsFrames}
use Rattle.smart_export.proofs.sequence.put_segments.Given as goal

abbrev pub invariant-loop-segment : goal.invariant-loop-segment
invariant-loop-segment g l =
    let V = g.V.Vault in
    record {
      put : PutsFrames V.tells (V.seen l.vault).held (frames_on (g.M.Media.library l.media) (recipes (cells (take l.segment-index l.segments))) l.fn.writer) l.writer (Ok tt);
      place : l.place ≡ length l.writer.packets;
      kept : KeepsBegun V.tells (V.seen l.fn.vault) (V.seen l.vault);
      calm : (V.seen l.vault).faults ≡ (V.seen l.fn.vault).faults;
    }
