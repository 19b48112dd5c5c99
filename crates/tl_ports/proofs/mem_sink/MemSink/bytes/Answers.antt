use Rattle.std.proofs.Common.{sym, ◌∙◌}
use Rattle.tl_ports.proofs.PieceLemmas.{concat-cut}
use Rattle.tl_ports.proofs.mem_sink.MemSink.bytes.Goals as goal

pub returns : goal.returns
returns c = c.as_slice.ensures.value ∙ sym (concat-cut c.args.self.now.bytes.items c.args.self.now.lens.items c.args.self.now.whole)
