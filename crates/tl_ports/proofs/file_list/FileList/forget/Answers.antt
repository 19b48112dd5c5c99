use Rattle.std.proofs.Common.{sym}
use Rattle.tl_ports.proofs.FileLemmas.{file_in-remove}
use Rattle.tl_ports.proofs.file_list.FileList.forget.Goals as goal

pub returns-in-Some-clause-others : goal.returns-in-Some-clause-others
returns-in-Some-clause-others c = λ other differ.
    rw c.remove.ensures.items (file_in-remove c.args.self.now.files.items c.in-Some.place c.remove.result c.args.name.now other (sym c.in-Some.ensures) differ)
