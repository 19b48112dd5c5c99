use Rattle.tl_ports.proofs.folder_store.read_file.Goals as goal

pub returns-in-Err-clause-over : goal.returns-in-Err-clause-over
returns-in-Err-clause-over g c = c.fault_of.ensures.over c.args.limit
