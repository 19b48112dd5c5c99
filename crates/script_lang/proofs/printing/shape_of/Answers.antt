use Rattle.script_lang.proofs.Spelling.{record_line}
use Rattle.script_lang.proofs.printing.shape_of.Goals as goal

pub returns-in-FaultRecord : goal.returns-in-FaultRecord
returns-in-FaultRecord c =
    record_line _ _ _ _ _ c.in-FaultRecord.is c.number-in-FaultRecord.ensures c.name-in-FaultRecord.ensures
