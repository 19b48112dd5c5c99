use Rattle.script_lang.proofs.Again.{read_is_line, read_is_back}
use Rattle.script_lang.proofs.reading.read_line.Goals as goal

pub returns-clause-line : goal.returns-clause-line
returns-clause-line c = read_is_line c.args.text.now c.in_ok-read.read c.in_ok-read.ensures

pub returns-clause-back : goal.returns-clause-back
returns-clause-back c = λ line f s e. read_is_back c.args.text.now c.in_ok-read.read c.in_ok-read.ensures line f s e
