use Rattle.ffv1_range.proofs.Symbols.{ok_spelled, err_too_long}
use Rattle.ffv1_range.proofs.reader.RangeReader.symbol.Goals as goal

pub returns-clause-ok : goal.returns-clause-ok
returns-clause-ok c = ok_spelled _ _ c.args.signed c.symbol_or_none.result _ c.ok_or.result c.ok_or.ensures.value c.symbol_or_none.ensures.symbol

pub returns-clause-err : goal.returns-clause-err
returns-clause-err c = err_too_long _ _ c.args.signed c.symbol_or_none.result _ c.ok_or.result c.ok_or.ensures.value c.symbol_or_none.ensures.symbol
