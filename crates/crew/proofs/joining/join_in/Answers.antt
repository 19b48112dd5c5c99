use Rattle.crew.proofs.Joins.{has_joined}
use Rattle.crew.proofs.joining.join_in.Goals as goal

pub returns-clause-has : goal.returns-clause-has
returns-clause-has g c = has_joined g.M.Media.library c.args.studio.now c.args.main.now c.args.pass c.join.new.pass c.join.ensures.joined c.join.ensures.extends.1
