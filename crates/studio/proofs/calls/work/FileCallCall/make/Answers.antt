use Rattle.edit_desk.proofs.Calls.{files}
use Rattle.studio.proofs.Gains.{file_grows, still_held}
use Rattle.studio.proofs.calls.work.FileCallCall.make.Goals as goal

pub returns-clause-told : goal.returns-clause-told
returns-clause-told g c = λ kept. (
  files g.M.Media.library c.args.by kept c.args.board.now c.file.new.self c.args.self.claim c.args.self.rendered c.file.result c.file.ensures.done,
  still_held g.M.Media.library c.args.board.now c.file.new.self c.args.by c.args.self.claim c.args.self.rendered c.file.result c.file.ensures.done c.requires.asks.1.0,
)

pub returns-clause-grows : goal.returns-clause-grows
returns-clause-grows g c =
    file_grows g.M.Media.library c.args.board.now c.file.new.self c.args.by c.args.self.claim c.args.self.rendered c.file.result c.file.ensures.done
