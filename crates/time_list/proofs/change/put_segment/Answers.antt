use Rattle.std.proofs.Common.{◌≡◌, ◌∷◌, [], refl, arith}
use Rattle.std.proofs.lemmas.Grind.{common_steps}
use Rattle.time_list.proofs.Changed.{segment_is}
use Rattle.time_list.proofs.change.put_segment.Goals as goal

pub returns : goal.returns
returns c =
    let put : c.push.new.self.items ≡ c.args.new ∷ [] = grind (arith, common_steps) in
    segment_is c.args.items.now c.args.cut c.args.new _ c.requires.start c.requires.within c.requires.new refl refl refl put
