use Rattle.play_head.proofs.body.play_body.Goals as goal

pub returns : goal.returns
returns g c = (c.play_script.result.is_silenced, c.play_script.ensures)
