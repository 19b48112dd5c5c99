use denote.Exit.{no}
use denote.Param.Send.{param_send, arg_send}
use Rattle.crew.proofs.Crossing.{seat_send, left_send}
use Rattle.crew.proofs.session.man.Goals as goal

pub run_crew-requires-send-S : goal.run_crew-requires-send-S
run_crew-requires-send-S g c κs within =
    let b = c.type_bounds in
    param_send 1 _ (arg_send _ no _ (seat_send g.M.Media g.L.Lane b.sync-R b.sync-M b.send-L b.send-E b.send-M-Frame b.sync-M-Frame b.send-E-Answer _))

pub run_crew-requires-send-T : goal.run_crew-requires-send-T
run_crew-requires-send-T g c κs within =
    let b = c.type_bounds in
    param_send 2 _ (arg_send _ no _ (seat_send g.M.Media g.L.Lane b.sync-R b.sync-M b.send-L b.send-W b.send-M-Frame b.sync-M-Frame b.send-W-Answer _))

pub run_crew-requires-send-A : goal.run_crew-requires-send-A
run_crew-requires-send-A g c κs within =
    let b = c.type_bounds in
    param_send 4 _ (arg_send _ no _ (left_send g.M.Media g.L.Lane b.sync-R b.sync-M b.send-L b.send-E b.send-M-Frame b.sync-M-Frame b.send-E-Answer _))

pub run_crew-requires-send-B : goal.run_crew-requires-send-B
run_crew-requires-send-B g c κs within =
    let b = c.type_bounds in
    param_send 5 _ (arg_send _ no _ (left_send g.M.Media g.L.Lane b.sync-R b.sync-M b.send-L b.send-W b.send-M-Frame b.sync-M-Frame b.send-W-Answer _))
