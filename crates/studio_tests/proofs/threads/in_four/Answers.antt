use mathlib.Core.List.{[], ◌∷◌}
use denote.Exit.{no}
use denote.Param.{param}
use denote.Param.Send.{param_send, arg_send}
use denote.Struct.Tuple.{TupleAt, tuple_name}
use Rattle.std.proofs.Crossing.{Vec-send}
use Rattle.std.specs.contracts.alloc.Global as global
use Rattle.std.specs.contracts.vec.Vec as vec
use Rattle.std.specs.contracts.impls.GlobalAllocator.TheImpl.{ghosts}
use Rattle.studio_tests.specs.contracts.caller.Made as made
use Rattle.studio_tests.proofs.caller.Made.TheSendSync as made_of
use Rattle.studio_tests.proofs.Crossing.{captures_send, one_pass, two_send, pass_row, called_row, called_send}
use Rattle.studio_tests.proofs.threads.in_four.Goals as goal

pub join-requires-send-F : goal.join-requires-send-F
join-requires-send-F g c κs within =
    let b = c.type_bounds in
    let M = param 1 g.row.M in
    let L = param 2 g.row.L in
    let P = pass_row M L g.M.Media g.L.Lane in
    let one = one_pass M L g.M.Media g.L.Lane b.send-L in
    param_send 1 _ (arg_send _ no _ (captures_send M L g.M.Media g.L.Lane b.send-L _ (param 0 g.row.R) (TupleAt (tuple_name 2) (P ∷ P ∷ []))
    _ _ _ _ _ _ b.sync-R b.sync-M (two_send (tuple_name 2) P P one one)))

pub join-requires-send-A : goal.join-requires-send-A
join-requires-send-A g c κs within =
    let M = param 1 g.row.M in
    let L = param 2 g.row.L in
    let calls = vec.the_row made.the_row global.the_row ghosts in
    let C = called_row M L g.M.Media g.L.Lane calls in
    let one = called_send M L g.M.Media g.L.Lane c.type_bounds.send-L calls (Vec-send made.the_row made_of.the_send) in
    param_send 3 _ (arg_send _ no _ (two_send (tuple_name 2) C C one one))
