-- What the calls of a desk add to what its caller has heard.
use Rattle.std.proofs.Common.{◌≡◌, List, [], Result, Ok, Err, refl, sym, ap}
use Rattle.std.proofs.lemmas.List.{append-nil}
use Rattle.tl_model.specs.Media.{Library}
use Rattle.render_core.specs.declared.reply.Full.{Full}
use Rattle.render_core.specs.Calls.{CallOf}
use Rattle.edit_desk.specs.Desk.{FixedOf, DeskOf, ActAs, Answers, Hears, heard}
use Rattle.edit_desk.proofs.Heard.{hears_learns, hears_enters}
use Rattle.play_head.specs.Heard.{Calls}

module _ {M K F : Type 0} (library : M → Library F) where
  pub hears_nothing : (d : DeskOf M K) → Hears library d d []
  hears_nothing d = record { fixed = refl; more = []; seen = sym (append-nil d.seen); heard = sym (append-nil (heard library d)) }

  pub number-hears : (old new : DeskOf M K) (calls : List (CallOf F)) → Hears library old new calls → new.fixed.number ≡ old.fixed.number
  number-hears old new calls h = ap (λ (f : FixedOf M K). f.number) h.fixed

  pub answers_calls : {R : Type 0} (old new : DeskOf M K) (call : ActAs R F) (result : Result R Full) → Answers library old new call result → Calls library old new call result
  answers_calls old new call (Ok given) h = hears_enters library old new call.act (call.view given) h
  answers_calls old new call (Err why) h = (hears_learns library old new h.0, h.1)
