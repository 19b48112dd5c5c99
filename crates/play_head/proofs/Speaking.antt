-- Calls and their lines.
use Rattle.std.proofs.Common.{◌≡◌, ℕ, Bool, Result, Ok, Err, refl, sym, subst}
use Rattle.std.specs.Prelude.{IsTrue}
use Rattle.tl_model.specs.Media.{Library}
use Rattle.tl_model.specs.declared.edit.EditRefusal.TheVariants as refusal
use Rattle.tl_model.specs.declared.edit.EditReply.{EditReply}
use Rattle.tl_model.specs.declared.edit.EditReply.TheVariants as answer
use Rattle.tl_model.specs.declared.journal.Act.{Act}
use Rattle.tl_ports.specs.Seen.{SinkSeen}
use Rattle.render_core.specs.Board.{of_want, of_cancel, of_ask}
use Rattle.render_core.specs.declared.reply.Full.{Full}
use Rattle.render_core.specs.declared.reply.Full.TheVariants as full
use Rattle.render_core.specs.declared.reply.WantReply.{WantReply}
use Rattle.render_core.specs.declared.reply.WantReply.TheVariants as want
use Rattle.render_core.specs.declared.reply.CancelReply.{CancelReply}
use Rattle.render_core.specs.declared.reply.CancelReply.TheVariants as cancel
use Rattle.render_core.specs.declared.reply.AskReply.{AskReply}
use Rattle.render_core.specs.declared.reply.AskReply.TheVariants as ask
use Rattle.render_core.specs.Step.{Reply, need}
use Rattle.edit_desk.specs.Desk.{DeskOf, state_of}
use Rattle.script_lang.specs.declared.out_line.OutLine.{OutLine}
use Rattle.script_lang.specs.Line.{fields, is_listed}
use Rattle.play_head.specs.declared.halt.Halt.{Halt}
use Rattle.play_head.specs.declared.halt.Halt.TheVariants as halt
use Rattle.play_head.specs.Heard.{Refused}
use Rattle.play_head.specs.Halting.{halt_for}
use Rattle.play_head.specs.Saying.{Speaks, IsPlain, SaysCall, place}
use Rattle.play_head.specs.Told.{edit_line, want_line, cancel_line, ask_line, line_of, frame_of}
use Rattle.play_head.specs.Working.{HearsAct}

-- ---- each word of a line is one of its list

pub edit_line-listed : (told : EditReply) → IsTrue (is_listed (edit_line told))
unfolding fields
edit_line-listed (answer.Ok len) = refl
edit_line-listed (answer.Refused refusal.PastEnd) = refl
edit_line-listed (answer.Refused refusal.NoCut) = refl
edit_line-listed (answer.Refused refusal.NoClip) = refl
edit_line-listed (answer.Refused refusal.ShapeDiffers) = refl
edit_line-listed (answer.Refused refusal.OutsideClip) = refl
edit_line-listed (answer.Refused refusal.MixTooLong) = refl
edit_line-listed (answer.Refused refusal.TooManyFrames) = refl
edit_line-listed (answer.Refused refusal.TooManySegments) = refl
edit_line-listed answer.NothingToUndo = refl
edit_line-listed answer.NothingToRedo = refl

pub want_line-listed : (told : WantReply) → IsTrue (is_listed (want_line told))
unfolding fields
want_line-listed (want.Wanted count) = refl
want_line-listed (want.PastEnd len) = refl

pub cancel_line-listed : (told : CancelReply) → IsTrue (is_listed (cancel_line told))
unfolding fields
cancel_line-listed (cancel.Cancelled count) = refl
cancel_line-listed (cancel.PastEnd len) = refl

pub ask_line-listed : (told : AskReply) → IsTrue (is_listed (ask_line told))
unfolding fields
ask_line-listed (ask.Asked export) = refl
ask_line-listed ask.EmptyTimeline = refl

pub listed : (line is : OutLine) → line ≡ is → IsTrue (is_listed is) → IsTrue (is_listed line)
listed line is e h = subst (λ (l : OutLine). IsTrue (is_listed l)) (sym e) h

-- ---- the line is that of the reply

pub want_line-is : {F : Type 0} (lib : Library F) (n : ℕ) (told : WantReply) → want_line told ≡ line_of lib n 0 (of_want told)
want_line-is lib n (want.Wanted count) = refl
want_line-is lib n (want.PastEnd len) = refl

pub cancel_line-is : {F : Type 0} (lib : Library F) (n : ℕ) (told : CancelReply) → cancel_line told ≡ line_of lib n 0 (of_cancel told)
cancel_line-is lib n (cancel.Cancelled count) = refl
cancel_line-is lib n (cancel.PastEnd len) = refl

pub ask_line-is : {F : Type 0} (lib : Library F) (n : ℕ) (told : AskReply) → ask_line told ≡ line_of lib n 0 (of_ask told)
ask_line-is lib n (ask.Asked export) = refl
ask_line-is lib n ask.EmptyTimeline = refl

-- ---- the reply brings no picture and files nothing

pub want-plain : (F : Type 0) (told : WantReply) → IsPlain {F = F} (of_want told)
want-plain F (want.Wanted count) = tt
want-plain F (want.PastEnd len) = tt

pub cancel-plain : (F : Type 0) (told : CancelReply) → IsPlain {F = F} (of_cancel told)
cancel-plain F (cancel.Cancelled count) = tt
cancel-plain F (cancel.PastEnd len) = tt

pub ask-plain : (F : Type 0) (told : AskReply) → IsPlain {F = F} (of_ask told)
ask-plain F (ask.Asked export) = tt
ask-plain F ask.EmptyTimeline = tt

module _ {M K F : Type 0} (library : M → Library F) where
  by_result : (tells : Bool) (old new : DeskOf M K) (before after : SinkSeen) (what : Act) (reply : Reply F) (r : Result Unit Halt) → IsPlain reply → HearsAct library old new what reply → Speaks tells before after (line_of (library old.fixed.library) (frame_of what) 0 reply) r → SaysCall library tells (place old before) (place new after) (what, r)
  by_result tells old new before after what reply (Ok done) p h k = record { answer = reply; plain = p; hears = h; says = k }
  by_result tells old new before after what reply (Err halt.Out) p h k = record { answer = reply; plain = p; hears = h; says = k }
  by_result tells old new before after what reply (Err halt.OutMemory) p h k = record { answer = reply; plain = p; hears = h; says = k }
  by_result tells old new before after what reply (Err (halt.Store fault)) p h k = k
  by_result tells old new before after what reply (Err halt.Screen) p h k = k
  by_result tells old new before after what reply (Err halt.NoMemory) p h k = absurd k
  by_result tells old new before after what reply (Err (halt.JournalFull len owing)) p h k = absurd k

  pub says : (tells : Bool) (old new : DeskOf M K) (before after : SinkSeen) (what : Act) (reply : Reply F) (line : OutLine) (r : Result Unit Halt) → IsPlain reply → HearsAct library old new what reply → line ≡ line_of (library old.fixed.library) (frame_of what) 0 reply → Speaks tells before after line r → SaysCall library tells (place old before) (place new after) (what, r)
  says tells old new before after what reply line r p h e k = by_result tells old new before after what reply r p h (subst (λ (l : OutLine). Speaks tells before after l r) e k)

  by_why : (tells : Bool) (old new : DeskOf M K) (out : SinkSeen) (what : Act) (why : Full) → Refused library old new (need what (state_of library new)) why → SaysCall library tells (place old out) (place new out) (what, Err (halt_for why))
  by_why tells old new out what (full.JournalFull len owing) h = (h, refl)
  by_why tells old new out what full.NoMemory h = (h, refl)

  pub refuses : (tells : Bool) (old new : DeskOf M K) (out : SinkSeen) (what : Act) (why : Full) (s : Halt) → s ≡ halt_for why → Refused library old new (need what (state_of library new)) why → SaysCall library tells (place old out) (place new out) (what, Err s)
  refuses tells old new out what why s e h = subst (λ (x : Halt). SaysCall library tells (place old out) (place new out) (what, Err x)) (sym e) (by_why tells old new out what why h)
