-- The line of each call of a script, by what it was told.
use Rattle.std.specs.Prelude.{ℕ, List, codes, Result, Ok, Err}
use Rattle.tl_model.specs.Media.{Library}
use Rattle.tl_model.specs.declared.edit.EditRefusal.{EditRefusal}
use Rattle.tl_model.specs.declared.edit.EditRefusal.TheVariants as refusal
use Rattle.tl_model.specs.declared.edit.EditReply.{EditReply}
use Rattle.tl_model.specs.declared.edit.EditReply.TheVariants as answer
use Rattle.tl_model.specs.declared.fault.FrameFault.{FrameFault}
use Rattle.tl_model.specs.declared.fault.FrameFault.TheVariants as fault
use Rattle.tl_model.specs.declared.fault.RenderFault.{RenderFault}
use Rattle.tl_model.specs.declared.journal.Act.{Act}
use Rattle.tl_model.specs.declared.journal.Act.TheVariants as act
use Rattle.render_core.specs.Step.{Reply, Edited, Wanted, Cancelled, PastEnd, Claimed, Filed, Released, Closed, Picture, Fault, Pending, Render, Asked, EmptyTimeline, Taken, Silent}
use Rattle.render_core.specs.declared.reply.WantReply.{WantReply}
use Rattle.render_core.specs.declared.reply.WantReply.TheVariants as want
use Rattle.render_core.specs.declared.reply.CancelReply.{CancelReply}
use Rattle.render_core.specs.declared.reply.CancelReply.TheVariants as cancel
use Rattle.render_core.specs.declared.reply.AskReply.{AskReply}
use Rattle.render_core.specs.declared.reply.AskReply.TheVariants as ask
use Rattle.script_lang.specs.declared.out_line.OutLine.{OutLine}
use Rattle.script_lang.specs.declared.out_line.OutLine.TheVariants as out

-- why an edit is refused, in a word
abbrev pub refusal_word : EditRefusal → List ℕ
refusal_word refusal.PastEnd = codes "PastEnd"
refusal_word refusal.NoCut = codes "NoCut"
refusal_word refusal.NoClip = codes "NoClip"
refusal_word refusal.ShapeDiffers = codes "ShapeDiffers"
refusal_word refusal.OutsideClip = codes "OutsideClip"
refusal_word refusal.MixTooLong = codes "MixTooLong"
refusal_word refusal.TooManyFrames = codes "TooManyFrames"
refusal_word refusal.TooManySegments = codes "TooManySegments"

-- what is wrong with a frame, in a word
abbrev pub fault_word : FrameFault → List ℕ
fault_word fault.Empty = codes "Empty"
fault_word fault.Chain = codes "Chain"
fault_word (fault.Parity slice) = codes "Parity"
fault_word fault.NotKey = codes "NotKey"
fault_word (fault.Header slice) = codes "Header"
fault_word (fault.TableIndex slice) = codes "TableIndex"
fault_word (fault.Cover cell) = codes "Cover"
fault_word (fault.Symbol slice) = codes "Symbol"
fault_word (fault.Overrun slice) = codes "Overrun"

-- the line of an edit, an undo or a redo
abbrev pub edit_line : EditReply → OutLine
edit_line (answer.Ok len) = out.Ok len
edit_line (answer.Refused why) = out.Refused (refusal_word why)
edit_line answer.NothingToUndo = out.Refused (codes "NothingToUndo")
edit_line answer.NothingToRedo = out.Refused (codes "NothingToRedo")

-- the line of a want, of a cancellation, and of an export that was asked for
abbrev pub want_line : WantReply → OutLine
want_line (want.Wanted count) = out.Wanted count
want_line (want.PastEnd len) = out.Past len

abbrev pub cancel_line : CancelReply → OutLine
cancel_line (cancel.Cancelled count) = out.Cancelled count
cancel_line (cancel.PastEnd len) = out.Past len

abbrev pub ask_line : AskReply → OutLine
ask_line (ask.Asked export) = out.Asked export
ask_line ask.EmptyTimeline = out.Refused (codes "EmptyTimeline")

-- the line of frame n that was rendered
abbrev pub picture_line : {F : Type 0} → (n : ℕ) → Result F RenderFault → OutLine
picture_line n (Ok frame) = out.Frame n
picture_line n (Err why) = out.Fault n (fault_word why.kind)

-- The line of a call that was told this: of frame n where it is a play or a show, and with the number of results that were filed where
-- it is a mark. A show whose recipe is to be rendered has the line of that render. No call of a script is told of a claim, its end or
-- a taken export.
abbrev pub line_of : {F : Type 0} → Library F → (n filed : ℕ) → Reply F → OutLine
line_of lib n filed (Edited reply) = edit_line reply
line_of lib n filed (Wanted count) = out.Wanted count
line_of lib n filed (Cancelled count) = out.Cancelled count
line_of lib n filed (PastEnd len) = out.Past len
line_of lib n filed (Claimed job recipe) = out.Worked filed
line_of lib n filed Filed = out.Worked filed
line_of lib n filed Released = out.Worked filed
line_of lib n filed (Closed at) = out.Worked filed
line_of lib n filed (Picture frame) = out.Frame n
line_of lib n filed (Fault why) = out.Fault n (fault_word why.kind)
line_of lib n filed (Pending recipe) = out.Pending n
line_of lib n filed (Render recipe) = picture_line n (lib.render recipe)
line_of lib n filed (Asked export) = out.Asked export
line_of lib n filed EmptyTimeline = out.Refused (codes "EmptyTimeline")
line_of lib n filed (Taken export name line) = out.Worked filed
line_of lib n filed Silent = out.Worked filed

-- the frame that a play or a show names
abbrev pub frame_of : Act → ℕ
frame_of (act.Play n) = n
frame_of (act.Show n) = n
frame_of other = 0
