-- The answers of plays and shows: their lines and rows.
use Rattle.std.proofs.Common.{◌≡◌, ℕ, Bool, true, false, List, [], Result, Ok, Err, refl, sym, ap, subst, ◌∙◌}
use Rattle.std.specs.Prelude.{IsTrue}
use Rattle.std.specs.Arc.{arc_value}
use Rattle.pic_planes.specs.Picture.{Image}
use Rattle.tl_model.specs.Media.{Library}
use Rattle.tl_model.specs.declared.fault.FrameFault.{FrameFault}
use Rattle.tl_model.specs.declared.fault.FrameFault.TheVariants as fault
use Rattle.tl_model.specs.declared.fault.RenderFault.{RenderFault}
use Rattle.render_core.specs.Board.{AtRender, of_play, of_show}
use Rattle.render_core.specs.Step.{Reply, Edited, Wanted, Cancelled, PastEnd, Claimed, Filed, Released, Closed, Picture, Fault, Pending, Render, Asked, EmptyTimeline, Taken, Silent, picture_of}
use Rattle.render_core.specs.declared.reply.PlayReply.{PlayReply}
use Rattle.render_core.specs.declared.reply.PlayReply.TheVariants as play
use Rattle.render_core.specs.declared.reply.ShowReply.{ShowReply}
use Rattle.render_core.specs.declared.reply.ShowReply.TheVariants as show
use Rattle.edit_desk.specs.Desk.{with_render}
use Rattle.script_lang.specs.Line.{fields, is_listed}
use Rattle.play_head.specs.Giving.{play_line, play_rows}
use Rattle.play_head.specs.Playing.{picture_rows}
use Rattle.play_head.specs.PlayingActs.{IsAnswer, image_rows, told_rows}
use Rattle.play_head.specs.Told.{fault_word, picture_line, line_of}

-- ---- a play

fault-listed : (F : Type 0) (n : ℕ) (why : RenderFault) (kind : FrameFault) → why.kind ≡ kind → IsTrue (is_listed (play_line {F = F} n (play.Fault (record why { kind = kind }))))
unfolding fields
fault-listed F n why fault.Empty e = refl
fault-listed F n why fault.Chain e = refl
fault-listed F n why (fault.Parity slice) e = refl
fault-listed F n why fault.NotKey e = refl
fault-listed F n why (fault.Header slice) e = refl
fault-listed F n why (fault.TableIndex slice) e = refl
fault-listed F n why (fault.Cover cell) e = refl
fault-listed F n why (fault.Symbol slice) e = refl
fault-listed F n why (fault.Overrun slice) e = refl

pub play_line-listed : {F : Type 0} (n : ℕ) (told : PlayReply F) → IsTrue (is_listed (play_line n told))
unfolding fields
play_line-listed n (play.Frame frame) = refl
play_line-listed {F} n (play.Fault why) = fault-listed F n why why.kind refl
play_line-listed n (play.Pending recipe) = refl
play_line-listed n (play.PastEnd len) = refl

pub play_line-is : {F : Type 0} (lib : Library F) (n : ℕ) (told : PlayReply F) → play_line n told ≡ line_of lib n 0 (of_play told)
play_line-is lib n (play.Frame frame) = refl
play_line-is lib n (play.Fault why) = refl
play_line-is lib n (play.Pending recipe) = refl
play_line-is lib n (play.PastEnd len) = refl

pub play_rows-are : (lib : Library Image) (told : PlayReply Image) → play_rows told ≡ told_rows image_rows lib (of_play told)
play_rows-are lib (play.Frame frame) = refl
play_rows-are lib (play.Fault why) = refl
play_rows-are lib (play.Pending recipe) = refl
play_rows-are lib (play.PastEnd len) = refl

pub play-answer : {F : Type 0} (told : PlayReply F) → IsAnswer (of_play told)
play-answer (play.Frame frame) = tt
play-answer (play.Fault why) = tt
play-answer (play.Pending recipe) = tt
play-answer (play.PastEnd len) = tt

-- ---- a show, which is told what the machine replies but the render of a recipe

-- of a recipe that was rendered
abbrev is_render : {F : Type 0} → Reply F → Bool
is_render (Render recipe) = true
is_render other = false

rendered-not : {F : Type 0} (r : Result F RenderFault) → is_render (picture_of r) ≡ false
rendered-not (Ok frame) = refl
rendered-not (Err why) = refl

with_render-not : {F : Type 0} (lib : Library F) (told : Reply F) → is_render (with_render lib told) ≡ false
with_render-not lib (Edited reply) = refl
with_render-not lib (Wanted count) = refl
with_render-not lib (Cancelled count) = refl
with_render-not lib (PastEnd len) = refl
with_render-not lib (Claimed job recipe) = refl
with_render-not lib Filed = refl
with_render-not lib Released = refl
with_render-not lib (Closed at) = refl
with_render-not lib (Picture frame) = refl
with_render-not lib (Fault why) = refl
with_render-not lib (Pending recipe) = refl
with_render-not lib (Render recipe) = rendered-not (lib.render recipe)
with_render-not lib (Asked export) = refl
with_render-not lib EmptyTimeline = refl
with_render-not lib (Taken export name line) = refl
with_render-not lib Silent = refl

no_render : {F : Type 0} (given : ShowReply F) → is_render (of_show given) ≡ false → AtRender given (λ recipe. ⊥)
no_render (show.Frame frame) e = tt
no_render (show.Fault why) e = tt
no_render (show.Render recipe) e = absurd (cc)
no_render (show.PastEnd len) e = tt

pub show-rendered : {F : Type 0} (lib : Library F) (told : Reply F) (given : ShowReply F) → of_show given ≡ with_render lib told → AtRender given (λ recipe. ⊥)
show-rendered lib told given e = no_render given (ap is_render e ∙ with_render-not lib told)

picture_line-is : {F : Type 0} (lib : Library F) (n : ℕ) (r : Result F RenderFault) → line_of lib n 0 (picture_of r) ≡ picture_line n r
picture_line-is lib n (Ok frame) = refl
picture_line-is lib n (Err why) = refl

pub show_line-is : {F : Type 0} (lib : Library F) (n : ℕ) (told : Reply F) → line_of lib n 0 (with_render lib told) ≡ line_of lib n 0 told
show_line-is lib n (Edited reply) = refl
show_line-is lib n (Wanted count) = refl
show_line-is lib n (Cancelled count) = refl
show_line-is lib n (PastEnd len) = refl
show_line-is lib n (Claimed job recipe) = refl
show_line-is lib n Filed = refl
show_line-is lib n Released = refl
show_line-is lib n (Closed at) = refl
show_line-is lib n (Picture frame) = refl
show_line-is lib n (Fault why) = refl
show_line-is lib n (Pending recipe) = refl
show_line-is lib n (Render recipe) = picture_line-is lib n (lib.render recipe)
show_line-is lib n (Asked export) = refl
show_line-is lib n EmptyTimeline = refl
show_line-is lib n (Taken export name line) = refl
show_line-is lib n Silent = refl

picture_rows-are : {F : Type 0} (rows : F → List (List ℕ)) (lib : Library F) (r : Result F RenderFault) → told_rows rows lib (picture_of r) ≡ picture_rows rows r
picture_rows-are rows lib (Ok frame) = refl
picture_rows-are rows lib (Err why) = refl

pub show_rows-are : {F : Type 0} (rows : F → List (List ℕ)) (lib : Library F) (told : Reply F) → told_rows rows lib (with_render lib told) ≡ told_rows rows lib told
show_rows-are rows lib (Edited reply) = refl
show_rows-are rows lib (Wanted count) = refl
show_rows-are rows lib (Cancelled count) = refl
show_rows-are rows lib (PastEnd len) = refl
show_rows-are rows lib (Claimed job recipe) = refl
show_rows-are rows lib Filed = refl
show_rows-are rows lib Released = refl
show_rows-are rows lib (Closed at) = refl
show_rows-are rows lib (Picture frame) = refl
show_rows-are rows lib (Fault why) = refl
show_rows-are rows lib (Pending recipe) = refl
show_rows-are rows lib (Render recipe) = picture_rows-are rows lib (lib.render recipe)
show_rows-are rows lib (Asked export) = refl
show_rows-are rows lib EmptyTimeline = refl
show_rows-are rows lib (Taken export name line) = refl
show_rows-are rows lib Silent = refl

pub show-answer : {F : Type 0} (lib : Library F) (told : Reply F) → IsAnswer (with_render lib told) → IsAnswer told
show-answer lib (Edited reply) h = tt
show-answer lib (Wanted count) h = tt
show-answer lib (Cancelled count) h = tt
show-answer lib (PastEnd len) h = tt
show-answer lib (Claimed job recipe) h = absurd h
show-answer lib Filed h = absurd h
show-answer lib Released h = absurd h
show-answer lib (Closed at) h = absurd h
show-answer lib (Picture frame) h = tt
show-answer lib (Fault why) h = tt
show-answer lib (Pending recipe) h = tt
show-answer lib (Render recipe) h = tt
show-answer lib (Asked export) h = tt
show-answer lib EmptyTimeline h = tt
show-answer lib (Taken export name line) h = absurd h
show-answer lib Silent h = absurd h

-- the answer of a show as that of a play
pub as_play-line : {F : Type 0} (lib : Library F) (n : ℕ) (told : Reply F) (given : PlayReply F) → of_play given ≡ with_render lib told → play_line n given ≡ line_of lib n 0 told
as_play-line lib n told given e = play_line-is lib n given ∙ ap (line_of lib n 0) e ∙ show_line-is lib n told

pub as_play-rows : (lib : Library Image) (told : Reply Image) (given : PlayReply Image) → of_play given ≡ with_render lib told → play_rows given ≡ told_rows image_rows lib told
as_play-rows lib told given e = play_rows-are lib given ∙ ap (told_rows image_rows lib) e ∙ show_rows-are image_rows lib told

pub as_play-answer : {F : Type 0} (lib : Library F) (told : Reply F) (given : PlayReply F) → of_play given ≡ with_render lib told → IsAnswer told
as_play-answer lib told given e = show-answer lib told (subst IsAnswer e (play-answer given))
