-- Frames that are given to a writer part by part.
use Rattle.std.proofs.Common.{◌≡◌, ℕ, ◌+◌, ◌/◌, suc, List, [], ◌∷◌, ◌++◌, length, Result, Ok, Err, refl, sym, ap, ◌∙◌, subst, arith, append_assoc, length-append}
use Rattle.std.proofs.lemmas.List.{append-nil}
use Rattle.std.specs.Prelude.{Bool, IsTrue}
use Rattle.tl_model.specs.Media.{Library}
use Rattle.tl_model.specs.declared.recipe.Recipe.{Recipe}
use Rattle.tl_model.specs.declared.fault.Ending.{Ending}
use Rattle.tl_model.specs.declared.fault.Ending.TheVariants as ending
use Rattle.mkv_write.specs.Writing.{Writing, with_packet, put_of, file_of, IsPrefix}
use Rattle.mkv_write.proofs.Files.{some_clusters}
use Rattle.mkv_write.proofs.Prefix.{prefix_trans}
use Rattle.smart_export.specs.Rendered.{IsPacket, AreRendered}
use Rattle.smart_export.specs.Ends.{with_packets, IsCut, BeginsWith, IsCutAt, Stops}
use Rattle.smart_export.specs.Puts.{frames_on, one_frame, PutsFrames}

-- What was put of packets is a prefix of the file over them.
pub put_of-file : (w : Writing) → IsPrefix (put_of w) (file_of w)
put_of-file w = some_clusters w (length w.packets / 25) (omega arith)

-- No packets change nothing.
pub with_packets-none : (w : Writing) → with_packets w [] ≡ w
with_packets-none w = ap (λ (p : List (List ℕ)). record w { packets = p }) (append-nil w.packets)

-- ---- one frame

-- Cut before the frame.
pub cut_before : {F : Type 0} (tells : Bool) (held : List ℕ) (lib : Library F) (recipe : Recipe) (w : Writing) → (IsTrue tells → held ≡ put_of w) → IsCut tells held (one_frame lib recipe w)
cut_before tells held lib recipe w is = record {
  front = [];
  rest = recipe ∷ [];
  packets = [];
  parts = refl;
  rendered = tt;
  prefix = λ told. subst (λ (x : Writing). IsPrefix held (file_of x)) (sym (with_packets-none w)) (subst (λ (x : List ℕ). IsPrefix x (file_of w)) (sym (is told)) (put_of-file w));
}

-- Cut while its packet was put.
pub cut_after : {F : Type 0} (tells : Bool) (held : List ℕ) (lib : Library F) (recipe : Recipe) (w : Writing) (packet : List ℕ) → IsPacket lib recipe packet → (IsTrue tells → IsPrefix held (put_of (with_packet w packet))) → IsCut tells held (one_frame lib recipe w)
cut_after tells held lib recipe w packet is put = record {
  front = recipe ∷ [];
  rest = [];
  packets = packet ∷ [];
  parts = refl;
  rendered = (is, tt);
  prefix = λ told. prefix_trans held (put_of (with_packet w packet)) (file_of (with_packet w packet)) (put told) (put_of-file (with_packet w packet));
}

-- The frame is at fault.
pub cut_at : {F : Type 0} (tells : Bool) (held : List ℕ) (lib : Library F) (recipe : Recipe) (w : Writing) (Is : Recipe → Type 0) → (IsTrue tells → held ≡ put_of w) → Is recipe → IsCutAt tells held (one_frame lib recipe w) (length w.packets) Is
unfolding cut_before
cut_at tells held lib recipe w Is is at_fault = (
  cut_before tells held lib recipe w is,
  ap length (sym (append-nil w.packets)),
  at_fault,
)

-- ---- one part after another

pub AreRendered-append : {F : Type 0} (lib : Library F) (rs qs : List Recipe) (ps os : List (List ℕ)) → AreRendered lib rs ps → AreRendered lib qs os → AreRendered lib (rs ++ qs) (ps ++ os)
AreRendered-append lib [] qs [] os first second = second
AreRendered-append lib [] qs (p ∷ ps) os first second = absurd first
AreRendered-append lib (r ∷ rs) qs [] os first second = absurd first
AreRendered-append lib (r ∷ rs) qs (p ∷ ps) os first second = (first.0, AreRendered-append lib rs qs ps os first.1 second)

pub AreRendered-length : {F : Type 0} (lib : Library F) (rs : List Recipe) (ps : List (List ℕ)) → AreRendered lib rs ps → length ps ≡ length rs
AreRendered-length lib [] [] h = refl
AreRendered-length lib [] (p ∷ ps) h = absurd h
AreRendered-length lib (r ∷ rs) [] h = absurd h
AreRendered-length lib (r ∷ rs) (p ∷ ps) h = ap (λ n. suc n) (AreRendered-length lib rs ps h.1)

pub with_packets-append : (w : Writing) (ps os : List (List ℕ)) → with_packets (with_packets w ps) os ≡ with_packets w (ps ++ os)
with_packets-append w ps os = ap (λ (p : List (List ℕ)). record w { packets = p }) (append_assoc w.packets ps os)

-- More frames would have followed.
pub cut_sooner : {F : Type 0} (tells : Bool) (held : List ℕ) (lib : Library F) (rs qs : List Recipe) (w : Writing) → IsCut tells held (frames_on lib rs w) → IsCut tells held (frames_on lib (rs ++ qs) w)
cut_sooner tells held lib rs qs w cut = record {
  front = cut.front;
  rest = cut.rest ++ qs;
  packets = cut.packets;
  parts = ap (λ (x : List Recipe). x ++ qs) cut.parts ∙ append_assoc cut.front cut.rest qs;
  rendered = cut.rendered;
  prefix = cut.prefix;
}

BeginsWith-append : (Is : Recipe → Type 0) (rs qs : List Recipe) → BeginsWith Is rs → BeginsWith Is (rs ++ qs)
BeginsWith-append Is [] qs h = absurd h
BeginsWith-append Is (r ∷ rs) qs h = h

pub stops_sooner : {F : Type 0} (tells : Bool) (held : List ℕ) (lib : Library F) (rs qs : List Recipe) (w : Writing) (why : Ending) → Stops tells held (frames_on lib rs w) why → Stops tells held (frames_on lib (rs ++ qs) w) why
unfolding cut_sooner
stops_sooner tells held lib rs qs w (ending.Done count) h = h
stops_sooner tells held lib rs qs w (ending.ClipFault at fault) h = (cut_sooner tells held lib rs qs w h.0, h.1, BeginsWith-append _ h.0.rest qs h.2)
stops_sooner tells held lib rs qs w (ending.SliceTooLong at) h = (cut_sooner tells held lib rs qs w h.0, h.1, BeginsWith-append _ h.0.rest qs h.2)
stops_sooner tells held lib rs qs w ending.Sink h = cut_sooner tells held lib rs qs w h
stops_sooner tells held lib rs qs w ending.NoMemory h = cut_sooner tells held lib rs qs w h

-- Frames with packets went before.
pub cut_later : {F : Type 0} (tells : Bool) (held : List ℕ) (lib : Library F) (rs qs : List Recipe) (w : Writing) (ps : List (List ℕ)) → AreRendered lib rs ps → IsCut tells held (frames_on lib qs (with_packets w ps)) → IsCut tells held (frames_on lib (rs ++ qs) w)
cut_later tells held lib rs qs w ps before cut = record {
  front = rs ++ cut.front;
  rest = cut.rest;
  packets = ps ++ cut.packets;
  parts = ap (λ (x : List Recipe). rs ++ x) cut.parts ∙ sym (append_assoc rs cut.front cut.rest);
  rendered = AreRendered-append lib rs cut.front ps cut.packets before cut.rendered;
  prefix = λ told. subst (λ (x : Writing). IsPrefix held (file_of x)) (with_packets-append w ps cut.packets) (cut.prefix told);
}

pub stops_later : {F : Type 0} (tells : Bool) (held : List ℕ) (lib : Library F) (rs qs : List Recipe) (w : Writing) (ps : List (List ℕ)) (why : Ending) → AreRendered lib rs ps → Stops tells held (frames_on lib qs (with_packets w ps)) why → Stops tells held (frames_on lib (rs ++ qs) w) why
unfolding cut_later
stops_later tells held lib rs qs w ps (ending.Done count) before h = h
stops_later tells held lib rs qs w ps (ending.ClipFault at fault) before h = (cut_later tells held lib rs qs w ps before h.0, h.1 ∙ ap (λ (x : Writing). length x.packets) (with_packets-append w ps h.0.packets), h.2)
stops_later tells held lib rs qs w ps (ending.SliceTooLong at) before h = (cut_later tells held lib rs qs w ps before h.0, h.1 ∙ ap (λ (x : Writing). length x.packets) (with_packets-append w ps h.0.packets), h.2)
stops_later tells held lib rs qs w ps ending.Sink before h = cut_later tells held lib rs qs w ps before h
stops_later tells held lib rs qs w ps ending.NoMemory before h = cut_later tells held lib rs qs w ps before h

-- After frames that were put, what was put and whether it stops is that of both together.
pub puts_then : {F : Type 0} (tells : Bool) (mid_held held : List ℕ) (lib : Library F) (rs qs : List Recipe) (w mid after : Writing) (result : Result Unit Ending)
    → PutsFrames tells mid_held (frames_on lib rs w) mid (Ok tt) → PutsFrames tells held (frames_on lib qs mid) after result → PutsFrames tells held (frames_on lib (rs ++ qs) w) after result
puts_then tells mid_held held lib rs qs w mid after (Ok done) first second = (
  first.0 ++ second.0,
  AreRendered-append lib rs qs first.0 second.0 first.1 second.1,
  second.2 ∙ ap (λ (x : Writing). with_packets x second.0) first.2 ∙ with_packets-append w first.0 second.0,
  second.3,
)
puts_then tells mid_held held lib rs qs w mid after (Err why) first second =
    stops_later tells held lib rs qs w first.0 why first.1 (subst (λ (x : Writing). Stops tells held (frames_on lib qs x) why) first.2 second)

-- Frames that would have followed are left out too.
pub puts_stopped : {F : Type 0} (tells : Bool) (mid_held held : List ℕ) (lib : Library F) (rs qs later : List Recipe) (w mid : Writing) (why : Ending)
    → PutsFrames tells mid_held (frames_on lib rs w) mid (Ok tt) → Stops tells held (frames_on lib qs mid) why → Stops tells held (frames_on lib ((rs ++ qs) ++ later) w) why
puts_stopped tells mid_held held lib rs qs later w mid why first second =
    stops_sooner tells held lib (rs ++ qs) later w why (puts_then tells mid_held held lib rs qs w mid mid (Err why) first second)

-- Each frame adds a packet.
pub puts-length : {F : Type 0} (tells : Bool) (held : List ℕ) (lib : Library F) (rs : List Recipe) (w after : Writing) → PutsFrames tells held (frames_on lib rs w) after (Ok tt) → length after.packets ≡ length w.packets + length rs
puts-length tells held lib rs w after put =
    ap (λ (x : Writing). length x.packets) put.2 ∙ length-append w.packets put.0 ∙ ap (λ n. length w.packets + n) (AreRendered-length lib rs put.0 put.1)

-- Before any frame.
pub puts_none : {F : Type 0} (tells : Bool) (held : List ℕ) (lib : Library F) (w : Writing) → (IsTrue tells → held ≡ put_of w) → PutsFrames tells held (frames_on lib [] w) w (Ok tt)
puts_none tells held lib w is = ([], tt, sym (with_packets-none w), is)
