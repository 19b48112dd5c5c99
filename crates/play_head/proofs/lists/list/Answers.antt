use Rattle.std.proofs.Common.{◌≡◌, ℕ, ◌≤◌, List, length, refl, sym, subst}
use Rattle.tl_limits.specs.Limits.{max_text_bytes}
use Rattle.play_head.specs.Playing.{player}
use Rattle.play_head.specs.PlayingScript.{setting_of}
use Rattle.play_head.proofs.Listing.{few_lines, has_text, unfetched, replaced, skipped, unread}
use Rattle.play_head.proofs.lists.list.Goals as goal

pub returns-in-Err : goal.returns-in-Err
returns-in-Err g c =
    λ line screen shows is. unfetched (setting_of g.D.Lib.Media.library c.args.clips.now c.args.rate (g.T.Store.seen c.args.store.now).file (record { store = g.T.Store.tells; screen = shows; out = g.O.Sink.tells }))
    (g.D.Desk.desk c.args.desk.now) (g.T.Store.seen c.args.store.now) (g.T.Store.seen c.fetch_list.new.store) screen (g.O.Sink.seen c.args.out.now)
    line c.args.file.now c.in-Err.why is c.in-Err.ensures

pub read_list-requires-clause-lines : goal.read_list-requires-clause-lines
read_list-requires-clause-lines g c =
    let value = c.deref.ensures.value in
    let same : c.deref.result.now ≡ c.in-Ok.text.items = cc in
    let fits : length c.deref.result.now ≤ max_text_bytes = subst (λ (t : List ℕ). length t ≤ max_text_bytes) (sym same) c.in-Ok.ensures.1.0 in
    few_lines c.deref.result.now fits

pub returns-in-Ok-read_list : goal.returns-in-Ok-read_list
returns-in-Ok-read_list g c =
    let value = c.deref.ensures.value in
    let same : c.deref.result.now ≡ c.in-Ok.text.items = cc in
    λ line screen shows is. replaced (setting_of g.D.Lib.Media.library c.args.clips.now c.args.rate (g.T.Store.seen c.args.store.now).file (record { store = g.T.Store.tells; screen = shows; out = g.O.Sink.tells }))
    (player (g.D.Desk.desk c.args.desk.now) (g.T.Store.seen c.args.store.now) screen (g.O.Sink.seen c.args.out.now))
    (player (g.D.Desk.desk c.replace.new.desk) (g.T.Store.seen c.fetch_list.new.store) screen (g.O.Sink.seen c.replace.new.out))
    line c.args.file.now c.deref.result.now c.in-Ok-read_list.segments c.replace.result is c.in-Ok.ensures.0 refl
    (has_text (setting_of g.D.Lib.Media.library c.args.clips.now c.args.rate (g.T.Store.seen c.args.store.now).file (record { store = g.T.Store.tells; screen = shows; out = g.O.Sink.tells })) c.args.file.now c.deref.result.now c.in-Ok.text.items same c.in-Ok.ensures.1)
    c.in-Ok-read_list.ensures.reads c.replace.ensures

pub returns-in-Err-Line : goal.returns-in-Err-Line
returns-in-Err-Line g c =
    let value = c.deref.ensures.value in
    let same : c.deref.result.now ≡ c.in-Ok.text.items = cc in
    λ line screen shows is. skipped (setting_of g.D.Lib.Media.library c.args.clips.now c.args.rate (g.T.Store.seen c.args.store.now).file (record { store = g.T.Store.tells; screen = shows; out = g.O.Sink.tells }))
    (player (g.D.Desk.desk c.args.desk.now) (g.T.Store.seen c.args.store.now) screen (g.O.Sink.seen c.args.out.now))
    (player (g.D.Desk.desk c.pass_over.new.desk) (g.T.Store.seen c.fetch_list.new.store) screen (g.O.Sink.seen c.pass_over.new.out))
    line c.args.file.now c.deref.result.now c.in-Err-Line.field-0 c.in-Err-Line.n c.in-Err-Line.why c.pass_over.result c.in-Err-Line.field-0-is
    is c.in-Ok.ensures.0 refl
    (has_text (setting_of g.D.Lib.Media.library c.args.clips.now c.args.rate (g.T.Store.seen c.args.store.now).file (record { store = g.T.Store.tells; screen = shows; out = g.O.Sink.tells })) c.args.file.now c.deref.result.now c.in-Ok.text.items same c.in-Ok.ensures.1) c.in-Err-Line.ensures.reads c.pass_over.ensures

pub returns : goal.returns
returns g c =
    λ line screen shows is. unread (setting_of g.D.Lib.Media.library c.args.clips.now c.args.rate (g.T.Store.seen c.args.store.now).file (record { store = g.T.Store.tells; screen = shows; out = g.O.Sink.tells }))
    (g.D.Desk.desk c.args.desk.now) (g.T.Store.seen c.args.store.now) (g.T.Store.seen c.fetch_list.new.store) screen (g.O.Sink.seen c.args.out.now)
    line c.args.file.now is c.in-Ok.ensures.0
