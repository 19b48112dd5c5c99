use Rattle.std.proofs.Common.{false, sym, refl, ◌∙◌}
use Rattle.std.proofs.lemmas.Result.{err_from_is_err_and}
use Rattle.mkv_read.specs.Elements.{elements_in, first_where}
use Rattle.mkv_read.specs.Tracks.{is_wanted}
use Rattle.mkv_read.proofs.Choosing.{track_in-among, among_others, among_none, among_ffv1}
use Rattle.mkv_read.proofs.track.track_in.Goals as goal

pub returns-then-is_some-clause-exact : goal.returns-then-is_some-clause-exact
returns-then-is_some-clause-exact c =
    track_in-among _ _ _ _ _ c.in-Some.is c.first_entry.ensures.exact c.first_entry-in_default-first_entry.ensures.exact ∙ among_others _ _ _ c.in_default-first_entry.is (sym c.is_some.ensures ∙ c.if-is_some.true)

pub returns-in_default-first_entry-clause-exact : goal.returns-in_default-first_entry-clause-exact
returns-in_default-first_entry-clause-exact c =
    track_in-among _ _ _ _ _ c.in-Some.is c.first_entry.ensures.exact c.first_entry-in_default-first_entry.ensures.exact ∙ among_none _ _ _ c.in_default-first_entry.is (sym c.is_some.ensures ∙ c.if-is_some.false)

pub returns-in_default-record_place-clause-exact : goal.returns-in_default-record_place-clause-exact
returns-in_default-record_place-clause-exact c =
    track_in-among _ _ _ _ (first_where (is_wanted c.args.bytes.now false) (elements_in c.args.bytes.now c.in-Some.tracks)) c.in-Some.is c.first_entry.ensures.exact refl ∙ among_ffv1 _ _ _ _ _ _ c.in-Some-first_entry.is c.record_place.ensures.exact c.in_default-record_place.is

pub returns-in_err-track-clause-exact : goal.returns-in_err-track-clause-exact
returns-in_err-track-clause-exact c =
    let p = err_from_is_err_and c.from_residual.result c.from_residual.ensures.1 in
    let same = track_in-among _ _ _ _ (first_where (is_wanted c.args.bytes.now false) (elements_in c.args.bytes.now c.in-Some.tracks)) c.in-Some.is c.first_entry.ensures.exact refl ∙ among_ffv1 _ _ _ _ _ _ c.in-Some-first_entry.is c.record_place.ensures.exact c.in-Some-record_place.is in
    rw (p.1, p.2, same) c.in_err-track.ensures.exact

pub returns-clause-exact : goal.returns-clause-exact
returns-clause-exact c =
    let same = track_in-among _ _ _ _ (first_where (is_wanted c.args.bytes.now false) (elements_in c.args.bytes.now c.in-Some.tracks)) c.in-Some.is c.first_entry.ensures.exact refl ∙ among_ffv1 _ _ _ _ _ _ c.in-Some-first_entry.is c.record_place.ensures.exact c.in-Some-record_place.is in
    same ∙ c.in_ok-track.ensures.exact
