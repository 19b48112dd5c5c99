-- Which track is chosen of those that are found.
use Rattle.std.proofs.Common.{◌≡◌, ℕ, true, false, List, Option, Some, None, Err, refl}
use Rattle.std.specs.Prelude.{is_some}
use Rattle.ebml_core.specs.declared.element.Element.{Element}
use Rattle.mkv_read.specs.declared.clip.Place.{Place}
use Rattle.mkv_read.specs.declared.fault.ClipFault.TheVariants as faults
use Rattle.mkv_read.specs.Elements.{elements_in, first_where}
use Rattle.mkv_read.specs.Tracks.{record_place, is_wanted, track_with, track_among, track_in}

pub track_in-among : (bytes : List ℕ) (found : Option Element) (tracks : Element) (ffv1 video : Option Element) → found ≡ Some tracks → ffv1 ≡ first_where (is_wanted bytes true) (elements_in bytes tracks) → video ≡ first_where (is_wanted bytes false) (elements_in bytes tracks) → track_in bytes found ≡ track_among bytes ffv1 video
unfolding track_in
track_in-among bytes found tracks ffv1 video is first second = rw (is, first, second) refl

pub among_others : (bytes : List ℕ) (ffv1 video : Option Element) → ffv1 ≡ None → is_some video ≡ true → track_among bytes ffv1 video ≡ Err faults.Codec
among_others bytes ffv1 (Some v) is some = rw is refl
among_others bytes ffv1 None is some = absurd cc

pub among_none : (bytes : List ℕ) (ffv1 video : Option Element) → ffv1 ≡ None → is_some video ≡ false → track_among bytes ffv1 video ≡ Err faults.NoTrack
among_none bytes ffv1 (Some v) is some = absurd cc
among_none bytes ffv1 None is some = rw is refl

pub among_ffv1 : (bytes : List ℕ) (ffv1 video : Option Element) (entry : Element) (found place : Option Place) → ffv1 ≡ Some entry → found ≡ record_place bytes entry → found ≡ place → track_among bytes ffv1 video ≡ track_with bytes entry place
among_ffv1 bytes ffv1 video entry found place is exact same = rw (is, ← exact, same) refl
