-- What an edit makes of a timeline, or the first reason to refuse it in the order of `EditRefusal`.
use Rattle.std.specs.Prelude.{◌≡◌, nat_lt, nat_le, if◌then◌else◌, not, Bool, false, ◌&&◌, ◌||◌, List, [], ◌∷◌, ◌++◌, length, Option, Some, None, Result, Ok, Err}
use Rattle.std.specs.List.{list_any}
use Rattle.tl_limits.specs.Limits.{max_frames, max_segments}
use Rattle.tl_model.specs.Media.{Library}
use Rattle.tl_model.specs.declared.recipe.Side.{Side}
use Rattle.tl_model.specs.declared.recipe.Side.TheVariants as side
use Rattle.tl_model.specs.declared.edit.Edit.{Edit}
use Rattle.tl_model.specs.declared.edit.EditRefusal.{EditRefusal}
use Rattle.tl_model.specs.declared.edit.EditRefusal.TheVariants as refusal
use Rattle.time_list.specs.declared.lane.ApplyFault.{ApplyFault}
use Rattle.time_list.specs.declared.lane.ApplyFault.TheVariants as fault
use Rattle.tl_model.specs.Cells.{Cell, segment_count}
use Rattle.time_list.specs.Edits.{Proposal, proposal}
use Rattle.time_list.specs.Patch.{PatchOf, LeadsBack}

-- A side of no clip, of a clip that doesn't fit, of a frame after its clip's last.
abbrev pub names_no_clip : {F : Type 0} → Library F → Side → Bool
names_no_clip lib side.Black = false
names_no_clip lib (side.Clip clip frame) = nat_le lib.clips clip

abbrev pub differs : {F : Type 0} → Library F → Side → Bool
differs lib side.Black = false
differs lib (side.Clip clip frame) = nat_lt clip lib.clips && not (lib.fits clip)

abbrev pub is_late : {F : Type 0} → Library F → Side → Bool
is_late lib side.Black = false
is_late lib (side.Clip clip frame) = nat_lt clip lib.clips && nat_le (lib.frames clip) frame

-- The first of the reasons that holds.
abbrev pub first_of : List (Bool × EditRefusal) → Option EditRefusal
first_of [] = None
first_of ((holds, why) ∷ reasons) = if holds then Some why else first_of reasons

-- Why frames can't be taken; `early` where one comes before its clip's first.
abbrev pub not_taken : {F : Type 0} → Library F → List Side → Bool → List (Bool × EditRefusal)
not_taken lib sides early =
    (list_any (names_no_clip lib) sides, refusal.NoClip) ∷ (list_any (differs lib) sides, refusal.ShapeDiffers)
    ∷ (early || list_any (is_late lib) sides, refusal.OutsideClip) ∷ []

-- What stands against an edit itself, and against what it would make.
abbrev pub against : {F : Type 0} → Library F → Proposal → List (Bool × EditRefusal)
against lib p =
    (p.past_end, refusal.PastEnd) ∷ (p.no_cut, refusal.NoCut)
    ∷ (not_taken lib p.taken p.early ++ (p.too_long, refusal.MixTooLong) ∷ [])

abbrev pub too_large : List Cell → List (Bool × EditRefusal)
too_large line =
    (nat_lt max_frames (length line), refusal.TooManyFrames)
    ∷ (nat_lt max_segments (segment_count line), refusal.TooManySegments) ∷ []

abbrev pub unless : {A : Type 0} → Option EditRefusal → A → Result A EditRefusal
unless None value = Ok value
unless (Some why) value = Err why

abbrev pub apply : {F : Type 0} → Library F → Edit → List Cell → Result (List Cell) EditRefusal
apply lib e line = let p = proposal e line in unless (first_of (against lib p ++ too_large p.line)) p.line

-- An edit answers as `apply` does, with the patch that leads back; where it is refused or wants memory the line stays.
abbrev pub Applies : Result (List Cell) EditRefusal → (old new : List Cell) → Result PatchOf ApplyFault → Type 0
Applies (Ok after) old new (Ok patch) = (new ≡ after) × LeadsBack patch new old
Applies (Err why) old new (Ok patch) = ⊥
Applies (Ok after) old new (Err (fault.Refused given)) = ⊥
Applies (Err why) old new (Err (fault.Refused given)) = (given ≡ why) × (new ≡ old)
Applies outcome old new (Err fault.NoMemory) = new ≡ old
