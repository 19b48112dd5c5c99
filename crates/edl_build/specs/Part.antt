-- What each event of an edit list adds, or its fault. A clip is a number and a start; clips are looked up by their names.
use Rattle.std.specs.Prelude.{ℕ, ◌-◌, Bool, true, false, ◌&&◌, ◌||◌, ◌==◌, nat_lt, nat_le, if◌then◌else◌, List, codes, Option, Some, None, is_some, is_none, Result, Ok, Err}
use Rattle.std.specs.Str.{bytes_eq}
use Rattle.edl_text.specs.declared.event.Event.{Event}
use Rattle.edl_text.specs.declared.fault.EdlWhy.{EdlWhy}
use Rattle.edl_text.specs.declared.fault.EdlWhy.TheVariants as why
use Rattle.edl_text.specs.Line.{◌>>=◌}
use Rattle.tl_model.specs.declared.recipe.Mix.{Mix}
use Rattle.tl_model.specs.declared.recipe.Side.{Side}
use Rattle.tl_model.specs.declared.recipe.Side.TheVariants as side
use Rattle.edl_build.specs.declared.part.Part.{Part}
use Rattle.edl_build.specs.declared.part.Addition.{Addition}
use Rattle.edl_build.specs.declared.part.Addition.TheVariants.{Outgoing, Whole}

-- A cut of zero record length is the outgoing side of the dissolve of its number that follows it.
abbrev pub is_outgoing : Event → Bool
is_outgoing e = is_none e.duration && e.record_in == e.record_out

abbrev pub is_followed : Event → (next : Option Event) → Bool
is_followed e None = false
is_followed e (Some next) = is_some next.duration && e.number == next.number

-- No out lies before its in, source and record are as long, and a dissolve has a frame.
abbrev pub has_lengths : Event → Bool
has_lengths e =
    ((nat_le e.source_in e.source_out && nat_le e.record_in e.record_out) && e.source_out - e.source_in == e.record_out - e.record_in)
    && (is_none e.duration || nat_lt e.record_in e.record_out)

-- For the reel `AX` a cut takes the name that it comes from, and a dissolve the one that it goes to.
abbrev pub name_for : (duration : Option ℕ) → (from to : Option (List ℕ)) → Option (List ℕ)
name_for None from to = from
name_for (Some frames) from to = to

abbrev pub name_taken : Event → Option (List ℕ)
name_taken e = name_for e.duration e.from e.to

-- The clip of a name, which has to be there.
abbrev pub found : Option (ℕ × ℕ) → Result (Option (ℕ × ℕ)) EdlWhy
found None = Err why.UnknownClip
found (Some clip) = Ok (Some clip)

abbrev pub clip_named : (clips : List ℕ → Option (ℕ × ℕ)) → Option (List ℕ) → Result (Option (ℕ × ℕ)) EdlWhy
clip_named clips None = Err why.UnknownClip
clip_named clips (Some name) = found (clips name)

-- The reel `BL` is black, and each other reel is a clip's name.
abbrev pub clip_for : (clips : List ℕ → Option (ℕ × ℕ)) → Event → Result (Option (ℕ × ℕ)) EdlWhy
clip_for clips e =
    if bytes_eq e.reel (codes "BL") then Ok None
    else if bytes_eq e.reel (codes "AX") then clip_named clips (name_taken e)
    else clip_named clips (Some e.reel)

-- A source counts from the clip's start.
abbrev pub side_at : Option (ℕ × ℕ) → (source : ℕ) → Result Side EdlWhy
side_at None source = Ok side.Black
side_at (Some clip) source = if nat_lt source clip.1 then Err why.OutsideClip else Ok (side.Clip clip.0 (source - clip.1))

unfoldable pub shown : (clips : List ℕ → Option (ℕ × ℕ)) → Event → Result Side EdlWhy
shown clips e = do
  clip ← clip_for clips e
  if has_lengths e then side_at clip e.source_in else Err why.Span

-- A dissolve comes from the outgoing side before it, in as many steps as its duration; none in no step.
abbrev pub mix_of : (duration : Option ℕ) → (from : Option Side) → Result (Option Mix) EdlWhy
mix_of None from = Ok None
mix_of (Some frames) None = Err why.PairMissing
mix_of (Some frames) (Some from) =
    Ok (if frames == 0 then None else Some (record { from = from; done = 0; steps = frames; total = frames }))

abbrev pub part_of : Event → Side → Option Mix → Part
part_of e first mix = record {
  line = e.line;
  start = e.record_in;
  end = e.record_out;
  segment = record { first = first; len = e.record_out - e.record_in; mix = mix };
}

-- What an event adds after an outgoing side or none, or its first fault: `PairMissing`, `UnknownClip`, `Span`, `OutsideClip`.
unfoldable pub added : (clips : List ℕ → Option (ℕ × ℕ)) → (from : Option Side) → Event → (next : Option Event) → Result Addition EdlWhy
added clips from e next =
    if is_outgoing e
    then (if is_followed e next then (shown clips e >>= λ side. Ok (Outgoing side)) else Err why.PairMissing)
    else (mix_of e.duration from >>= λ mix. shown clips e >>= λ side. Ok (Whole (part_of e side mix)))
