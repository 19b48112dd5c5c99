-- A library: the clips of a session, and what its output is coded by.
use Rattle.std.specs.Prelude.{◌≡◌, ℕ, List, [], length, slice_index_or, false, Ok}
use Rattle.tl_limits.specs.Limits.{IsRecordLength}
use Rattle.pic_planes.specs.declared.shape.Chroma.TheVariants.{Grey}
use Rattle.pic_planes.specs.Shape.{Layout, IsShape, layout}
use Rattle.mkv_read.specs.declared.clip.Place.{Place}
use Rattle.ffv1_record.specs.Parameters.{Parameters, IsRecord, parameters_of}
use Rattle.ffv1_record.specs.Reading.{parameters}
use Rattle.ffv1_record.specs.Suits.{Suits}
use Rattle.clip_store.specs.Clip.{ClipOf, piece}

-- the shape of the output's pictures, and the bytes of its record with what they say
pub record OutputOf : Type 0 where
  pub shape : Layout
  pub bytes : List ℕ
  pub parameters : Parameters

-- The bytes are a record's, which suits the shape.
pub record IsOutput (output : OutputOf) : Type 0 where
  pub shape : IsShape output.shape
  pub few : IsRecordLength (length output.bytes)
  pub read : parameters output.bytes ≡ Ok output.parameters
  pub sound : IsRecord output.parameters
  pub suits : Suits output.parameters output.shape

pub record LibraryOf : Type 0 where
  pub clips : List ClipOf
  pub output : OutputOf

-- what stands past the last place, and past the last clip
abbrev pub no_place : Place
no_place = record { from = 0; len = 0 }

abbrev pub no_clip : ClipOf
no_clip = record {
  name = [];
  start = 0;
  bytes = [];
  index = record { width = 0; height = 0; private = no_place; packets = [] };
  parameters = parameters_of 0 [] Grey 0 0 [] false 0;
  shape = layout 0 0 Grey;
}

-- a clip by its number, from 0
abbrev pub clip_at : List ClipOf → ℕ → ClipOf
clip_at clips clip = slice_index_or clips clip no_clip

-- the bytes of a clip's record, and of the packet of a frame, from 0
abbrev pub record_bytes_of : ClipOf → List ℕ
record_bytes_of clip = piece clip.bytes clip.index.private

abbrev pub packet_of : ClipOf → ℕ → List ℕ
packet_of clip frame = piece clip.bytes (slice_index_or clip.index.packets frame no_place)
