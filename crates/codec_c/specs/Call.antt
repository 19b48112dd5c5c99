-- What calls answer and write.
use Rattle.std.specs.Prelude.{◌≡◌, ⊤, ℕ, ◌<◌, ◌≤◌, ◌-◌, ◌^◌, min, List, ◌++◌, length, drop, Option, Some, None, Result, Ok, Err}
use Rattle.tl_model.specs.declared.fault.FrameFault.{FrameFault}
use Rattle.pic_planes.specs.Shape.{Layout, layout, IsShape}
use Rattle.pic_planes.specs.Bytes.{sizes, sample_count, image_in}
use Rattle.ffv1_record.specs.Parameters.{Parameters}
use Rattle.ffv1_record.specs.Reading.{parameters}
use Rattle.ffv1_record.specs.Suits.{Suits}
use Rattle.ffv1_frame.specs.declared.fault.DecodeFault.TheVariants.{Frame}
use Rattle.ffv1_frame.specs.Frame.{Gives}
use Rattle.ffv1_frame.specs.Written.{Writes}
use Rattle.codec_c.specs.declared.answer.Answer.{Answer}
use Rattle.codec_c.specs.declared.answer.Answer.TheVariants.{Done, Arguments, Memory, Fault, SliceTooLong}
use Rattle.codec_c.specs.Answer.{number_of}

-- the bytes of a record, and the size of the pictures
pub record Call : Type 0 where
  pub record_bytes : List ℕ
  pub width : ℕ
  pub height : ℕ

abbrev pub call : List ℕ → ℕ → ℕ → Call
call record_bytes width height = record { record_bytes = record_bytes; width = width; height = height }

-- The record can be read, and suits pictures of the size.
pub record IsClip (c : Call) (p : Parameters) (shape : Layout) : Type 0 where
  pub read : parameters c.record_bytes ≡ Ok p
  pub shape_is : shape ≡ layout c.width c.height p.chroma
  pub sized : IsShape shape
  pub suits : Suits p shape

-- These are all samples of a picture.
abbrev pub AreSamples : Layout → List ℕ → Type 0
AreSamples shape samples = length samples ≡ sample_count (sizes shape)

-- ---- decoding
pub record CanDecode (c : Call) (packet samples : List ℕ) (p : Parameters) (shape : Layout) : Type 0 where
  pub clip : IsClip c p shape
  pub room : AreSamples shape samples
  pub short : length packet ≤ 2 ^ 33

-- What decoding a packet answers, and what then stands where samples were. Only decoded samples are written.
abbrev pub Decodes : Call → List ℕ → List ℕ → List ℕ → Answer → Type 0
Decodes c packet before after (Done count) =
    (p : Parameters) × (shape : Layout) × CanDecode c packet before p shape × Gives p shape packet (Ok (image_in shape after))
    × AreSamples shape after × (count ≡ 0)
Decodes c packet before after (Fault fault) =
    (p : Parameters) × (shape : Layout) × CanDecode c packet before p shape × Gives p shape packet (Err (Frame fault)) × (after ≡ before)
Decodes c packet before after Arguments =
    ((p : Parameters) (shape : Layout) → CanDecode c packet before p shape → ⊥) × (after ≡ before)
Decodes c packet before after Memory = after ≡ before
Decodes c packet before after SliceTooLong = ⊥

-- ---- encoding
pub record CanEncode (c : Call) (samples : List ℕ) (p : Parameters) (shape : Layout) : Type 0 where
  pub clip : IsClip c p shape
  pub all : AreSamples shape samples

-- the longest packet that is answered, by the room for it
abbrev pub longest : List ℕ → ℕ
longest room = min (length room) (2 ^ 32 - 1)

-- What a packet answers that is put to the front of a room, or doesn't fit.
abbrev pub Puts : List ℕ → List ℕ → List ℕ → Answer → Type 0
Puts packet before after (Done count) =
    (length packet ≤ longest before) × (count ≡ length packet) × (after ≡ packet ++ drop (length packet) before)
Puts packet before after Arguments = (longest before < length packet) × (after ≡ before)
Puts packet before after Memory = ⊥
Puts packet before after (Fault fault) = ⊥
Puts packet before after SliceTooLong = ⊥

-- What encoding samples answers, and what then stands in the room for a packet. Only a packet is written, to its front.
abbrev pub Encodes : Call → List ℕ → List ℕ → List ℕ → Answer → Type 0
Encodes c samples before after (Done count) =
    (p : Parameters) × (shape : Layout) × (packet : List ℕ) × CanEncode c samples p shape
    × Writes p (image_in shape samples) (Some packet) × Puts packet before after (Done count)
Encodes c samples before after SliceTooLong =
    (p : Parameters) × (shape : Layout) × CanEncode c samples p shape × Writes p (image_in shape samples) None × (after ≡ before)
Encodes c samples before after Arguments =
    ((p : Parameters) (shape : Layout) → CanEncode c samples p shape
    → (packet : List ℕ) × Writes p (image_in shape samples) (Some packet) × (longest before < length packet)) × (after ≡ before)
Encodes c samples before after Memory = after ≡ before
Encodes c samples before after (Fault fault) = ⊥

-- ---- the numbers of the answers
abbrev pub DecodingTells : Call → List ℕ → List ℕ → List ℕ → ℕ → Type 0
DecodingTells c packet before after number = (answer : Answer) × Decodes c packet before after answer × (number ≡ number_of answer)

abbrev pub EncodingTells : Call → List ℕ → List ℕ → List ℕ → ℕ → Type 0
EncodingTells c samples before after number = (answer : Answer) × Encodes c samples before after answer × (number ≡ number_of answer)

-- ---- a call without a clip
-- There is no clip, or memory was wanting.
abbrev pub Refuses : Call → Answer → Type 0
Refuses c Arguments = (p : Parameters) (shape : Layout) → IsClip c p shape → ⊥
Refuses c Memory = ⊤
Refuses c (Done count) = ⊥
Refuses c (Fault fault) = ⊥
Refuses c SliceTooLong = ⊥
