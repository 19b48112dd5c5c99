-- A packet: slices one after the other, each its content and its footer. RFC 9043 sections 4.5 and 4.9.
use Rattle.std.specs.Prelude.{◌≡◌, ℕ, ◌<◌, ◌≤◌, ◌^◌, Bool, true, false, List, [], ◌∷◌, ◌++◌, length, slice_range, All}
use Rattle.byteorder.specs.Endian.{big_number}
use Rattle.tl_base.specs.Parity.{parity}
use Rattle.ffv1_frame.specs.declared.chain.Span.{Span}

pub record Slice : Type 0 where
  pub content : List ℕ
  pub footer : List ℕ

abbrev pub bytes_of : Slice → List ℕ
bytes_of slice = slice.content ++ slice.footer

-- slice_size, and with error correction error_status and slice_crc_parity
abbrev pub footer_length : Bool → ℕ
footer_length false = 3
footer_length true = 8

-- The footer has its length, and begins with slice_size, the number of bytes of the content. RFC 9043 section 4.9.1.
pub record IsSlice (ec : Bool) (slice : Slice) : Type 0 where
  pub footer : length slice.footer ≡ footer_length ec
  pub size : big_number 3 slice.footer ≡ length slice.content

-- The bytes are these slices, the last one first: it ends them, and what is before it is the other slices.
abbrev pub EndsWith : Bool → List ℕ → List Slice → Type 0
EndsWith ec bytes [] = bytes ≡ []
EndsWith ec bytes (last ∷ others) = (before : List ℕ) × (bytes ≡ before ++ bytes_of last) × IsSlice ec last × EndsWith ec before others

-- a slice by its places in a packet
abbrev pub slice_at : List ℕ → Span → Slice
slice_at packet span = record { content = slice_range packet span.from span.footer; footer = slice_range packet span.footer span.end }

-- Its places are in order, and within the packet.
pub record IsSpan (packet : List ℕ) (span : Span) : Type 0 where
  pub content : span.from ≤ span.footer
  pub footer : span.footer ≤ span.end
  pub within : span.end ≤ length packet

-- These are slices of the packet, which isn't too long to be decoded.
pub record AreFound (packet : List ℕ) (spans : List Span) : Type 0 where
  pub each : All (IsSpan packet) spans
  pub few : length spans < 2 ^ 32
  pub short : length packet ≤ 2 ^ 33

-- The parity of all its bytes is 0. RFC 9043 section 4.9.3.
abbrev pub HasParity : Slice → Type 0
HasParity slice = parity (bytes_of slice) ≡ 0

-- what stands past the last slice
abbrev pub no_slice : Slice
no_slice = record { content = []; footer = [] }
