-- What the table of elements has in each master that is read.
use Rattle.std.proofs.Common.{◌≡◌, ℕ, Bool, true, false, cond, eqb, Some, None, refl, sym}
use Rattle.std.specs.Prelude.{◌&&◌, option_map}
use Rattle.std.proofs.lemmas.Bool.{ne_eqb, eqb-false}
use Rattle.mkv_elements.specs.declared.TheConstants.{EBML, DOC_TYPE, SEGMENT, TRACKS, TRACK_ENTRY, TRACK_NUMBER, TRACK_TYPE, CODEC_ID, CODEC_PRIVATE, VIDEO, PIXEL_WIDTH, PIXEL_HEIGHT, CLUSTER, TIMESTAMP, SIMPLE_BLOCK, BLOCK_GROUP}
use Rattle.mkv_elements.specs.declared.table.Kind.TheVariants as kinds
use Rattle.mkv_elements.specs.declared.table.Row.{Row}
use Rattle.mkv_elements.specs.declared.table.TheConstants.{FILE}
use Rattle.mkv_elements.specs.Table.{kind_in}

and-false : (b : Bool) → (b && false) ≡ false
and-false true = refl
and-false false = refl

and-true : (b : Bool) → (b && true) ≡ b
and-true true = refl
and-true false = refl

pub flipped : (m n : ℕ) → eqb m n ≡ false → eqb n m ≡ false
flipped m n h = ne_eqb n m (λ e. eqb-false m n h (sym e))

pub header_in_file : kind_in FILE EBML ≡ Some kinds.Master
unfolding kind_in
header_in_file = refl

pub segment_in_file : kind_in FILE SEGMENT ≡ Some kinds.Master
unfolding kind_in
segment_in_file = refl

pub others_in_header : (id : ℕ) → eqb id DOC_TYPE ≡ false → kind_in EBML id ≡ None
unfolding kind_in
others_in_header id a = simp (and-false, flipped id DOC_TYPE a) refl

pub doc_type_in_header : kind_in EBML DOC_TYPE ≡ Some kinds.Text
unfolding kind_in
doc_type_in_header = refl

pub others_in_segment : (id : ℕ) → eqb id TRACKS ≡ false → eqb id CLUSTER ≡ false → kind_in SEGMENT id ≡ None
unfolding kind_in
others_in_segment id a b = simp (and-false, flipped id TRACKS a, flipped id CLUSTER b) refl

pub tracks_in_segment : kind_in SEGMENT TRACKS ≡ Some kinds.Master
unfolding kind_in
tracks_in_segment = refl

pub cluster_in_segment : kind_in SEGMENT CLUSTER ≡ Some kinds.Master
unfolding kind_in
cluster_in_segment = refl

pub others_in_tracks : (id : ℕ) → eqb id TRACK_ENTRY ≡ false → kind_in TRACKS id ≡ None
unfolding kind_in
others_in_tracks id a = simp (and-false, flipped id TRACK_ENTRY a) refl

pub entry_in_tracks : kind_in TRACKS TRACK_ENTRY ≡ Some kinds.Master
unfolding kind_in
entry_in_tracks = refl

-- In a TrackEntry there are texts and bytes too, of which reading asks nothing.
pub others_in_entry : (id : ℕ) → eqb id TRACK_NUMBER ≡ false → eqb id TRACK_TYPE ≡ false → eqb id VIDEO ≡ false → kind_in TRACK_ENTRY id ≡ cond (eqb CODEC_ID id) (Some kinds.Text) (cond (eqb CODEC_PRIVATE id) (Some kinds.Binary) None)
unfolding kind_in
others_in_entry id a b c =
    simp (and-false, and-true, flipped id TRACK_NUMBER a, flipped id TRACK_TYPE b, flipped id VIDEO c) (by_ids (eqb CODEC_ID id) (eqb CODEC_PRIVATE id))
  where
    by_ids : (x y : Bool) → option_map (λ (row : Row). row.kind) (cond x (Some (record { id = CODEC_ID; parent = TRACK_ENTRY; kind = kinds.Text; read = true })) (cond y (Some (record { id = CODEC_PRIVATE; parent = TRACK_ENTRY; kind = kinds.Binary; read = true })) None)) ≡ cond x (Some kinds.Text) (cond y (Some kinds.Binary) None)
    by_ids true y = refl
    by_ids false true = refl
    by_ids false false = refl

pub number_in_entry : kind_in TRACK_ENTRY TRACK_NUMBER ≡ Some kinds.Unsigned
unfolding kind_in
number_in_entry = refl

pub type_in_entry : kind_in TRACK_ENTRY TRACK_TYPE ≡ Some kinds.Unsigned
unfolding kind_in
type_in_entry = refl

pub video_in_entry : kind_in TRACK_ENTRY VIDEO ≡ Some kinds.Master
unfolding kind_in
video_in_entry = refl

pub others_in_video : (id : ℕ) → eqb id PIXEL_WIDTH ≡ false → eqb id PIXEL_HEIGHT ≡ false → kind_in VIDEO id ≡ None
unfolding kind_in
others_in_video id a b = simp (and-false, flipped id PIXEL_WIDTH a, flipped id PIXEL_HEIGHT b) refl

pub width_in_video : kind_in VIDEO PIXEL_WIDTH ≡ Some kinds.Unsigned
unfolding kind_in
width_in_video = refl

pub height_in_video : kind_in VIDEO PIXEL_HEIGHT ≡ Some kinds.Unsigned
unfolding kind_in
height_in_video = refl

pub others_in_cluster : (id : ℕ) → eqb id TIMESTAMP ≡ false → eqb id SIMPLE_BLOCK ≡ false → eqb id BLOCK_GROUP ≡ false → kind_in CLUSTER id ≡ None
unfolding kind_in
others_in_cluster id a b c = simp (and-false, flipped id TIMESTAMP a, flipped id SIMPLE_BLOCK b, flipped id BLOCK_GROUP c) refl

pub timestamp_in_cluster : kind_in CLUSTER TIMESTAMP ≡ Some kinds.Unsigned
unfolding kind_in
timestamp_in_cluster = refl

pub block_in_cluster : kind_in CLUSTER SIMPLE_BLOCK ≡ Some kinds.Block
unfolding kind_in
block_in_cluster = refl
