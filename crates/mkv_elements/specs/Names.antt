-- The ids by their names (RFC 8794 section 11.2, RFC 9559 section 5).
use Rattle.std.specs.Prelude.{◌≡◌}
use Rattle.mkv_elements.specs.declared.TheConstants.{EBML, EBML_VERSION, EBML_READ_VERSION, EBML_MAX_ID_LENGTH, EBML_MAX_SIZE_LENGTH, DOC_TYPE, DOC_TYPE_VERSION, DOC_TYPE_READ_VERSION, SEGMENT, SEEK_HEAD, INFO, TRACKS, CLUSTER, CUES, CHAPTERS, ATTACHMENTS, TAGS, TIMESTAMP_SCALE, MUXING_APP, WRITING_APP, TRACK_ENTRY, TRACK_NUMBER, TRACK_UID, TRACK_TYPE, FLAG_LACING, CODEC_ID, CODEC_PRIVATE, CONTENT_ENCODINGS, VIDEO, PIXEL_WIDTH, PIXEL_HEIGHT, TIMESTAMP, SIMPLE_BLOCK, BLOCK_GROUP, BLOCK, CUE_POINT, CUE_TIME, CUE_TRACK_POSITIONS, CUE_TRACK, CUE_CLUSTER_POSITION}

pub record AreNamed : Type 0 where
  pub ebml : EBML ≡ 0x1A45DFA3
  pub ebml_version : EBML_VERSION ≡ 0x4286
  pub ebml_read_version : EBML_READ_VERSION ≡ 0x42F7
  pub ebml_max_id_length : EBML_MAX_ID_LENGTH ≡ 0x42F2
  pub ebml_max_size_length : EBML_MAX_SIZE_LENGTH ≡ 0x42F3
  pub doc_type : DOC_TYPE ≡ 0x4282
  pub doc_type_version : DOC_TYPE_VERSION ≡ 0x4287
  pub doc_type_read_version : DOC_TYPE_READ_VERSION ≡ 0x4285
  pub segment : SEGMENT ≡ 0x18538067
  pub seek_head : SEEK_HEAD ≡ 0x114D9B74
  pub info : INFO ≡ 0x1549A966
  pub tracks : TRACKS ≡ 0x1654AE6B
  pub cluster : CLUSTER ≡ 0x1F43B675
  pub cues : CUES ≡ 0x1C53BB6B
  pub chapters : CHAPTERS ≡ 0x1043A770
  pub attachments : ATTACHMENTS ≡ 0x1941A469
  pub tags : TAGS ≡ 0x1254C367
  pub timestamp_scale : TIMESTAMP_SCALE ≡ 0x2AD7B1
  pub muxing_app : MUXING_APP ≡ 0x4D80
  pub writing_app : WRITING_APP ≡ 0x5741
  pub track_entry : TRACK_ENTRY ≡ 0xAE
  pub track_number : TRACK_NUMBER ≡ 0xD7
  pub track_uid : TRACK_UID ≡ 0x73C5
  pub track_type : TRACK_TYPE ≡ 0x83
  pub flag_lacing : FLAG_LACING ≡ 0x9C
  pub codec_id : CODEC_ID ≡ 0x86
  pub codec_private : CODEC_PRIVATE ≡ 0x63A2
  pub content_encodings : CONTENT_ENCODINGS ≡ 0x6D80
  pub video : VIDEO ≡ 0xE0
  pub pixel_width : PIXEL_WIDTH ≡ 0xB0
  pub pixel_height : PIXEL_HEIGHT ≡ 0xBA
  pub timestamp : TIMESTAMP ≡ 0xE7
  pub simple_block : SIMPLE_BLOCK ≡ 0xA3
  pub block_group : BLOCK_GROUP ≡ 0xA0
  pub block : BLOCK ≡ 0xA1
  pub cue_point : CUE_POINT ≡ 0xBB
  pub cue_time : CUE_TIME ≡ 0xB3
  pub cue_track_positions : CUE_TRACK_POSITIONS ≡ 0xB7
  pub cue_track : CUE_TRACK ≡ 0xF7
  pub cue_cluster_position : CUE_CLUSTER_POSITION ≡ 0xF1
