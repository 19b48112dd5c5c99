-- In each master of a plain file no element is faulty.
use Rattle.std.proofs.Common.{◌≡◌, ℕ, suc, false, eqb, List, [], ◌∷◌, ◌++◌, length, None, sym, ap, subst, ◌∙◌}
use Rattle.std.specs.List.{AllByRecursion}
use Rattle.ebml_core.specs.declared.element.Element.{Element}
use Rattle.mkv_elements.specs.declared.TheConstants.{EBML, DOC_TYPE, SEGMENT, TRACKS, TRACK_ENTRY, TRACK_NUMBER, TRACK_TYPE, CODEC_ID, CODEC_PRIVATE, VIDEO, PIXEL_WIDTH, PIXEL_HEIGHT, CLUSTER, TIMESTAMP, SIMPLE_BLOCK, BLOCK_GROUP}
use Rattle.mkv_elements.specs.Table.{kind_in}
use Rattle.mkv_read.specs.declared.clip.Place.{Place}
use Rattle.mkv_read.specs.declared.clip.ClipIndex.{ClipIndex}
use Rattle.mkv_read.specs.Limits.{video_type}
use Rattle.mkv_read.specs.Plain as plain
use Rattle.mkv_read.specs.Plain.{named, Lacks, Children, HasOne, IsMatroska, IsSide, IsTrack, AreBlocks, IsCluster, AreClusters, IsSegment}
use Rattle.mkv_read.specs.Elements.{LiesWithin, elements_in}
use Rattle.mkv_read.specs.Faults.{first_fault, fault_in, element_fault}
use Rattle.mkv_read.proofs.Held.{Holds-known, named-split}
use Rattle.mkv_read.proofs.PlainElements.{Holds-elements, all_by_ids, first_fault-none}
use Rattle.mkv_read.proofs.PlainFaults.{IsChild, IsSound, named_behind, same_children, named_children, one_child, other_sound, text_sound, text_or_bytes_sound, number_sound, master_sound, block_sound}
use Rattle.mkv_read.proofs.TableKinds.{others_in_header, doc_type_in_header, others_in_segment, tracks_in_segment, cluster_in_segment, others_in_tracks, entry_in_tracks, others_in_entry, number_in_entry, type_in_entry, video_in_entry, others_in_video, width_in_video, height_in_video, others_in_cluster, timestamp_in_cluster}

-- a master whose children are sound
all_sound : (levels : ℕ) (bytes : List ℕ) (parent : ℕ) (master : Element) (es : List Element) → Children bytes master es → AllByRecursion (IsSound levels bytes parent) es → fault_in (suc levels) bytes parent (elements_in bytes master) ≡ None
unfolding fault_in IsSound
all_sound levels bytes parent master es held sound =
    ap (first_fault (element_fault levels bytes parent)) (Holds-elements bytes master.content master.end es held) ∙ first_fault-none (element_fault levels bytes parent) es sound

-- those of one id, of which there is one
alone : (levels : ℕ) (bytes : List ℕ) (parent id : ℕ) (es : List Element) (child : Element) → named id es ≡ child ∷ [] → IsSound levels bytes parent child → AllByRecursion (IsSound levels bytes parent) (named id es)
alone levels bytes parent id es child one sound = subst (AllByRecursion (IsSound levels bytes parent)) (sym one) (sound, tt)

pub header_sound : (levels : ℕ) (bytes : List ℕ) (header : Element) → LiesWithin (length bytes) header → IsMatroska bytes header → fault_in (suc levels) bytes EBML (elements_in bytes header) ≡ None
header_sound levels bytes header lies h =
    let one = h.one_doc_type in
    let child = one_child bytes header DOC_TYPE h.doc_type lies one in
    let text : IsSound levels bytes EBML h.doc_type = text_sound levels bytes EBML h.doc_type child.known (ap (kind_in EBML) child.id_is ∙ doc_type_in_header) in
    let those = alone levels bytes EBML DOC_TYPE one.children h.doc_type one.one text in
    all_sound levels bytes EBML header one.children one.held (all_by_ids (IsSound levels bytes EBML) DOC_TYPE DOC_TYPE DOC_TYPE one.children those those those (Holds-known bytes header.content header.end one.children one.held) (λ e known a b d. other_sound levels bytes EBML e known (others_in_header e.id a)))

pub video_sound : (levels : ℕ) (bytes : List ℕ) (video : Element) (width height : ℕ) → LiesWithin (length bytes) video → IsSide bytes video PIXEL_WIDTH width → IsSide bytes video PIXEL_HEIGHT height → fault_in (suc levels) bytes VIDEO (elements_in bytes video) ≡ None
video_sound levels bytes video width height lies w h =
    let es = w.one.children in
    let same = same_children bytes video h.one.children es h.one.held w.one.held in
    let ws = alone levels bytes VIDEO PIXEL_WIDTH es w.side w.one.one (number_sound levels bytes VIDEO PIXEL_WIDTH w.side width (one_child bytes video PIXEL_WIDTH w.side lies w.one) width_in_video w.value) in
    let hs = alone levels bytes VIDEO PIXEL_HEIGHT es h.side (ap (named PIXEL_HEIGHT) (sym same) ∙ h.one.one) (number_sound levels bytes VIDEO PIXEL_HEIGHT h.side height (one_child bytes video PIXEL_HEIGHT h.side lies h.one) height_in_video h.value) in
    all_sound levels bytes VIDEO video es w.one.held (all_by_ids (IsSound levels bytes VIDEO) PIXEL_WIDTH PIXEL_HEIGHT PIXEL_HEIGHT es ws hs hs (Holds-known bytes video.content video.end es w.one.held) (λ e known a b d. other_sound levels bytes VIDEO e known (others_in_video e.id a b)))

pub tracks_sound : (levels : ℕ) (bytes : List ℕ) (tracks : Element) (number width height : ℕ) (private : Place) → LiesWithin (length bytes) tracks → IsTrack bytes tracks number width height private → fault_in (suc (suc (suc levels))) bytes TRACKS (elements_in bytes tracks) ≡ None
tracks_sound levels bytes tracks number width height private lies h =
    let entry = one_child bytes tracks TRACK_ENTRY h.entry lies h.one_entry in
    let f = h.ffv1 in
    let es = f.one_number.children in
    let known = Holds-known bytes h.entry.content h.entry.end es f.one_number.held in
    let types = same_children bytes h.entry f.one_type.children es f.one_type.held f.one_number.held in
    let videos = same_children bytes h.entry h.one_video.children es h.one_video.held f.one_number.held in
    let video = one_child bytes h.entry VIDEO h.video entry.lies h.one_video in
    let ns = alone (suc levels) bytes TRACK_ENTRY TRACK_NUMBER es f.number_element f.one_number.one (number_sound (suc levels) bytes TRACK_ENTRY TRACK_NUMBER f.number_element number (one_child bytes h.entry TRACK_NUMBER f.number_element entry.lies f.one_number) number_in_entry f.number_is) in
    let ts = alone (suc levels) bytes TRACK_ENTRY TRACK_TYPE es f.type_element (ap (named TRACK_TYPE) (sym types) ∙ f.one_type.one) (number_sound (suc levels) bytes TRACK_ENTRY TRACK_TYPE f.type_element video_type (one_child bytes h.entry TRACK_TYPE f.type_element entry.lies f.one_type) type_in_entry f.type_is) in
    let vs = alone (suc levels) bytes TRACK_ENTRY VIDEO es h.video (ap (named VIDEO) (sym videos) ∙ h.one_video.one) (master_sound (suc levels) bytes TRACK_ENTRY VIDEO h.video video video_in_entry (video_sound levels bytes h.video width height video.lies h.width_is h.height_is)) in
    let inside : fault_in (suc (suc levels)) bytes TRACK_ENTRY (elements_in bytes h.entry) ≡ None = all_sound (suc levels) bytes TRACK_ENTRY h.entry es f.one_number.held (all_by_ids (IsSound (suc levels) bytes TRACK_ENTRY) TRACK_NUMBER TRACK_TYPE VIDEO es ns ts vs known (λ e known a b d. text_or_bytes_sound (suc levels) bytes TRACK_ENTRY e (eqb CODEC_ID e.id) (eqb CODEC_PRIVATE e.id) known (others_in_entry e.id a b d))) in
    let those = alone (suc (suc levels)) bytes TRACKS TRACK_ENTRY h.one_entry.children h.entry h.one_entry.one (master_sound (suc (suc levels)) bytes TRACKS TRACK_ENTRY h.entry entry entry_in_tracks inside) in
    all_sound (suc (suc levels)) bytes TRACKS tracks h.one_entry.children h.one_entry.held (all_by_ids (IsSound (suc (suc levels)) bytes TRACKS) TRACK_ENTRY TRACK_ENTRY TRACK_ENTRY h.one_entry.children those those those (Holds-known bytes tracks.content tracks.end h.one_entry.children h.one_entry.held) (λ e known a b d. other_sound (suc (suc levels)) bytes TRACKS e known (others_in_tracks e.id a)))

blocks_sound : (levels : ℕ) (bytes : List ℕ) (number timestamp : ℕ) (es : List Element) (blocks : List plain.Block) → AllByRecursion (IsChild bytes SIMPLE_BLOCK) es → AreBlocks bytes number timestamp es blocks → AllByRecursion (IsSound levels bytes CLUSTER) es
blocks_sound levels bytes number timestamp [] blocks children are = tt
blocks_sound levels bytes number timestamp (e ∷ es) [] children are = absurd are
blocks_sound levels bytes number timestamp (e ∷ es) (block ∷ blocks) children are =
    (block_sound levels bytes number timestamp e block children.0 are.0, blocks_sound levels bytes number timestamp es blocks children.1 are.1)

none_sound : (levels : ℕ) (bytes : List ℕ) (parent id : ℕ) (es : List Element) → Lacks id es → AllByRecursion (IsSound levels bytes parent) (named id es)
none_sound levels bytes parent id es lacks = subst (AllByRecursion (IsSound levels bytes parent)) (sym lacks) tt

pub cluster_sound : (levels : ℕ) (bytes : List ℕ) (number : ℕ) (cluster : Element) (blocks : List plain.Block) → LiesWithin (length bytes) cluster → IsCluster bytes number cluster blocks → fault_in (suc levels) bytes CLUSTER (elements_in bytes cluster) ≡ None
cluster_sound levels bytes number cluster blocks lies h =
    let es = h.before ++ h.timestamp ∷ h.after in
    let time_one : named TIMESTAMP es ≡ h.timestamp ∷ [] = named-split TIMESTAMP h.before h.timestamp h.after h.is_timestamp h.none_before ∙ ap (λ (xs : List Element). h.timestamp ∷ xs) h.none_after in
    let no_block : eqb h.timestamp.id SIMPLE_BLOCK ≡ false = ap (λ (n : ℕ). eqb n SIMPLE_BLOCK) h.is_timestamp in
    let no_group : eqb h.timestamp.id BLOCK_GROUP ≡ false = ap (λ (n : ℕ). eqb n BLOCK_GROUP) h.is_timestamp in
    let blocks_are : named SIMPLE_BLOCK es ≡ named SIMPLE_BLOCK h.after = named_behind SIMPLE_BLOCK h.before h.timestamp h.after h.no_early_block no_block in
    let groups : named BLOCK_GROUP es ≡ [] = named_behind BLOCK_GROUP h.before h.timestamp h.after h.no_group_before no_group ∙ h.no_group_after in
    let timestamp = (subst (AllByRecursion (IsChild bytes TIMESTAMP)) time_one (named_children bytes cluster TIMESTAMP es lies h.held)).0 in
    let ts = alone levels bytes CLUSTER TIMESTAMP es h.timestamp time_one (number_sound levels bytes CLUSTER TIMESTAMP h.timestamp h.time timestamp timestamp_in_cluster h.time_is) in
    let children = subst (AllByRecursion (IsChild bytes SIMPLE_BLOCK)) blocks_are (named_children bytes cluster SIMPLE_BLOCK es lies h.held) in
    let bs = subst (AllByRecursion (IsSound levels bytes CLUSTER)) (sym blocks_are) (blocks_sound levels bytes number h.time (named SIMPLE_BLOCK h.after) blocks children h.are_blocks) in
    all_sound levels bytes CLUSTER cluster es h.held (all_by_ids (IsSound levels bytes CLUSTER) TIMESTAMP SIMPLE_BLOCK BLOCK_GROUP es ts bs (none_sound levels bytes CLUSTER BLOCK_GROUP es groups) (Holds-known bytes cluster.content cluster.end es h.held) (λ e known a b d. other_sound levels bytes CLUSTER e known (others_in_cluster e.id a b d)))

clusters_sound : (levels : ℕ) (bytes : List ℕ) (number : ℕ) (cs : List Element) (blocks : List plain.Block) → AllByRecursion (IsChild bytes CLUSTER) cs → AreClusters bytes number cs blocks → AllByRecursion (IsSound (suc levels) bytes SEGMENT) cs
clusters_sound levels bytes number [] blocks children are = tt
clusters_sound levels bytes number (c ∷ cs) blocks children are =
    (master_sound (suc levels) bytes SEGMENT CLUSTER c children.0 cluster_in_segment (cluster_sound levels bytes number c are.0 children.0.lies are.2), clusters_sound levels bytes number cs are.1 children.1 are.3)

pub segment_sound : (levels : ℕ) (bytes : List ℕ) (segment : Element) (clip : ClipIndex) → LiesWithin (length bytes) segment → IsSegment bytes segment clip → fault_in (suc (suc (suc (suc levels)))) bytes SEGMENT (elements_in bytes segment) ≡ None
segment_sound levels bytes segment clip lies h =
    let below = suc (suc (suc levels)) in
    let es = h.before ++ h.tracks ∷ h.after in
    let one : named TRACKS es ≡ h.tracks ∷ [] = named-split TRACKS h.before h.tracks h.after h.is_tracks h.none_before ∙ ap (λ (xs : List Element). h.tracks ∷ xs) h.none_after in
    let no_cluster : eqb h.tracks.id CLUSTER ≡ false = ap (λ (n : ℕ). eqb n CLUSTER) h.is_tracks in
    let clusters : named CLUSTER es ≡ named CLUSTER h.after = named_behind CLUSTER h.before h.tracks h.after h.no_early_cluster no_cluster in
    let tracks = (subst (AllByRecursion (IsChild bytes TRACKS)) one (named_children bytes segment TRACKS es lies h.held)).0 in
    let ts = alone below bytes SEGMENT TRACKS es h.tracks one (master_sound below bytes SEGMENT TRACKS h.tracks tracks tracks_in_segment (tracks_sound levels bytes h.tracks h.number clip.width clip.height clip.private tracks.lies h.track)) in
    let children = subst (AllByRecursion (IsChild bytes CLUSTER)) clusters (named_children bytes segment CLUSTER es lies h.held) in
    let cs = subst (AllByRecursion (IsSound below bytes SEGMENT)) (sym clusters) (clusters_sound (suc (suc levels)) bytes h.number (named CLUSTER h.after) h.blocks children h.clusters) in
    all_sound below bytes SEGMENT segment es h.held (all_by_ids (IsSound below bytes SEGMENT) TRACKS CLUSTER CLUSTER es ts cs cs (Holds-known bytes segment.content segment.end es h.held) (λ e known a b d. other_sound below bytes SEGMENT e known (others_in_segment e.id a b)))
