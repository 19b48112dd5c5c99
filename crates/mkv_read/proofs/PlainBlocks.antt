-- The blocks that the whole reader finds in a plain file are those that it holds.
use Rattle.std.proofs.Common.{◌≡◌, ℕ, zero, suc, Bool, true, false, cond, eqb, ltb, List, [], ◌∷◌, ◌++◌, length, map, Option, Some, None, refl, sym, ap, subst, ◌∙◌, arith}
use Rattle.std.specs.Prelude.{not}
use Rattle.std.proofs.lemmas.Bool.{eqb-true, eq-eqb, le-ltb}
use Rattle.ebml_core.specs.declared.element.Element.{Element}
use Rattle.ebml_core.specs.Listing.{Listing, ends, breaks, gives, whole}
use Rattle.mkv_elements.specs.declared.TheConstants.{EBML, DOC_TYPE, SEGMENT, TRACKS, TRACK_ENTRY, TRACK_NUMBER, TRACK_TYPE, CODEC_ID, CODEC_PRIVATE, VIDEO, PIXEL_WIDTH, PIXEL_HEIGHT, CLUSTER, TIMESTAMP, SIMPLE_BLOCK, BLOCK_GROUP}
use Rattle.mkv_elements.specs.declared.table.Kind.{Kind}
use Rattle.mkv_elements.specs.declared.table.Kind.TheVariants as kinds
use Rattle.mkv_elements.specs.Table.{kind_in}
use Rattle.mkv_read.specs.declared.clip.Place.{Place}
use Rattle.mkv_read.specs.declared.block.Block.{Block}
use Rattle.mkv_read.specs.Plain as plain
use Rattle.mkv_read.specs.Plain.{named, Lacks, IsNumber, IsBlock, AreBlocks, IsCluster, AreClusters, NeverFall}
use Rattle.mkv_read.specs.Elements.{content_of, elements_in, first, number_of}
use Rattle.mkv_read.specs.Faults.{head_at}
use Rattle.mkv_read.specs.Blocks.{block_of, each_block, time_in, blocks_as, blocks_in, element_blocks, block_fault, fault_after}
use Rattle.mkv_read.proofs.Held.{named-split}
use Rattle.mkv_read.proofs.PlainElements.{Holds-elements, first-named}
use Rattle.mkv_read.proofs.PlainFaults.{block_head, named_behind}
use Rattle.mkv_read.proofs.TableKinds.{others_in_header, doc_type_in_header, others_in_segment, tracks_in_segment, cluster_in_segment, others_in_tracks, entry_in_tracks, others_in_entry, number_in_entry, type_in_entry, video_in_entry, others_in_video, width_in_video, height_in_video, others_in_cluster, timestamp_in_cluster, block_in_cluster}

-- ---- masters without blocks

each_block-none : (blocks : Element → List Block) (w : Listing) → ((e : Element) → blocks e ≡ []) → each_block blocks w ≡ []
unfolding each_block
each_block-none blocks ends h = refl
each_block-none blocks (breaks at) h = refl
each_block-none blocks (gives e rest) h = ap (λ (bs : List Block). bs ++ each_block blocks rest) (h e) ∙ each_block-none blocks rest h

-- what an element of this kind gives, where it is no block, and nothing is in it
pub as_none : (bytes : List ℕ) (track : Option ℕ) (time : ℕ) (e : Element) (inside : List Block) (found kind : Option Kind) → found ≡ kind → blocks_as bytes track time e inside kind ≡ [] → blocks_as bytes track time e inside found ≡ []
as_none bytes track time e inside found kind is none = ap (blocks_as bytes track time e inside) is ∙ none

pub none_in_header : (levels : ℕ) (bytes : List ℕ) (track : Option ℕ) (time : ℕ) (w : Listing) → blocks_in levels bytes track EBML time w ≡ []
unfolding blocks_in
none_in_header zero bytes track time w = refl
none_in_header (suc levels) bytes track time w =
    each_block-none _ w (λ e. by_id e (eqb e.id DOC_TYPE) refl)
  where
    by_id : (e : Element) (here : Bool) → eqb e.id DOC_TYPE ≡ here → element_blocks levels bytes track EBML time e ≡ []
    by_id e true is = as_none bytes track time e _ _ (Some kinds.Text) (ap (kind_in EBML) (eqb-true e.id DOC_TYPE is) ∙ doc_type_in_header) refl
    by_id e false other = as_none bytes track time e _ _ None (others_in_header e.id other) refl

none_in_video : (levels : ℕ) (bytes : List ℕ) (track : Option ℕ) (time : ℕ) (w : Listing) → blocks_in levels bytes track VIDEO time w ≡ []
unfolding blocks_in
none_in_video zero bytes track time w = refl
none_in_video (suc levels) bytes track time w =
    each_block-none _ w (λ e. by_id e (eqb e.id PIXEL_WIDTH) (eqb e.id PIXEL_HEIGHT) refl refl)
  where
    by_id : (e : Element) (x y : Bool) → eqb e.id PIXEL_WIDTH ≡ x → eqb e.id PIXEL_HEIGHT ≡ y → element_blocks levels bytes track VIDEO time e ≡ []
    by_id e true y is q = as_none bytes track time e _ _ (Some kinds.Unsigned) (ap (kind_in VIDEO) (eqb-true e.id PIXEL_WIDTH is) ∙ width_in_video) refl
    by_id e false true other is = as_none bytes track time e _ _ (Some kinds.Unsigned) (ap (kind_in VIDEO) (eqb-true e.id PIXEL_HEIGHT is) ∙ height_in_video) refl
    by_id e false false p q = as_none bytes track time e _ _ None (others_in_video e.id p q) refl

none_in_entry : (levels : ℕ) (bytes : List ℕ) (track : Option ℕ) (time : ℕ) (w : Listing) → blocks_in levels bytes track TRACK_ENTRY time w ≡ []
unfolding blocks_in
none_in_entry zero bytes track time w = refl
none_in_entry (suc levels) bytes track time w =
    each_block-none _ w (λ e. by_id e (eqb e.id TRACK_NUMBER) (eqb e.id TRACK_TYPE) (eqb e.id VIDEO) refl refl refl)
  where
    text_or_bytes : (e : Element) (inside : List Block) (x y : Bool) → blocks_as bytes track time e inside (cond x (Some kinds.Text) (cond y (Some kinds.Binary) None)) ≡ []
    text_or_bytes e inside true y = refl
    text_or_bytes e inside false true = refl
    text_or_bytes e inside false false = refl

    by_id : (e : Element) (x y z : Bool) → eqb e.id TRACK_NUMBER ≡ x → eqb e.id TRACK_TYPE ≡ y → eqb e.id VIDEO ≡ z → element_blocks levels bytes track TRACK_ENTRY time e ≡ []
    by_id e true y z is q r = as_none bytes track time e _ _ (Some kinds.Unsigned) (ap (kind_in TRACK_ENTRY) (eqb-true e.id TRACK_NUMBER is) ∙ number_in_entry) refl
    by_id e false true z p is r = as_none bytes track time e _ _ (Some kinds.Unsigned) (ap (kind_in TRACK_ENTRY) (eqb-true e.id TRACK_TYPE is) ∙ type_in_entry) refl
    by_id e false false true p q is =
        as_none bytes track time e _ _ (Some kinds.Master) (ap (kind_in TRACK_ENTRY) (eqb-true e.id VIDEO is) ∙ video_in_entry) (ap (λ (n : ℕ). blocks_in levels bytes track n (time_in bytes time e) (elements_in bytes e)) (eqb-true e.id VIDEO is) ∙ none_in_video levels bytes track (time_in bytes time e) (elements_in bytes e))
    by_id e false false false p q r = as_none bytes track time e _ _ _ (others_in_entry e.id p q r) (text_or_bytes e _ (eqb CODEC_ID e.id) (eqb CODEC_PRIVATE e.id))

none_in_tracks : (levels : ℕ) (bytes : List ℕ) (track : Option ℕ) (time : ℕ) (w : Listing) → blocks_in levels bytes track TRACKS time w ≡ []
unfolding blocks_in
none_in_tracks zero bytes track time w = refl
none_in_tracks (suc levels) bytes track time w =
    each_block-none _ w (λ e. by_id e (eqb e.id TRACK_ENTRY) refl)
  where
    by_id : (e : Element) (here : Bool) → eqb e.id TRACK_ENTRY ≡ here → element_blocks levels bytes track TRACKS time e ≡ []
    by_id e true is =
        as_none bytes track time e _ _ (Some kinds.Master) (ap (kind_in TRACKS) (eqb-true e.id TRACK_ENTRY is) ∙ entry_in_tracks) (ap (λ (n : ℕ). blocks_in levels bytes track n (time_in bytes time e) (elements_in bytes e)) (eqb-true e.id TRACK_ENTRY is) ∙ none_in_entry levels bytes track (time_in bytes time e) (elements_in bytes e))
    by_id e false other = as_none bytes track time e _ _ None (others_in_tracks e.id other) refl

-- ---- the same blocks

-- Blocks that have the same times and packets, and aren't laced.
abbrev pub SameBlocks : List Block → List plain.Block → Type 0
SameBlocks [] [] = Unit {0}
SameBlocks [] (y ∷ ys) = ⊥
SameBlocks (x ∷ xs) [] = ⊥
SameBlocks (x ∷ xs) (y ∷ ys) = (x.time ≡ y.time) × (x.laced ≡ false) × (x.packet ≡ y.packet) × SameBlocks xs ys

SameBlocks-append : (xs zs : List Block) (ys ws : List plain.Block) → SameBlocks xs ys → SameBlocks zs ws → SameBlocks (xs ++ zs) (ys ++ ws)
SameBlocks-append [] zs [] ws h k = k
SameBlocks-append [] zs (y ∷ ys) ws h k = absurd h
SameBlocks-append (x ∷ xs) zs [] ws h k = absurd h
SameBlocks-append (x ∷ xs) zs (y ∷ ys) ws h k = (h.0, h.1, h.2, SameBlocks-append xs zs ys ws h.3 k)

pub same_packets : (xs : List Block) (ys : List plain.Block) → SameBlocks xs ys → map (λ block. block.packet) xs ≡ map (λ block. block.packet) ys
same_packets [] [] h = refl
same_packets [] (y ∷ ys) h = absurd h
same_packets (x ∷ xs) [] h = absurd h
same_packets (x ∷ xs) (y ∷ ys) h =
    ap (λ (p : Place). p ∷ map (λ (block : Block). block.packet) xs) h.2 ∙ ap (λ (ps : List Place). y.packet ∷ ps) (same_packets xs ys h.3)

pub same_count : (xs : List Block) (ys : List plain.Block) → SameBlocks xs ys → length xs ≡ length ys
same_count [] [] h = refl
same_count [] (y ∷ ys) h = absurd h
same_count (x ∷ xs) [] h = absurd h
same_count (x ∷ xs) (y ∷ ys) h = ap suc (same_count xs ys h.3)

pub no_fault : (xs : List Block) (ys : List plain.Block) (last : ℕ) → SameBlocks xs ys → NeverFall last ys → fault_after last xs ≡ None
unfolding fault_after block_fault
no_fault [] [] last h falls = refl
no_fault [] (y ∷ ys) last h falls = absurd h
no_fault (x ∷ xs) [] last h falls = absurd h
no_fault (x ∷ xs) (y ∷ ys) last h falls =
    let later : ltb x.time last ≡ false = le-ltb x.time last (omega (arith, h.0, falls.0)) in
    rw (h.1, later) (no_fault xs ys x.time h.3 (subst (λ (n : ℕ). NeverFall n ys) (sym h.0) falls.1))

-- ---- a Cluster

block_of_head : (bytes : List ℕ) (number time : ℕ) (e : Element) (block : plain.Block) → IsBlock bytes number time e block → SameBlocks (block_of (Some number) time e (head_at e.content (content_of bytes e))) (block ∷ [])
block_of_head bytes number time e block is =
    let h = block_head bytes number time e block is in
    rw (h.is, eq-eqb h.head.track number h.track) (h.time, ap (λ (n : ℕ). not (eqb n 0)) h.unlaced, h.packet, tt)

blocks_same : (levels : ℕ) (bytes : List ℕ) (number time : ℕ) (es : List Element) (blocks : List plain.Block) → Lacks BLOCK_GROUP es → AreBlocks bytes number time (named SIMPLE_BLOCK es) blocks → SameBlocks (each_block (element_blocks levels bytes (Some number) CLUSTER time) (whole es)) blocks
unfolding each_block
blocks_same levels bytes number time [] blocks lacks are = subst (SameBlocks []) (sym are) tt
blocks_same levels bytes number time (e ∷ es) blocks lacks are =
    by_id (eqb e.id TIMESTAMP) (eqb e.id SIMPLE_BLOCK) (eqb e.id BLOCK_GROUP) refl refl refl blocks lacks are (λ later none are. blocks_same levels bytes number time es later none are)
  where
    rest : List Block
    rest = each_block (element_blocks levels bytes (Some number) CLUSTER time) (whole es)

    by_id : (t b g : Bool) → eqb e.id TIMESTAMP ≡ t → eqb e.id SIMPLE_BLOCK ≡ b → eqb e.id BLOCK_GROUP ≡ g → (blocks : List plain.Block) → cond g (e ∷ named BLOCK_GROUP es) (named BLOCK_GROUP es) ≡ [] → AreBlocks bytes number time (cond b (e ∷ named SIMPLE_BLOCK es) (named SIMPLE_BLOCK es)) blocks
        → ((later : List plain.Block) → Lacks BLOCK_GROUP es → AreBlocks bytes number time (named SIMPLE_BLOCK es) later → SameBlocks (each_block (element_blocks levels bytes (Some number) CLUSTER time) (whole es)) later)
        → SameBlocks (element_blocks levels bytes (Some number) CLUSTER time e ++ each_block (element_blocks levels bytes (Some number) CLUSTER time) (whole es)) blocks
    by_id t b true p q r blocks lacks are later = absurd cc
    by_id t true false p is r [] lacks are later = absurd are
    by_id t true false p is r (block ∷ blocks) lacks are later =
        rw (ap (kind_in CLUSTER) (eqb-true e.id SIMPLE_BLOCK is) ∙ block_in_cluster) (SameBlocks-append _ _ (block ∷ []) blocks (block_of_head bytes number time e block are.0) (later blocks lacks are.1))
    by_id true false false is q r blocks lacks are later =
        rw (ap (kind_in CLUSTER) (eqb-true e.id TIMESTAMP is) ∙ timestamp_in_cluster) (later blocks lacks are)
    by_id false false false p q r blocks lacks are later =
        rw (others_in_cluster e.id p q r) (later blocks lacks are)

pub number_is : (bytes : List ℕ) (e : Element) (n : ℕ) → IsNumber bytes e n → number_of bytes (Some e) ≡ n
number_is bytes e n h = rw (le-ltb 8 _ h.short) h.value

cluster_same : (levels : ℕ) (bytes : List ℕ) (number time : ℕ) (cluster : Element) (blocks : List plain.Block) → cluster.id ≡ CLUSTER → IsCluster bytes number cluster blocks → SameBlocks (element_blocks (suc levels) bytes (Some number) SEGMENT time cluster) blocks
unfolding blocks_in
cluster_same levels bytes number time cluster blocks is h =
    let es = h.before ++ h.timestamp ∷ h.after in
    let all = Holds-elements bytes cluster.content cluster.end es h.held in
    let time_one : named TIMESTAMP es ≡ h.timestamp ∷ [] = named-split TIMESTAMP h.before h.timestamp h.after h.is_timestamp h.none_before ∙ ap (λ (xs : List Element). h.timestamp ∷ xs) h.none_after in
    let timed : number_of bytes (first TIMESTAMP (elements_in bytes cluster)) ≡ h.time = ap (λ (w : Listing). number_of bytes (first TIMESTAMP w)) all ∙ ap (number_of bytes) (first-named TIMESTAMP es h.timestamp time_one) ∙ number_is bytes h.timestamp h.time h.time_is in
    let no_block : eqb h.timestamp.id SIMPLE_BLOCK ≡ false = ap (λ (n : ℕ). eqb n SIMPLE_BLOCK) h.is_timestamp in
    let no_group : eqb h.timestamp.id BLOCK_GROUP ≡ false = ap (λ (n : ℕ). eqb n BLOCK_GROUP) h.is_timestamp in
    let blocks_are : named SIMPLE_BLOCK es ≡ named SIMPLE_BLOCK h.after = named_behind SIMPLE_BLOCK h.before h.timestamp h.after h.no_early_block no_block in
    let groups : named BLOCK_GROUP es ≡ [] = named_behind BLOCK_GROUP h.before h.timestamp h.after h.no_group_before no_group ∙ h.no_group_after in
    let same = blocks_same levels bytes number h.time es blocks groups (subst (λ (xs : List Element). AreBlocks bytes number h.time xs blocks) (sym blocks_are) h.are_blocks) in
    let at_time : element_blocks (suc levels) bytes (Some number) SEGMENT time cluster ≡ each_block (element_blocks levels bytes (Some number) CLUSTER h.time) (whole es) = rw (ap (kind_in SEGMENT) is ∙ cluster_in_segment, is, timed, all) refl in
    subst (λ (bs : List Block). SameBlocks bs blocks) (sym at_time) same

pub clusters_same : (levels : ℕ) (bytes : List ℕ) (number time : ℕ) (es : List Element) (blocks : List plain.Block) → AreClusters bytes number (named CLUSTER es) blocks → SameBlocks (each_block (element_blocks (suc levels) bytes (Some number) SEGMENT time) (whole es)) blocks
unfolding each_block
clusters_same levels bytes number time [] blocks are = subst (SameBlocks []) (sym are) tt
clusters_same levels bytes number time (e ∷ es) blocks are =
    by_id (eqb e.id TRACKS) (eqb e.id CLUSTER) refl refl are (λ later are. clusters_same levels bytes number time es later are)
  where
    by_id : (t c : Bool) → eqb e.id TRACKS ≡ t → eqb e.id CLUSTER ≡ c → AreClusters bytes number (cond c (e ∷ named CLUSTER es) (named CLUSTER es)) blocks
        → ((later : List plain.Block) → AreClusters bytes number (named CLUSTER es) later → SameBlocks (each_block (element_blocks (suc levels) bytes (Some number) SEGMENT time) (whole es)) later)
        → SameBlocks (element_blocks (suc levels) bytes (Some number) SEGMENT time e ++ each_block (element_blocks (suc levels) bytes (Some number) SEGMENT time) (whole es)) blocks
    by_id t true p is are later =
        subst (SameBlocks _) (sym are.4) (SameBlocks-append _ _ are.0 are.1 (cluster_same levels bytes number time e are.0 (eqb-true e.id CLUSTER is) are.2) (later are.1 are.3))
    by_id true false is q are later =
        let none : element_blocks (suc levels) bytes (Some number) SEGMENT time e ≡ [] = as_none bytes (Some number) time e _ _ (Some kinds.Master) (ap (kind_in SEGMENT) (eqb-true e.id TRACKS is) ∙ tracks_in_segment) (ap (λ (n : ℕ). blocks_in (suc levels) bytes (Some number) n (time_in bytes time e) (elements_in bytes e)) (eqb-true e.id TRACKS is) ∙ none_in_tracks (suc levels) bytes (Some number) (time_in bytes time e) (elements_in bytes e)) in
        subst (λ (bs : List Block). SameBlocks (bs ++ each_block (element_blocks (suc levels) bytes (Some number) SEGMENT time) (whole es)) blocks) (sym none) (later blocks are)
    by_id false false p q are later =
        let none : element_blocks (suc levels) bytes (Some number) SEGMENT time e ≡ [] = as_none bytes (Some number) time e _ _ None (others_in_segment e.id p q) refl in
        subst (λ (bs : List Block). SameBlocks (bs ++ each_block (element_blocks (suc levels) bytes (Some number) SEGMENT time) (whole es)) blocks) (sym none) (later blocks are)
