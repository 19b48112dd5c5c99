-- The blocks of a track, in file order (RFC 9559 sections 5.1.3 and 10).
use Rattle.std.specs.Prelude.{ℕ, suc, zero, ◌+◌, ◌==◌, nat_lt, not, List, [], ◌∷◌, ◌++◌, Option, Some, None, if◌then◌else◌, bit_and}
use Rattle.ebml_core.specs.declared.element.Element.{Element}
use Rattle.ebml_core.specs.Listing.{Listing, ends, breaks, gives}
use Rattle.mkv_elements.specs.declared.TheConstants.{CLUSTER, TIMESTAMP}
use Rattle.mkv_elements.specs.declared.table.Kind.{Kind}
use Rattle.mkv_elements.specs.declared.table.Kind.TheVariants as kinds
use Rattle.mkv_elements.specs.Table.{kind_in}
use Rattle.mkv_read.specs.declared.block.Head.{Head}
use Rattle.mkv_read.specs.declared.block.Block.{Block}
use Rattle.mkv_read.specs.declared.fault.ClipFault.{ClipFault}
use Rattle.mkv_read.specs.declared.fault.ClipFault.TheVariants as faults
use Rattle.mkv_read.specs.Elements.{content_of, elements_in, first, number_of}
use Rattle.mkv_read.specs.Faults.{head_at}

-- The block of an element, where it is of this track.
abbrev pub block_of : Option ℕ → ℕ → Element → Option Head → List Block
block_of None time e head = []
block_of (Some track) time e None = []
block_of (Some track) time e (Some head) =
    if head.track == track
    then record { at = e.start; time = time + head.time; laced = not (bit_and head.flags 6 == 0); packet = head.packet } ∷ []
    else []

-- the blocks of each of these elements, in order
unfoldable pub each_block : (Element → List Block) → Listing → List Block
each_block blocks ends = []
each_block blocks (breaks at) = []
each_block blocks (gives e rest) = blocks e ++ each_block blocks rest

-- the time of the blocks in a master: in a Cluster it is the Cluster's Timestamp, else that of the blocks around it
abbrev pub time_in : List ℕ → ℕ → Element → ℕ
time_in bytes time e = if e.id == CLUSTER then number_of bytes (first TIMESTAMP (elements_in bytes e)) else time

-- the blocks of an element that is read as this
abbrev pub blocks_as : List ℕ → Option ℕ → ℕ → Element → List Block → Option Kind → List Block
blocks_as bytes track time e inside (Some kinds.Master) = inside
blocks_as bytes track time e inside (Some kinds.Block) = block_of track time e (head_at e.content (content_of bytes e))
blocks_as bytes track time e inside other = []

-- the blocks among elements in a parent, over so many levels of masters
unfoldable pub blocks_in : ℕ → List ℕ → Option ℕ → ℕ → ℕ → Listing → List Block
blocks_in zero bytes track parent time es = []
blocks_in (suc levels) bytes track parent time es =
    each_block (λ e. blocks_as bytes track time e
    (blocks_in levels bytes track e.id (time_in bytes time e) (elements_in bytes e)) (kind_in parent e.id)) es

-- the blocks of an element in a parent, with so many levels of masters in it
abbrev pub element_blocks : ℕ → List ℕ → Option ℕ → ℕ → ℕ → Element → List Block
element_blocks levels bytes track parent time e =
    blocks_as bytes track time e (blocks_in levels bytes track e.id (time_in bytes time e) (elements_in bytes e)) (kind_in parent e.id)

-- what is wrong with a block where the one before has this time
unfoldable pub block_fault : ℕ → Block → Option ClipFault
block_fault last block =
    if block.laced then Some (faults.Laced block.at) else (
    if nat_lt block.time last then Some (faults.TimeOrder block.at) else None)

abbrev pub else_fault : Option ClipFault → Option ClipFault → Option ClipFault
else_fault (Some fault) later = Some fault
else_fault None later = later

-- the fault of the first block that is laced, or earlier than the one before, which has this time
unfoldable pub fault_after : ℕ → List Block → Option ClipFault
fault_after last [] = None
fault_after last (block ∷ blocks) = else_fault (block_fault last block) (fault_after block.time blocks)
