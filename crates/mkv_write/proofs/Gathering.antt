-- What is read of elements: that none is faulty, and the blocks of track 1 in them.
use Rattle.std.proofs.Common.{◌≡◌, ℕ, suc, false, not, ◌&&◌, ◌+◌, ◌-◌, ◌≤◌, List, [], ◌∷◌, ◌++◌, Option, Some, None, refl, sym, ap, ◌∙◌, append_assoc}
use Rattle.std.proofs.lemmas.Bool.{le-ltb}
use Rattle.std.specs.Prelude.{bit_and, ◌==◌}
use Rattle.ebml_core.specs.declared.element.Element.{Element}
use Rattle.ebml_core.specs.Listing.{Listing, ends, gives, whole}
use Rattle.mkv_elements.specs.declared.table.Kind.TheVariants as kinds
use Rattle.mkv_elements.specs.Table.{kind_in}
use Rattle.mkv_read.specs.declared.block.Head.{Head}
use Rattle.mkv_read.specs.declared.block.Block.{Block}
use Rattle.mkv_read.specs.Elements.{content_of}
use Rattle.mkv_read.specs.Elements.{elements_in}
use Rattle.mkv_read.specs.Faults.{head_at, may_be_unknown, first_fault, fault_in, else_place, element_fault}
use Rattle.mkv_read.specs.Blocks.{each_block, blocks_in, element_blocks, time_in}

-- elements without a fault, and their blocks
pub record Reads (levels : ℕ) (bytes : List ℕ) (parent time : ℕ) (es : Listing) (blocks : List Block) : Type 0 where
  pub sound : fault_in levels bytes parent es ≡ None
  pub blocks_are : blocks_in levels bytes (Some 1) parent time es ≡ blocks

-- an element without a fault, and its blocks
pub record ReadsOne (levels : ℕ) (bytes : List ℕ) (parent time : ℕ) (e : Element) (blocks : List Block) : Type 0 where
  pub sound : element_fault levels bytes parent e ≡ None
  pub blocks_are : element_blocks levels bytes (Some 1) parent time e ≡ blocks

pub Reads-ends : (levels : ℕ) (bytes : List ℕ) (parent time : ℕ) → Reads (suc levels) bytes parent time ends []
unfolding fault_in blocks_in first_fault each_block
Reads-ends levels bytes parent time = record { sound = refl; blocks_are = refl }

pub Reads-gives : (levels : ℕ) (bytes : List ℕ) (parent time : ℕ) (e : Element) (rest : Listing) (bs cs : List Block) → ReadsOne levels bytes parent time e bs → Reads (suc levels) bytes parent time rest cs → Reads (suc levels) bytes parent time (gives e rest) (bs ++ cs)
unfolding fault_in blocks_in first_fault each_block
Reads-gives levels bytes parent time e rest bs cs one others = record {
  sound = ap (λ (x : Option ℕ). else_place x (fault_in (suc levels) bytes parent rest)) one.sound ∙ others.sound;
  blocks_are = ap (λ (x : List Block). x ++ blocks_in (suc levels) bytes (Some 1) parent time rest) one.blocks_are ∙ ap (λ (x : List Block). bs ++ x) others.blocks_are;
}

-- elements, and others behind them
pub Reads-append : (levels : ℕ) (bytes : List ℕ) (parent time : ℕ) (es ds : List Element) (bs cs : List Block) → Reads (suc levels) bytes parent time (whole es) bs → Reads (suc levels) bytes parent time (whole ds) cs → Reads (suc levels) bytes parent time (whole (es ++ ds)) (bs ++ cs)
unfolding fault_in blocks_in first_fault each_block
Reads-append levels bytes parent time [] ds bs cs first second = record {
  sound = second.sound;
  blocks_are = second.blocks_are ∙ ap (λ (x : List Block). x ++ cs) first.blocks_are;
}
Reads-append levels bytes parent time (e ∷ es) ds bs cs first second =
    let parts = else_place-parts (element_fault levels bytes parent e) (fault_in (suc levels) bytes parent (whole es)) first.sound in
    let later = Reads-append levels bytes parent time es ds (blocks_in (suc levels) bytes (Some 1) parent time (whole es)) cs (record { sound = parts.1; blocks_are = refl }) second in
    let one = element_blocks levels bytes (Some 1) parent time e in
    record {
      sound = ap (λ (x : Option ℕ). else_place x (fault_in (suc levels) bytes parent (whole (es ++ ds)))) parts.0 ∙ later.sound;
      blocks_are = ap (λ (x : List Block). one ++ x) later.blocks_are ∙ sym (append_assoc one (blocks_in (suc levels) bytes (Some 1) parent time (whole es)) cs) ∙ ap (λ (x : List Block). x ++ cs) first.blocks_are;
    }
  where
    else_place-parts : (here later : Option ℕ) → else_place here later ≡ None → (here ≡ None) × (later ≡ None)
    else_place-parts None later h = (refl, h)
    else_place-parts (Some at) later h = absurd cc

-- ---- one element

-- an element that isn't looked into, or that is text or bytes
pub ReadsOne-passed : (levels : ℕ) (bytes : List ℕ) (parent time : ℕ) (e : Element) → e.unknown ≡ false → kind_in parent e.id ≡ None → ReadsOne levels bytes parent time e []
ReadsOne-passed levels bytes parent time e known is = record { sound = rw (is, known) refl; blocks_are = rw is refl }

pub ReadsOne-text : (levels : ℕ) (bytes : List ℕ) (parent time : ℕ) (e : Element) → e.unknown ≡ false → kind_in parent e.id ≡ Some kinds.Text → ReadsOne levels bytes parent time e []
ReadsOne-text levels bytes parent time e known is = record { sound = rw (is, known) refl; blocks_are = rw is refl }

pub ReadsOne-binary : (levels : ℕ) (bytes : List ℕ) (parent time : ℕ) (e : Element) → e.unknown ≡ false → kind_in parent e.id ≡ Some kinds.Binary → ReadsOne levels bytes parent time e []
ReadsOne-binary levels bytes parent time e known is = record { sound = rw (is, known) refl; blocks_are = rw is refl }

pub ReadsOne-unsigned : (levels : ℕ) (bytes : List ℕ) (parent time : ℕ) (e : Element) → e.unknown ≡ false → kind_in parent e.id ≡ Some kinds.Unsigned → e.end - e.content ≤ 8 → ReadsOne levels bytes parent time e []
ReadsOne-unsigned levels bytes parent time e known is short = record { sound = rw (is, known, le-ltb 8 (e.end - e.content) short) refl; blocks_are = rw is refl }

pub ReadsOne-master : (levels : ℕ) (bytes : List ℕ) (parent time : ℕ) (e : Element) (bs : List Block) → (e.unknown && not (may_be_unknown e.id)) ≡ false → kind_in parent e.id ≡ Some kinds.Master → Reads levels bytes e.id (time_in bytes time e) (elements_in bytes e) bs → ReadsOne levels bytes parent time e bs
ReadsOne-master levels bytes parent time e bs known is inside = record { sound = rw (is, known) inside.sound; blocks_are = rw is inside.blocks_are }

-- the block of a head
abbrev pub headed : ℕ → ℕ → Head → Block
headed at time head = record { at = at; time = time + head.time; laced = not (bit_and head.flags 6 == 0); packet = head.packet }

pub ReadsOne-block : (levels : ℕ) (bytes : List ℕ) (parent time : ℕ) (e : Element) (head : Head) → e.unknown ≡ false → kind_in parent e.id ≡ Some kinds.Block → head_at e.content (content_of bytes e) ≡ Some head → head.track ≡ 1 → ReadsOne levels bytes parent time e (headed e.start time head ∷ [])
ReadsOne-block levels bytes parent time e head known is read of_track = record {
  sound = rw (is, known, read) refl;
  blocks_are = rw (is, read, of_track) refl;
}
