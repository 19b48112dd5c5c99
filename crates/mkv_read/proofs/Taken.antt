-- What is taken of one block, and what blocks that were taken give in the end.
use Rattle.std.proofs.Common.{◌≡◌, ℕ, ◌+◌, ◌-◌, eqb, List, length, drop, Option, Some, None, Result, Ok, refl, ap, arith}
use Rattle.std.specs.Prelude.{not, bit_and}
use Rattle.std.proofs.lemmas.Bool.{eq-eqb, ne_eqb}
use Rattle.std.proofs.lemmas.List.{length-take}
use Rattle.ebml_core.specs.declared.element.Element.{Element}
use Rattle.mkv_read.specs.declared.clip.Place.{Place}
use Rattle.mkv_read.specs.declared.block.Head.{Head}
use Rattle.mkv_read.specs.declared.fault.ClipFault.{ClipFault}
use Rattle.mkv_read.specs.Plain.{LiesBefore}
use Rattle.mkv_read.specs.Elements.{content_of, LiesWithin}
use Rattle.mkv_read.specs.Blocks.{block_of}
use Rattle.mkv_read.specs.Taking.{Taken, take, take_all}

-- what is taken of a block of this head
abbrev pub head_taken : Option ℕ → ℕ → Element → Option Head → Taken → Result Taken ClipFault
head_taken track time e head t = Ok (take_all (block_of track time e head) t)

pub no_head : (track : Option ℕ) (time : ℕ) (e : Element) (head : Option Head) (t : Taken) → head ≡ None → head_taken track time e head t ≡ Ok t
unfolding take_all
no_head None time e head t is = refl
no_head (Some track) time e head t is = rw is refl

pub no_track : (track : Option ℕ) (time : ℕ) (e : Element) (head : Option Head) (t : Taken) → track ≡ None → head_taken track time e head t ≡ Ok t
unfolding take_all
no_track track time e head t is = rw is refl

pub other_track : (track : Option ℕ) (number time : ℕ) (e : Element) (head : Option Head) (h : Head) (t : Taken) → track ≡ Some number → head ≡ Some h → (h.track ≡ number → ⊥) → head_taken track time e head t ≡ Ok t
unfolding take_all
other_track track number time e head h t of is other = rw (of, is, ne_eqb h.track number other) refl

pub this_track : (track : Option ℕ) (number time : ℕ) (e : Element) (head : Option Head) (h : Head) (t : Taken) → track ≡ Some number → head ≡ Some h → h.track ≡ number → head_taken track time e head t ≡ Ok (take (record { at = e.start; time = time + h.time; laced = not (eqb (bit_and h.flags 6) 0); packet = h.packet }) t)
unfolding take_all
this_track track number time e head h t of is same = rw (of, is, eq-eqb h.track number same) refl

pub packet-lies : (bytes : List ℕ) (e : Element) (content : List ℕ) (packet : Place) → LiesWithin (length bytes) e → content ≡ content_of bytes e → LiesBefore (e.content + length content) packet → LiesBefore (length bytes) packet
packet-lies bytes e content packet lies is before =
    omega (arith, lies.content, lies.within, before, ap length is, length-take (e.end - e.content) (drop e.content bytes))
