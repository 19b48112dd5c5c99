-- No element of a plain file is faulty.
use Rattle.std.proofs.Common.{◌≡◌, ℕ, ◌+◌, ◌-◌, Bool, true, false, cond, eqb, ltb, List, [], ◌∷◌, ◌++◌, length, drop, Some, None, Ok, refl, sym, ap, subst, ◌∙◌, arith}
use Rattle.std.specs.List.{AllByRecursion}
use Rattle.std.specs.Prelude.{bit_and}
use Rattle.std.proofs.lemmas.Bool.{eqb-true, le-ltb}
use Rattle.std.proofs.lemmas.List.{length-take-le, length-drop, drop_at}
use Rattle.ebml_core.specs.declared.element.Element.{Element}
use Rattle.ebml_core.specs.declared.vint.Size.TheVariants.{Known}
use Rattle.ebml_core.specs.Reading.{size_at}
use Rattle.ebml_core.specs.Listing.{whole}
use Rattle.ebml_core.proofs.Headers.{size_at-again}
use Rattle.mkv_elements.specs.declared.TheConstants.{CLUSTER, SIMPLE_BLOCK}
use Rattle.mkv_elements.specs.declared.table.Kind.TheVariants as kinds
use Rattle.mkv_elements.specs.Table.{kind_in}
use Rattle.mkv_read.specs.declared.clip.Place.{Place}
use Rattle.mkv_read.specs.declared.block.Head.{Head}
use Rattle.mkv_read.specs.Plain as plain
use Rattle.mkv_read.specs.Plain.{named, Lacks, Children, HasOne, IsNumber, IsMatroska, IsSide, IsTrack, IsFfv1, IsBlock, AreBlocks, IsCluster, AreClusters, IsSegment}
use Rattle.mkv_read.specs.Elements.{content_of, LiesWithin, elements_in}
use Rattle.mkv_read.specs.Faults.{signed_plus_32768, head_at, behind, of_size, fault_in, element_fault}
use Rattle.mkv_read.proofs.Held.{AreKnown, Holds-known, named-append}
use Rattle.mkv_read.proofs.Held.{AllLie, Children-lie}
use Rattle.mkv_read.proofs.PlainElements.{Holds-elements}
use Rattle.mkv_read.proofs.TableKinds.{block_in_cluster}

-- ---- the elements of an id

pub named-all : (P : Element → Type 0) (id : ℕ) (es : List Element) → AllByRecursion P es → AllByRecursion P (named id es)
named-all P id [] h = tt
named-all P id (e ∷ es) h = by_id (eqb e.id id) (named-all P id es h.1)
  where
    by_id : (here : Bool) → AllByRecursion P (named id es) → AllByRecursion P (cond here (e ∷ named id es) (named id es))
    by_id true rest = (h.0, rest)
    by_id false rest = rest

pub named_behind : (id : ℕ) (before : List Element) (e : Element) (after : List Element) → Lacks id before → eqb e.id id ≡ false → named id (before ++ e ∷ after) ≡ named id after
named_behind id before e after lacks other =
    named-append id before (e ∷ after) ∙ ap (λ (xs : List Element). xs ++ named id (e ∷ after)) lacks ∙ rw other refl

whole_is : (es ds : List Element) → whole es ≡ whole ds → es ≡ ds
whole_is [] [] h = refl
whole_is [] (d ∷ ds) h = absurd cc
whole_is (e ∷ es) [] h = absurd cc
whole_is (e ∷ es) (d ∷ ds) h =
    let first : e ≡ d = cc in
    let rest : whole es ≡ whole ds = cc in
    ap (λ (x : Element). x ∷ es) first ∙ ap (λ (xs : List Element). d ∷ xs) (whole_is es ds rest)

-- A master has one list of children.
pub same_children : (bytes : List ℕ) (master : Element) (es ds : List Element) → Children bytes master es → Children bytes master ds → es ≡ ds
same_children bytes master es ds he hd = whole_is es ds (sym (Holds-elements bytes master.content master.end es he) ∙ Holds-elements bytes master.content master.end ds hd)

-- A child of known size that lies within the bytes, and has this id.
pub record IsChild (bytes : List ℕ) (id : ℕ) (e : Element) : Type 0 where
  pub known : e.unknown ≡ false
  pub lies : LiesWithin (length bytes) e
  pub id_is : e.id ≡ id

all_children : (bytes : List ℕ) (id : ℕ) (es : List Element) → AreKnown es → AllLie (length bytes) es → AllByRecursion (IsChild bytes id) (named id es)
all_children bytes id [] known lie = tt
all_children bytes id (e ∷ es) known lie = by_id (eqb e.id id) refl (all_children bytes id es known.1 lie.1)
  where
    by_id : (here : Bool) → eqb e.id id ≡ here → AllByRecursion (IsChild bytes id) (named id es) → AllByRecursion (IsChild bytes id) (cond here (e ∷ named id es) (named id es))
    by_id true same rest = (record { known = known.0; lies = lie.0; id_is = eqb-true e.id id same }, rest)
    by_id false other rest = rest

pub named_children : (bytes : List ℕ) (master : Element) (id : ℕ) (es : List Element) → LiesWithin (length bytes) master → Children bytes master es → AllByRecursion (IsChild bytes id) (named id es)
named_children bytes master id es lies held =
    all_children bytes id es (Holds-known bytes master.content master.end es held) (Children-lie bytes master es lies held)

pub one_child : (bytes : List ℕ) (master : Element) (id : ℕ) (child : Element) → LiesWithin (length bytes) master → HasOne bytes master id child → IsChild bytes id child
one_child bytes master id child lies h =
    (subst (AllByRecursion (IsChild bytes id)) h.one (named_children bytes master id h.children lies h.held)).0

-- ---- one element

unfoldable pub IsSound : ℕ → List ℕ → ℕ → Element → Type 0
IsSound levels bytes parent e = element_fault levels bytes parent e ≡ None

pub other_sound : (levels : ℕ) (bytes : List ℕ) (parent : ℕ) (e : Element) → e.unknown ≡ false → kind_in parent e.id ≡ None → IsSound levels bytes parent e
unfolding IsSound
other_sound levels bytes parent e known kind = rw (kind, known) refl

pub text_sound : (levels : ℕ) (bytes : List ℕ) (parent : ℕ) (e : Element) → e.unknown ≡ false → kind_in parent e.id ≡ Some kinds.Text → IsSound levels bytes parent e
unfolding IsSound
text_sound levels bytes parent e known kind = rw (kind, known) refl

pub text_or_bytes_sound : (levels : ℕ) (bytes : List ℕ) (parent : ℕ) (e : Element) (x y : Bool) → e.unknown ≡ false → kind_in parent e.id ≡ cond x (Some kinds.Text) (cond y (Some kinds.Binary) None) → IsSound levels bytes parent e
unfolding IsSound
text_or_bytes_sound levels bytes parent e true y known kind = rw (kind, known) refl
text_or_bytes_sound levels bytes parent e false true known kind = rw (kind, known) refl
text_or_bytes_sound levels bytes parent e false false known kind = rw (kind, known) refl

content-long : (bytes : List ℕ) (e : Element) → LiesWithin (length bytes) e → length (content_of bytes e) ≡ e.end - e.content
content-long bytes e lies = length-take-le (e.end - e.content) (drop e.content bytes) (omega (arith, lies.content, lies.within, length-drop e.content bytes))

pub number_sound : (levels : ℕ) (bytes : List ℕ) (parent id : ℕ) (e : Element) (n : ℕ) → IsChild bytes id e → kind_in parent id ≡ Some kinds.Unsigned → IsNumber bytes e n → IsSound levels bytes parent e
unfolding IsSound
number_sound levels bytes parent id e n child kind number =
    let few : ltb 8 (e.end - e.content) ≡ false = le-ltb 8 _ (omega (arith, number.short, content-long bytes e child.lies)) in
    rw (ap (kind_in parent) child.id_is ∙ kind, child.known, few) refl

pub master_sound : (levels : ℕ) (bytes : List ℕ) (parent id : ℕ) (e : Element) → IsChild bytes id e → kind_in parent id ≡ Some kinds.Master → fault_in levels bytes id (elements_in bytes e) ≡ None → IsSound levels bytes parent e
unfolding IsSound
master_sound levels bytes parent id e child kind inside =
    rw (ap (kind_in parent) child.id_is ∙ kind, child.known) (ap (λ (n : ℕ). fault_in levels bytes n (elements_in bytes e)) child.id_is ∙ inside)

-- ---- a block

-- what is read of a block of a plain file
pub record HasHead (bytes : List ℕ) (number timestamp : ℕ) (e : Element) (block : plain.Block) : Type 0 where
  pub head : Head
  pub is : head_at e.content (content_of bytes e) ≡ Some head
  pub track : head.track ≡ number
  pub time : timestamp + head.time ≡ block.time
  pub unlaced : bit_and head.flags 6 ≡ 0
  pub packet : head.packet ≡ block.packet

place_is : (a b : ℕ) (p : Place) → a ≡ p.from → b ≡ p.len → record { from = a; len = b } ≡ p
place_is a b p f l = ap (λ (n : ℕ). record { from = n; len = b }) f ∙ ap (λ (n : ℕ). record { from = p.from; len = n }) l

pub block_head : (bytes : List ℕ) (number timestamp : ℕ) (e : Element) (block : plain.Block) → IsBlock bytes number timestamp e block → HasHead bytes number timestamp e block
unfolding head_at
block_head bytes number timestamp e block h =
    let n = length h.track in
    let tail = h.high ∷ (h.low ∷ (h.flags ∷ h.packet)) in
    let head : Head = record { track = number; time = signed_plus_32768 h.high h.low; flags = h.flags; packet = record { from = e.content + n + 3; len = length h.packet } } in
    let size : size_at (h.track ++ tail) ≡ Ok (Known number, n) = size_at-again h.track tail (Known number) h.of_track in
    let rest : drop n (h.track ++ tail) ≡ tail = drop_at h.track tail n refl in
    record {
      head = head;
      is = ap (λ (text : List ℕ). of_size e.content text (size_at text)) h.content ∙ rw size (ap (λ (text : List ℕ). behind number (e.content + n) text) rest);
      track = refl;
      time = sym h.time;
      unlaced = h.unlaced;
      packet = place_is _ _ block.packet (omega (arith, h.from)) (sym h.len);
    }

pub block_sound : (levels : ℕ) (bytes : List ℕ) (number timestamp : ℕ) (e : Element) (block : plain.Block) → IsChild bytes SIMPLE_BLOCK e → IsBlock bytes number timestamp e block → IsSound levels bytes CLUSTER e
unfolding IsSound
block_sound levels bytes number timestamp e block child is =
    rw (ap (kind_in CLUSTER) child.id_is ∙ block_in_cluster, child.known, (block_head bytes number timestamp e block is).is) refl
