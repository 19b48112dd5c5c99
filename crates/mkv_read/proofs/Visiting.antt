-- What reading elements gives is what reading the first gives, and then what reading those behind it gives.
use Rattle.std.proofs.Common.{◌≡◌, ℕ, zero, suc, ◌-◌, false, List, [], ◌∷◌, ◌++◌, Option, Some, None, Result, Ok, Err, refl, sym, ap, ◌∙◌, arith}
use Rattle.ebml_core.specs.declared.element.Element.{Element}
use Rattle.ebml_core.specs.Reading.{◌>>=◌}
use Rattle.ebml_core.specs.Listing.{Listing, ends, breaks, gives}
use Rattle.mkv_elements.specs.declared.table.Kind.{Kind}
use Rattle.mkv_elements.specs.Table.{kind_in}
use Rattle.mkv_read.specs.declared.block.Block.{Block}
use Rattle.mkv_read.specs.declared.fault.ClipFault.{ClipFault}
use Rattle.mkv_read.specs.declared.fault.ClipFault.TheVariants as faults
use Rattle.mkv_read.specs.Elements.{elements, elements_in}
use Rattle.mkv_read.specs.Faults.{is_faulty_as, else_place, first_fault, inside_as, fault_as, fault_in, element_fault}
use Rattle.mkv_read.specs.Blocks.{each_block, time_in, blocks_as, blocks_in, element_blocks}
use Rattle.mkv_read.specs.Taking.{Fails, Taken, take, take_all, outcome}

pub take_all-append : (xs ys : List Block) (t : Taken) → take_all (xs ++ ys) t ≡ take_all ys (take_all xs t)
unfolding take_all
take_all-append [] ys t = refl
take_all-append (x ∷ xs) ys t = take_all-append xs ys (take x t)

-- What fails before a step fails with it.
pub Fails-bind : {A B : Type 0} (fault : ClipFault) (r : Result A ClipFault) (f : A → Result B ClipFault) → Fails fault r → Fails fault (r >>= f)
Fails-bind faults.NoMemory r f h = tt
Fails-bind fault r f h = ap (λ o. o >>= f) h

-- what is taken of elements, each with its fault and its blocks
abbrev pub taken_in : (Element → Option ℕ) → (Element → List Block) → Listing → Taken → Result Taken ClipFault
taken_in fault blocks w t = outcome (first_fault fault w) (each_block blocks w) t

taken_in-gives : (fault : Element → Option ℕ) (blocks : Element → List Block) (e : Element) (rest : Listing) (t : Taken) → taken_in fault blocks (gives e rest) t ≡ (outcome (fault e) (blocks e) t >>= taken_in fault blocks rest)
unfolding first_fault each_block
taken_in-gives fault blocks e rest t = by_faults (fault e) (first_fault fault rest)
  where
    by_faults : (here later : Option ℕ) → outcome (else_place here later) (blocks e ++ each_block blocks rest) t ≡ (outcome here (blocks e) t >>= outcome later (each_block blocks rest))
    by_faults (Some at) later = refl
    by_faults None (Some at) = refl
    by_faults None None = ap (λ (u : Taken). Ok u) (take_all-append (blocks e) (each_block blocks rest) t)

-- ---- a loop over elements, where `total` is what it gives in the end

pub fails_at : (x : ClipFault) (fault : Element → Option ℕ) (blocks : Element → List Block) (bytes : List ℕ) (place end : ℕ) (e : Element) (t : Taken) (total : Result Taken ClipFault) → elements bytes place end ≡ gives e (elements bytes e.end end) → Fails x (outcome (fault e) (blocks e) t) → taken_in fault blocks (elements bytes place end) t ≡ total → Fails x total
fails_at x fault blocks bytes place end e t total next fails same =
    let step = sym same ∙ ap (λ (w : Listing). taken_in fault blocks w t) next ∙ taken_in-gives fault blocks e (elements bytes e.end end) t in
    rw step (Fails-bind x (outcome (fault e) (blocks e) t) (taken_in fault blocks (elements bytes e.end end)) fails)

pub goes_on_at : (fault : Element → Option ℕ) (blocks : Element → List Block) (bytes : List ℕ) (place end : ℕ) (e : Element) (t u : Taken) (total : Result Taken ClipFault) → elements bytes place end ≡ gives e (elements bytes e.end end) → outcome (fault e) (blocks e) t ≡ Ok u → taken_in fault blocks (elements bytes place end) t ≡ total → taken_in fault blocks (elements bytes e.end end) u ≡ total
goes_on_at fault blocks bytes place end e t u total next took same =
    ap (λ (r : Result Taken ClipFault). r >>= taken_in fault blocks (elements bytes e.end end)) (sym took) ∙ sym (taken_in-gives fault blocks e (elements bytes e.end end) t) ∙ ap (λ (w : Listing). taken_in fault blocks w t) (sym next) ∙ same

pub over_at : (fault : Element → Option ℕ) (blocks : Element → List Block) (bytes : List ℕ) (place end : ℕ) (t : Taken) (total : Result Taken ClipFault) → elements bytes place end ≡ ends → taken_in fault blocks (elements bytes place end) t ≡ total → total ≡ Ok t
unfolding first_fault each_block take_all
over_at fault blocks bytes place end t total next same =
    sym same ∙ ap (λ (w : Listing). taken_in fault blocks w t) next

pub broken_at : (fault : Element → Option ℕ) (blocks : Element → List Block) (bytes : List ℕ) (place end : ℕ) (at : ℕ) (t : Taken) (total : Result Taken ClipFault) → elements bytes place end ≡ breaks at → taken_in fault blocks (elements bytes place end) t ≡ total → total ≡ Err (faults.Ebml at)
unfolding first_fault
broken_at fault blocks bytes place end at t total next same =
    sym same ∙ ap (λ (w : Listing). taken_in fault blocks w t) next

-- ---- levels

pub at_no_level : (bytes : List ℕ) (track : Option ℕ) (parent time : ℕ) (w : Listing) (levels : ℕ) (t : Taken) → levels ≡ 0 → outcome (fault_in levels bytes parent w) (blocks_in levels bytes track parent time w) t ≡ Ok t
unfolding fault_in blocks_in take_all
at_no_level bytes track parent time w zero t none_left = refl
at_no_level bytes track parent time w (suc levels) t none_left = absurd (omega arith)

pub at_level : (bytes : List ℕ) (track : Option ℕ) (parent time : ℕ) (w : Listing) (levels : ℕ) (t : Taken) → (levels ≡ 0 → ⊥) → taken_in (element_fault (levels - 1) bytes parent) (element_blocks (levels - 1) bytes track parent time) w t ≡ outcome (fault_in levels bytes parent w) (blocks_in levels bytes track parent time w) t
unfolding fault_in blocks_in
at_level bytes track parent time w zero t some = absurd (some refl)
at_level bytes track parent time w (suc levels) t some =
    let one_less : suc levels - 1 ≡ levels = omega arith in
    ap (λ (n : ℕ). taken_in (element_fault n bytes parent) (element_blocks n bytes track parent time) w t) one_less

-- ---- one element

abbrev pub element_taken : ℕ → List ℕ → Option ℕ → ℕ → ℕ → Element → Taken → Result Taken ClipFault
element_taken levels bytes track parent time e t = outcome (element_fault levels bytes parent e) (element_blocks levels bytes track parent time e) t

abbrev kind_taken : ℕ → List ℕ → Option ℕ → ℕ → Element → Taken → Option Kind → Result Taken ClipFault
kind_taken levels bytes track time e t kind =
    outcome (fault_as bytes e (fault_in levels bytes e.id (elements_in bytes e)) kind) (blocks_as bytes track time e (blocks_in levels bytes track e.id (time_in bytes time e) (elements_in bytes e)) kind) t

-- an element that is neither a master nor a block
pub other_element : (levels : ℕ) (bytes : List ℕ) (track : Option ℕ) (parent time : ℕ) (e : Element) (t : Taken) (found kind : Option Kind) → found ≡ kind_in parent e.id → found ≡ kind → is_faulty_as bytes e found ≡ false → ((inside : Option ℕ) → inside_as inside kind ≡ None) → ((inside : List Block) → blocks_as bytes track time e inside kind ≡ []) → element_taken levels bytes track parent time e t ≡ Ok t
unfolding take_all
other_element levels bytes track parent time e t found kind exact is sound no_fault no_block =
    ap (kind_taken levels bytes track time e t) (sym exact ∙ is) ∙ rw (ap (is_faulty_as bytes e) (sym is) ∙ sound, no_fault (fault_in levels bytes e.id (elements_in bytes e)), no_block (blocks_in levels bytes track e.id (time_in bytes time e) (elements_in bytes e))) refl
