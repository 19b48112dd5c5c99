-- Pieces that a sink got, one after another.
use Rattle.std.proofs.Common.{◌≡◌, ℕ, Bool, List, [], ◌∷◌, ◌++◌, take, Result, Ok, Err, ◌⊎◌, inl, inr, refl, sym, ap, subst, ◌∙◌}
use Rattle.std.proofs.lemmas.List.{append-nil, append_assoc}
use Rattle.tl_ports.specs.declared.fault.PutFault.{PutFault}
use Rattle.tl_ports.specs.declared.fault.PutFault.TheVariants as putting
use Rattle.tl_ports.specs.Outside.{PutsPiece, PutHasCause}
use Rattle.tl_ports.specs.Seen.{SinkSeen}
use Rattle.play_head.specs.Putting.{IsFront, GotAll, GotFront, Gets}

-- a front after some whole pieces
IsFront-append : (whole got pieces : List (List ℕ)) → IsFront got pieces → IsFront (whole ++ got) (whole ++ pieces)
IsFront-append [] got pieces h = h
IsFront-append (x ∷ xs) got pieces h = inl (refl, IsFront-append xs got pieces h)

-- a front of the first pieces is one of all
IsFront-more : (got pieces more : List (List ℕ)) → IsFront got pieces → IsFront got (pieces ++ more)
IsFront-more [] pieces more h = tt
IsFront-more (x ∷ got) [] more h = absurd h
IsFront-more (x ∷ got) (p ∷ pieces) more (inl h) = inl (h.0, IsFront-more got pieces more h.1)
IsFront-more (x ∷ got) (p ∷ pieces) more (inr h) = inr h

pub front_more : (tells : Bool) (old new : SinkSeen) (pieces more : List (List ℕ)) → GotFront tells old new pieces → GotFront tells old new (pieces ++ more)
front_more tells old new pieces more h = λ t. (let got = h t in (got.0, got.1, IsFront-more got.0 pieces more got.2))

front_one : (old new : SinkSeen) (piece : List ℕ) → (new.pieces ≡ old.pieces) ⊎ ((count : ℕ) × (new.pieces ≡ old.pieces ++ take count piece ∷ [])) → (got : List (List ℕ)) × (new.pieces ≡ old.pieces ++ got) × IsFront got (piece ∷ [])
front_one old new piece (inl e) = ([], e ∙ sym (append-nil old.pieces), tt)
front_one old new piece (inr e) = (take e.0 piece ∷ [], e.1, inr (refl, (e.0, refl)))

pub gets_one : (tells : Bool) (old new : SinkSeen) (piece : List ℕ) (result : Result Unit PutFault) → PutsPiece tells old new piece result → Gets tells old new (piece ∷ []) result
gets_one tells old new piece (Ok done) h = h
gets_one tells old new piece (Err putting.Failed) h = λ t. front_one old new piece (h t)
gets_one tells old new piece (Err putting.NoMemory) h = λ t. front_one old new piece (inl (h t))

pub got_nothing : (tells : Bool) (sink : SinkSeen) → GotAll tells sink sink []
got_nothing tells sink = λ t. sym (append-nil sink.pieces)

pub front_nothing : (tells : Bool) (sink : SinkSeen) (pieces : List (List ℕ)) → GotFront tells sink sink pieces
front_nothing tells sink pieces = λ t. ([], sym (append-nil sink.pieces), tt)

pub all_then : (tells : Bool) (old mid new : SinkSeen) (first more : List (List ℕ)) (result : Result Unit PutFault) → GotAll tells old mid first → Gets tells mid new more result → Gets tells old new (first ++ more) result
all_then tells old mid new first more (Ok done) h k = λ t. k t ∙ ap (λ (ps : List (List ℕ)). ps ++ more) (h t) ∙ append_assoc old.pieces first more
all_then tells old mid new first more (Err fault) h k = λ t. (let got = k t in (
  first ++ got.0,
  got.1 ∙ ap (λ (ps : List (List ℕ)). ps ++ got.0) (h t) ∙ append_assoc old.pieces first got.0,
  IsFront-append first got.0 more got.2,
))

-- the cause of a later put, where those before it left the count as it was
pub cause_later : (before mid now : ℕ) (result : Result Unit PutFault) → mid ≡ before → PutHasCause mid now result → PutHasCause before now result
cause_later before mid now result e h = subst (λ (n : ℕ). PutHasCause n now result) e h
