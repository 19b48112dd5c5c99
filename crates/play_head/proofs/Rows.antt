-- The rows of planes that a screen got.
use Rattle.std.proofs.Common.{◌≡◌, ℕ, ◌+◌, ◌<◌, Bool, List, [], ◌∷◌, ◌++◌, length, take, drop, get_or, Ok, Err, sym, ap, subst, ◌∙◌}
use Rattle.std.specs.List.{flat_map}
use Rattle.std.proofs.lemmas.List.{append-nil, take_more, take-append-drop}
use Rattle.std.proofs.lemmas.List.Concat.{flat_map-append}
use Rattle.tl_ports.specs.declared.fault.PutFault.{PutFault}
use Rattle.tl_ports.specs.Outside.{PutsPiece}
use Rattle.tl_ports.specs.Seen.{SinkSeen}
use Rattle.play_head.specs.Putting.{GotAll, GotFront}
use Rattle.play_head.proofs.Pieces.{front_more, gets_one, all_then}

row_next : (rows : List (List ℕ)) (y : ℕ) (row : List ℕ) → y < length rows → row ≡ get_or rows y [] → take (y + 1) rows ≡ take y rows ++ row ∷ []
row_next rows y row h e = take_more rows y [] h ∙ ap (λ (r : List ℕ). take y rows ++ r ∷ []) (sym e)

-- one row more
pub row_put : (tells : Bool) (old mid new : SinkSeen) (rows : List (List ℕ)) (y : ℕ) (row : List ℕ) (done : Unit {0}) → y < length rows → row ≡ get_or rows y [] → GotAll tells old mid (take y rows) → PutsPiece tells mid new row (Ok done) → GotAll tells old new (take (y + 1) rows)
row_put tells old mid new rows y row done h e got puts =
    subst (GotAll tells old new) (sym (row_next rows y row h e)) (all_then tells old mid new (take y rows) (row ∷ []) (Ok done) got (gets_one tells mid new row (Ok done) puts))

-- a row that was refused
pub row_refused : (tells : Bool) (old mid new : SinkSeen) (rows : List (List ℕ)) (y : ℕ) (row : List ℕ) (fault : PutFault) → y < length rows → row ≡ get_or rows y [] → GotAll tells old mid (take y rows) → PutsPiece tells mid new row (Err fault) → GotFront tells old new rows
row_refused tells old mid new rows y row fault h e got puts =
    subst (GotFront tells old new) (ap (λ (r : List (List ℕ)). r ++ drop (y + 1) rows) (sym (row_next rows y row h e)) ∙ take-append-drop (y + 1) rows)
    (front_more tells old new (take y rows ++ row ∷ []) (drop (y + 1) rows) (all_then tells old mid new (take y rows) (row ∷ []) (Err fault) got (gets_one tells mid new row (Err fault) puts)))

-- all rows of planes
abbrev pub all_rows : List (List (List ℕ)) → List (List ℕ)
all_rows planes = flat_map (λ rows. rows) planes

plane_next : (planes : List (List (List ℕ))) (p : ℕ) (rows : List (List ℕ)) → p < length planes → rows ≡ get_or planes p [] → all_rows (take (p + 1) planes) ≡ all_rows (take p planes) ++ rows
plane_next planes p rows h e =
    ap all_rows (take_more planes p [] h) ∙ flat_map-append (λ (rs : List (List ℕ)). rs) (take p planes) (get_or planes p [] ∷ [])
    ∙ ap (λ (rs : List (List ℕ)). all_rows (take p planes) ++ rs) (append-nil (get_or planes p []) ∙ sym e)

pub plane_put : (tells : Bool) (old mid new : SinkSeen) (planes : List (List (List ℕ))) (p : ℕ) (rows : List (List ℕ)) → p < length planes → rows ≡ get_or planes p [] → GotAll tells old mid (all_rows (take p planes)) → GotAll tells mid new rows → GotAll tells old new (all_rows (take (p + 1) planes))
plane_put tells old mid new planes p rows h e got puts =
    subst (GotAll tells old new) (sym (plane_next planes p rows h e)) (all_then tells old mid new (all_rows (take p planes)) rows (Ok tt) got puts)

pub plane_refused : (tells : Bool) (old mid new : SinkSeen) (planes : List (List (List ℕ))) (p : ℕ) (rows : List (List ℕ)) (fault : PutFault) → p < length planes → rows ≡ get_or planes p [] → GotAll tells old mid (all_rows (take p planes)) → GotFront tells mid new rows → GotFront tells old new (all_rows planes)
plane_refused tells old mid new planes p rows fault h e got puts =
    subst (GotFront tells old new)
    (ap (λ (r : List (List ℕ)). r ++ all_rows (drop (p + 1) planes)) (sym (plane_next planes p rows h e)) ∙ sym (flat_map-append (λ (rs : List (List ℕ)). rs) (take (p + 1) planes) (drop (p + 1) planes)) ∙ ap all_rows (take-append-drop (p + 1) planes))
    (front_more tells old new (all_rows (take p planes) ++ rows) (all_rows (drop (p + 1) planes)) (all_then tells old mid new (all_rows (take p planes)) rows (Err fault) got puts))
