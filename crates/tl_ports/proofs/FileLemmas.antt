-- Files by name, after one is taken away.
use Rattle.std.proofs.Common.{◌≡◌, ◌≢◌, ℕ, suc, zero, Bool, true, false, cond, List, [], ◌∷◌, Some, get_or, refl, sym, ◌∙◌, ap}
use Rattle.std.specs.List.{find, position, remove}
use Rattle.std.specs.Option.{option_map}
use Rattle.std.specs.Str.{bytes_eq}
use Rattle.std.proofs.lemmas.List.Quantifiers.{position-Some}
use Rattle.std.proofs.lemmas.Slice.Eq.{bytes_eq-Decides}
use Rattle.tl_ports.specs.declared.file_list.MemFile.{MemFile}
use Rattle.tl_ports.specs.FileList.{has_name, file_in}

-- Taking away an element that fails a test changes no search by that test.
pub find-remove : {X : Type 0} (q : X → Bool) (xs : List X) (i : ℕ) (d : X) → q (get_or xs i d) ≡ false → find q (remove xs i) ≡ find q xs
find-remove q [] zero d fails = refl
find-remove q [] (suc i) d fails = refl
find-remove q (x ∷ xs) zero d fails = rw fails refl
find-remove q (x ∷ xs) (suc i) d fails = ap (λ rest. cond (q x) (Some x) rest) (find-remove q xs i d fails)

-- Different texts aren't equal by their bytes.
pub bytes_eq-differ : (xs ys : List ℕ) → xs ≢ ys → bytes_eq xs ys ≡ false
bytes_eq-differ xs ys differ =
    elim (bytes_eq xs ys) as (λ b. (b ≡ true → xs ≡ ys) → b ≡ false) [ true ↦ (λ same. absurd (differ (same refl))) | false ↦ (λ same. refl) ] (bytes_eq-Decides xs ys).0

-- Taking away the file of a name changes no file of another name.
pub file_in-remove : (files : List MemFile) (i : ℕ) (d : MemFile) (name other : List ℕ) → position (has_name name) files ≡ Some i → other ≢ name → file_in (remove files i) other ≡ file_in files other
file_in-remove files i d name other found differ =
    let has : has_name name (get_or files i d) ≡ true = (position-Some (has_name name) files i d found).1 in
    let same : (get_or files i d).name.items ≡ name = (bytes_eq-Decides (get_or files i d).name.items name).0 has in
    let fails : has_name other (get_or files i d) ≡ false = bytes_eq-differ (get_or files i d).name.items other (λ e. differ (sym e ∙ same)) in
    ap (option_map (λ (file : MemFile). file.bytes.items)) (find-remove (has_name other) files i d fails)
