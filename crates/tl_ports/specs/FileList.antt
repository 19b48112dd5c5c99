-- Files in memory: a list of names and bytes, the latest first. Names compare by their bytes.
use Rattle.std.specs.Prelude.{◌≡◌, ◌≢◌, ℕ, Bool, true, false, if◌then◌else◌, List, [], ◌∷◌, Option, Some, None, refl}
use Rattle.std.specs.List.{find}
use Rattle.std.specs.Option.{option_map}
use Rattle.std.specs.Str.{bytes_eq}
use Rattle.std.proofs.lemmas.Slice.Eq.{bytes_eq-Decides}
use Rattle.tl_ports.specs.declared.file_list.MemFile.{MemFile}
use Rattle.tl_ports.specs.Seen.{StoreSeen, VaultSeen, IsLawful}

-- The file has this name.
abbrev pub has_name : List ℕ → MemFile → Bool
has_name name file = bytes_eq file.name.items name

-- The bytes of the file of a name.
abbrev pub file_in : List MemFile → List ℕ → Option (List ℕ)
file_in files name = option_map (λ (file : MemFile). file.bytes.items) (find (has_name name) files)

-- The name of the latest file.
abbrev pub latest_name : List MemFile → Option (List ℕ)
latest_name [] = None
latest_name (file ∷ older) = Some file.name.items

-- The bytes of the latest file.
abbrev pub latest_bytes : List MemFile → List ℕ
latest_bytes [] = []
latest_bytes (file ∷ older) = file.bytes.items

-- What is seen of a store of these files.
abbrev pub store_of : List MemFile → (faults : ℕ) → StoreSeen
store_of files faults = record { file = file_in files; faults = faults }

-- What is seen of a vault of these files, whose latest may be begun.
abbrev pub vault_of : List MemFile → (is_begun : Bool) (faults : ℕ) → VaultSeen
vault_of files is_begun faults = record {
  file = file_in files;
  begun = if is_begun then latest_name files else None;
  held = latest_bytes files;
  faults = faults;
}

-- The file of this name has these bytes, and every other is as before.
pub record PutsFile (old new : StoreSeen) (name bytes : List ℕ) : Type 0 where
  pub put : new.file name ≡ Some bytes
  pub others : (other : List ℕ) → other ≢ name → new.file other ≡ old.file other

-- While the latest file is begun, its bytes are those of the file of its name.
pub vault_of-lawful : (files : List MemFile) (is_begun : Bool) (faults : ℕ) → IsLawful (vault_of files is_begun faults)
vault_of-lawful [] true faults name is = cc
vault_of-lawful (file ∷ older) true faults name is =
    let same : file.name.items ≡ name = cc in
    let has : has_name name file ≡ true = (bytes_eq-Decides file.name.items name).1 same in
    rw has refl
vault_of-lawful files false faults name is = cc
