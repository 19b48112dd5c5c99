-- The clips of a session by their names.
use Rattle.std.specs.Prelude.{ℕ, ◌+◌, List, [], ◌∷◌, Option, Some, None, if◌then◌else◌}
use Rattle.std.specs.Str.{bytes_eq}
use Rattle.std.specs.Borrow.{Bor}
use Rattle.std.specs.declared.hash.FoldHasher.{FoldHasher}
use Rattle.std.specs.declared.hash.BuildHasherDefault.{BuildHasherDefault}
use Rattle.std.specs.HashMap.{get_by, HashMap}

-- The number and the start of the first clip of a name, where the list begins with clip n.
unfoldable pub clip_from : (n : ℕ) → List (List ℕ × ℕ) → (name : List ℕ) → Option (ℕ × ℕ)
clip_from n [] name = None
clip_from n (clip ∷ more) name = if bytes_eq clip.0 name then Some (n, clip.1) else clip_from (n + 1) more name

-- the same as the code keeps it
abbrev pub known_at : HashMap (Bor (List ℕ)) (ℕ × ℕ) (BuildHasherDefault FoldHasher) → (name : List ℕ) → Option (ℕ × ℕ)
known_at known name = get_by (λ key. bytes_eq name key.now) known
