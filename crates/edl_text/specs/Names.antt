-- The map in which the reader keeps names by the numbers of events.
use Rattle.std.specs.Prelude.{ℕ, List, Option, option_map, nat_eq}
use Rattle.std.specs.Borrow.{Bor}
use Rattle.std.specs.declared.hash.FoldHasher.{FoldHasher}
use Rattle.std.specs.declared.hash.BuildHasherDefault.{BuildHasherDefault}
use Rattle.std.specs.HashMap.{get, HashMap}
use Rattle.edl_text.specs.declared.names.NameMaps.{NameMaps}
use Rattle.edl_text.specs.List.{Names}

abbrev pub name_at : HashMap ℕ (Bor (List ℕ)) (BuildHasherDefault FoldHasher) → (number : ℕ) → Option (List ℕ)
name_at names number = option_map (λ text. text.now) (get nat_eq names number)

abbrev pub names_in : NameMaps → Names
names_in maps = record { from = name_at maps.from; to = name_at maps.to }
