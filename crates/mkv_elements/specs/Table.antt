-- The table of elements, as a reader looks things up in it.
use Rattle.std.specs.Prelude.{ℕ, Option, ◌==◌, ◌&&◌, find, option_map}
use Rattle.mkv_elements.specs.declared.table.Kind.{Kind}
use Rattle.mkv_elements.specs.declared.table.TheConstants.{TABLE}

-- what a reader of clips finds in an element of this id in this parent: none where it is passed over
unfoldable pub kind_in : ℕ → ℕ → Option Kind
kind_in parent id = option_map (λ row. row.kind) (find (λ row. row.read && (row.id == id && row.parent == parent)) TABLE)
