-- A board with its library, as what its one caller knows.
use Rattle.std.specs.Prelude.{◌≡◌, ℕ, Result, Ok, Err}
use Rattle.tl_model.specs.Media.{Library}
use Rattle.tl_model.specs.declared.recipe.Recipe.{Recipe}
use Rattle.render_core.specs.declared.reply.Full.{Full}
use Rattle.render_core.specs.declared.reply.Full.TheVariants as full
use Rattle.render_core.specs.declared.reply.ShowReply.{ShowReply}
use Rattle.render_core.specs.Board.{BoardOf, of_show}
use Rattle.render_core.specs.Calls.{own}
use Rattle.render_core.specs.Step.{Reply, Render}
use Rattle.edit_desk.specs.Desk.{DeskOf, with_render}

-- A caller with this number has seen the whole journal, and keeps this beside.
abbrev pub at_board : {M K : Type 0} → (number : ℕ) → K → BoardOf M → DeskOf M K
at_board number kept b = record {
  fixed = record { number = number; library = b.library; cache = b.cache; limit = b.limit; kept = kept };
  seen = b.journal;
}

-- Caller 0 has seen the whole journal.
abbrev pub desk_of : {M : Type 0} → BoardOf M → DeskOf M (Unit {0})
desk_of b = at_board 0 tt b

-- The board notes this library, and each of its entries is caller 0's.
pub record IsOwned {M : Type 0} (lib : M) (b : BoardOf M) : Type 0 where
  pub noted : lib ≡ b.library
  pub all : own 0 b.journal ≡ b.journal

-- What was told, with the render of a recipe that is to be rendered. Only there can memory be wanting.
abbrev pub Renders : {F : Type 0} → Library F → (told : Reply F) → Result (ShowReply F) Full → Type 0
Renders lib told (Ok given) = of_show given ≡ with_render lib told
Renders lib told (Err full.NoMemory) = (recipe : Recipe) × (told ≡ Render recipe)
Renders lib told (Err (full.JournalFull len owing)) = ⊥
