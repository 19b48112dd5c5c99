-- For how many contexts, and for how wide a line, a decoder has room.
use Rattle.std.specs.Prelude.{ℕ}

pub record Room : Type 0 where
  pub contexts : ℕ
  pub width : ℕ

abbrev pub room : ℕ → ℕ → Room
room contexts width = record { contexts = contexts; width = width }
