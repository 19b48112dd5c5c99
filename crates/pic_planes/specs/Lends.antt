-- A row of a picture, lent to be written.
use Rattle.std.specs.Prelude.{ℕ, List}
use Rattle.std.specs.Borrow.{Lends, MutBor, Fml, Array, u8}
use Rattle.pic_planes.specs.contracts.picture.Picture.{the_row}
use Rattle.pic_planes.specs.Picture.{Image}
use Rattle.pic_planes.specs.Lending.{with_written}

abbrev pub LendsRow : MutBor Image → ℕ → ℕ → MutBor (List ℕ) → Fml
LendsRow picture plane y row = Lends the_row (Array u8 0) picture row (with_written picture.now plane y)
