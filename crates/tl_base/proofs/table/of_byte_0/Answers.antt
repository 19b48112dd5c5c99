use Rattle.std.proofs.Common.{◌≡◌, ℕ, ◌<◌, map, get_or, refl, ap, ◌∙◌, arith}
use Rattle.std.proofs.lemmas.List.FromFn.{get_or-map-range_with_len}
use Rattle.std.specs.List.{range_with_len}
use Rattle.tl_base.specs.Parity.{times, reduced}
use Rattle.tl_base.specs.declared.table.TheConstants.{AT_0}
use Rattle.tl_base.proofs.table.of_byte_0.Goals as goal

table_is : AT_0 ≡ map (λ b. times 32 b) (range_with_len 0 256)
unfolding times reduced
table_is = refl

read : (b : ℕ) → b < 256 → get_or AT_0 b 0 ≡ times 32 b
read b h = ap (λ t. get_or t b 0) table_is ∙ get_or-map-range_with_len (λ b. times 32 b) 0 256 b b 0 h (omega arith)

pub returns : goal.returns
returns c = read c.args.byte (omega arith)
