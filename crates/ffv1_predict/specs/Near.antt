-- The prediction of a sample and its context. RFC 9043 sections 3.2 to 3.5.
use Rattle.std.specs.Prelude.{◌≡◌, ℕ, ◌+◌, ◌-◌, ◌%◌, ◌<◌, List, [], slice_index_or, Bool, true, false, if◌then◌else◌, ℤ, pos, negsuc, neg_ℤ, ◌+ℤ◌, ◌-ℤ◌}
use Rattle.std.specs.Int.{int_rem_euclid}
use Rattle.tl_base.specs.Arithmetic.{median, folded}
use Rattle.ffv1_predict.specs.declared.near.Near.{Near}

-- what is predicted from the neighbours
abbrev pub predicted : Near → ℤ
predicted n = median (pos n.l) (pos n.t) (pos n.l +ℤ pos n.t -ℤ pos n.tl)

-- the entry of a quantization table for the difference of two samples, which is taken modulo 256
abbrev pub quantized : List ℤ → ℕ → ℕ → ℤ
quantized table a b = slice_index_or table ((256 + a - b) % 256) (pos 0)

-- the context, by a set of five quantization tables
abbrev pub context : List (List ℤ) → Near → ℤ
context tables n =
    let table : ℕ → List ℤ = λ i. slice_index_or tables i [] in
    quantized (table 0) n.l n.tl +ℤ quantized (table 1) n.tl n.t +ℤ quantized (table 2) n.t n.tr
    +ℤ quantized (table 3) n.ll n.l +ℤ quantized (table 4) n.tt n.t

-- The tables of the two far neighbours are flat: no difference counts by them.
abbrev pub IsFlat : List ℤ → Type 0
IsFlat table = (a b : ℕ) → quantized table a b ≡ pos 0

abbrev pub AreNear : List (List ℤ) → Type 0
AreNear tables = IsFlat (slice_index_or tables 3 []) × IsFlat (slice_index_or tables 4 [])

abbrev pub is_negative : ℤ → Bool
is_negative (pos n) = false
is_negative (negsuc n) = true

-- a difference, with its sign changed where the context is negative
abbrev pub turned : ℤ → ℤ → ℤ
turned context difference = if is_negative context then neg_ℤ difference else difference

-- A sample is its prediction and the coded difference, modulo 256.
abbrev pub IsRestored : ℤ → Near → ℤ → ℕ → Type 0
IsRestored context n difference sample = pos sample ≡ int_rem_euclid (predicted n +ℤ turned context difference) (pos 256)

-- the difference that is coded for a sample
abbrev pub coded : ℤ → Near → ℕ → ℤ
coded context n sample = folded (turned context (pos sample -ℤ predicted n))

-- the neighbours are samples of 8 bits
pub record IsNear (n : Near) : Type 0 where
  pub tt : n.tt < 256
  pub tl : n.tl < 256
  pub t : n.t < 256
  pub tr : n.tr < 256
  pub ll : n.ll < 256
  pub l : n.l < 256
