-- Each source gives a header or a fault.
use Rattle.std.proofs.Common.{◌≡◌, ℕ, zero, suc, ◌+◌, ◌<◌, List, [], ◌∷◌, length, refl, arith, inl, inr, ℤ, Option, Some, None, Result, Ok, Err}
use Rattle.std.specs.Prelude.{◌⊎◌, Bool, true, false, pos, slice_index, if◌then◌else◌}
use Rattle.std.proofs.lemmas.Bool.{cases_lt}
use Rattle.ffv1_range.specs.Reading.{Reading}
use Rattle.ffv1_range.specs.Symbol.{Source, symbol_at, value_at, bit_at_place, after_place, exponent_at, magnitude_at}
use Rattle.ffv1_slice.specs.declared.header.Grid.{Grid}
use Rattle.ffv1_slice.specs.declared.header.Header.{Header}
use Rattle.ffv1_slice.specs.declared.fault.HeaderFault.{HeaderFault}
use Rattle.ffv1_slice.specs.declared.fault.HeaderFault.TheVariants.{Header as BadHeader, TableIndex}
use Rattle.ffv1_slice.specs.Header.{Gives, ReadsUpTo, ReadsNumbers}
use Rattle.ffv1_slice.proofs.OneHeader.{Spells}

-- ---- a number
-- What was read is a number, or too long.
abbrev IsUnsigned : Option ℤ × Source → Type 0
IsUnsigned read = ((number : ℕ) × (new : Source) × (read ≡ (Some (pos number), new))) ⊎ ((new : Source) × (read ≡ (None, new)))

by_exponent : (read : Option ℕ × Source) → IsUnsigned (value_at false read)
by_exponent (None, s) = inr (s, refl)
by_exponent (Some exponent, s) = inl ((magnitude_at exponent 1 s).0, (magnitude_at exponent 1 s).1, refl)

by_bit : (bit : Bool) (new : Source) (read : Option ℕ × Source) → IsUnsigned (if bit then (Some (pos 0), new) else value_at false read)
by_bit true new read = inl (0, new, refl)
by_bit false new read = by_exponent read

unsigned_read : (s : Source) → IsUnsigned (symbol_at s false)
unfolding symbol_at
unsigned_read s = by_bit (bit_at_place s 0) (after_place s 0) (exponent_at 32 0 (after_place s 0))

-- ---- numbers in turn
-- So many numbers are read.
abbrev CanRead : ℕ → Source → Type 0
CanRead count old = (numbers : List ℕ) × (new : Source) × (length numbers ≡ count) × ReadsUpTo numbers old new

-- One of so many numbers is too long, and those before it are read.
pub record IsCut (count : ℕ) (old : Source) : Type 0 where
  pub before : List ℕ
  pub few : length before < count
  pub mid : Source
  pub new : Source
  pub reads : ReadsUpTo before old mid
  pub too_long : symbol_at mid false ≡ (None, new)

number_before : (count number : ℕ) (old mid : Source) → symbol_at old false ≡ (Some (pos number), mid) → CanRead count mid ⊎ IsCut count mid → CanRead (suc count) old ⊎ IsCut (suc count) old
number_before count number old mid here (inl (numbers, new, len, reads)) = inl (number ∷ numbers, new, omega arith, (mid, here, reads))
number_before count number old mid here (inr cut) =
    inr (record { before = number ∷ cut.before; few = omega (arith, cut.few); mid = cut.mid; new = cut.new; reads = (mid, here, cut.reads); too_long = cut.too_long })

numbers_read : (count : ℕ) (old : Source) → CanRead count old ⊎ IsCut count old
numbers_read zero old = inl ([], old, refl, refl)
numbers_read (suc count) old =
    elim (unsigned_read old) [
      | inl read ↦ number_before count read.0 old read.1 read.2 (numbers_read count read.1)
      | inr long ↦ inr (record { before = []; few = omega arith; mid = old; new = long.0; reads = refl; too_long = long.1 })
    ]

-- ---- what nine numbers spell
spelled : (grid : Grid) (numbers : List ℕ) → (result : Result Header HeaderFault) × Spells grid numbers result
spelled grid numbers =
    elim (cases_lt (slice_index numbers 0 + slice_index numbers 2) grid.columns) [
      | inr over ↦ (Err BadHeader, inl over)
      | inl right ↦
          elim (cases_lt (slice_index numbers 1 + slice_index numbers 3) grid.rows) [
            | inr over ↦ (Err BadHeader, inr over)
            | inl bottom ↦
                elim (cases_lt (slice_index numbers 4) grid.table_sets) [
                  | inr over ↦ (Err TableIndex, ((right, bottom), inl over))
                  | inl luma ↦
                      elim (cases_lt (slice_index numbers 5) grid.table_sets) [
                        | inr over ↦ (Err TableIndex, ((right, bottom), inr over))
                        | inl chroma ↦ header_spelled grid numbers right bottom luma chroma
                      ]
                ]
          ]
    ]
  where
    header_spelled : (grid : Grid) (numbers : List ℕ) → slice_index numbers 0 + slice_index numbers 2 < grid.columns → slice_index numbers 1 + slice_index numbers 3 < grid.rows
        → slice_index numbers 4 < grid.table_sets → slice_index numbers 5 < grid.table_sets → (result : Result Header HeaderFault) × Spells grid numbers result
    header_spelled grid numbers right bottom luma chroma =
        let h : Header = record {
          x = slice_index numbers 0;
          y = slice_index numbers 1;
          columns = slice_index numbers 2 + 1;
          rows = slice_index numbers 3 + 1;
          luma_set = slice_index numbers 4;
          chroma_set = slice_index numbers 5;
        } in (
          Ok h,
          record {
            x = refl;
            y = refl;
            columns = refl;
            rows = refl;
            luma_set = refl;
            chroma_set = refl;
            right = omega arith;
            bottom = omega arith;
            has_luma = luma;
            has_chroma = chroma;
          },
        )

-- ---- a header
given : (grid : Grid) (old : Source) (reading : Reading) (numbers : List ℕ) (result : Result Header HeaderFault) → length numbers ≡ 9
    → ReadsNumbers numbers old reading → Spells grid numbers result → Gives grid old reading result
given grid old reading numbers (Ok h) nine reads is = (numbers, nine, reads, is)
given grid old reading numbers (Err BadHeader) nine reads passes = inr (numbers, nine, reads, passes)
given grid old reading numbers (Err TableIndex) nine reads (within, passes) = (numbers, nine, reads, within, passes)

-- Each source gives an answer.
pub header_exists : (grid : Grid) (old : Source) → (reading : Reading) × (result : Result Header HeaderFault) × Gives grid old reading result
header_exists grid old =
    elim (numbers_read 9 old) [
      | inl read ↦
          let spelling = spelled grid read.0 in
          (read.1.reading, spelling.0, given grid old read.1.reading read.0 spelling.0 read.2 (read.1, read.3, refl) spelling.1)
      | inr cut ↦
          (cut.new.reading, Err BadHeader, inl (record { before = cut.before; few = cut.few; mid = cut.mid; new = cut.new; reads = cut.reads; too_long = cut.too_long; place = refl }))
    ]
