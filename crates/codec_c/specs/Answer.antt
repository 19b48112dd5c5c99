-- The numbers that calls answer: a kind above, and a place of 32 bits below.
use Rattle.std.specs.Prelude.{ℕ, ◌+◌, ◌*◌, ◌^◌}
use Rattle.tl_model.specs.declared.fault.FrameFault.{FrameFault}
use Rattle.tl_model.specs.declared.fault.FrameFault.TheVariants.{Empty, Chain, Parity, NotKey, Header, TableIndex, Cover, Symbol, Overrun}
use Rattle.codec_c.specs.declared.answer.Answer.{Answer}
use Rattle.codec_c.specs.declared.answer.Answer.TheVariants.{Done, Arguments, Memory, Fault, SliceTooLong}

abbrev pub told : (kind place : ℕ) → ℕ
told kind place = kind * 2 ^ 32 + place

-- the place is that of the slice or the cell, or 0
abbrev pub fault_number : FrameFault → ℕ
fault_number Empty = told 3 0
fault_number Chain = told 4 0
fault_number (Parity slice) = told 5 slice
fault_number NotKey = told 6 0
fault_number (Header slice) = told 7 slice
fault_number (TableIndex slice) = told 8 slice
fault_number (Cover cell) = told 9 cell
fault_number (Symbol slice) = told 10 slice
fault_number (Overrun slice) = told 11 slice

abbrev pub number_of : Answer → ℕ
number_of (Done count) = told 0 count
number_of Arguments = told 1 0
number_of Memory = told 2 0
number_of (Fault fault) = fault_number fault
number_of SliceTooLong = told 12 0
