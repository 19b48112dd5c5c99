-- What a reader's loop keeps of a run that has samples ahead.
use Rattle.std.specs.Prelude.{ℕ, ◌+◌, List, ℤ, Bool, true, false}
use Rattle.ffv1_rice.specs.declared.runs.Mode.{Mode}
use Rattle.ffv1_rice.specs.declared.runs.Mode.TheVariants.{Outside, Running, Ending}
use Rattle.ffv1_rice.specs.declared.runs.Step.{Step}
use Rattle.ffv1_rice.specs.declared.runs.Step.TheVariants.{Zeros, Difference, AfterRun}
use Rattle.ffv1_rice.specs.Bits.{Reading}
use Rattle.ffv1_rice.specs.State.{State}
use Rattle.ffv1_rice.specs.Runs.{Run, Coding, source, coding, raised}

-- a run with so many more samples of difference 0
abbrev pub ahead : ℕ → Run → Run
ahead zeros run = record run { count = run.count + zeros }

-- the states and the bits, with such a run
abbrev pub coding_ahead : ℕ → Run → List State → Reading → Coding
coding_ahead zeros run states reading = coding (source (ahead zeros run) reading) states

-- A run goes on.
abbrev pub IsInRun : Mode → Type 0
IsInRun Outside = ⊥
IsInRun Running = Unit {0}
IsInRun Ending = Unit {0}

-- whether it doesn't
abbrev pub is_outside : Mode → Bool
is_outside Outside = true
is_outside Running = false
is_outside Ending = false

-- how many samples a step takes of a run, and what it makes of a difference that it reads
abbrev pub zeros_of : Step → ℕ
zeros_of (Zeros n) = n
zeros_of Difference = 0
zeros_of AfterRun = 0

abbrev pub raising : Step → ℤ → ℤ
raising (Zeros n) = λ d. d
raising Difference = λ d. d
raising AfterRun = raised
