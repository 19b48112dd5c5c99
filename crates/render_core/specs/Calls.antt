-- Calls that have entries: what each did, and what it was told.
use Rattle.std.specs.Prelude.{ℕ, ◌+◌, ◌==◌, List, [], ◌∷◌, map, filter}
use Rattle.tl_model.specs.declared.journal.Act.{Act}
use Rattle.tl_model.specs.declared.journal.Entry.{Entry}
use Rattle.render_core.specs.State.{State, start}
use Rattle.render_core.specs.Step.{Setup, Reply, step, reply}

pub record CallOf (F : Type 0) : Type 0 where
  pub pass : ℕ
  pub act : Act
  pub told : Reply F

abbrev pub entry_of : {F : Type 0} → CallOf F → Entry
entry_of call = record { pass = call.pass; act = call.act }

-- Each entry with the machine's reply to it. The first is entry `count + 1`.
abbrev pub calls_from : {F : Type 0} → Setup F → (count : ℕ) → List Entry → State → List (CallOf F)
calls_from setup count [] s = []
calls_from setup count (e ∷ es) s =
    record { pass = e.pass; act = e.act; told = reply setup.library e.act s }
    ∷ calls_from setup (count + 1) es (step setup (count + 1) e.pass e.act s)

abbrev pub calls_of : {F : Type 0} → Setup F → List Entry → List (CallOf F)
calls_of setup journal = calls_from setup 0 journal start

abbrev pub replies : {F : Type 0} → Setup F → List Entry → List (Reply F)
replies setup journal = map (λ call. call.told) (calls_of setup journal)

-- The entries of one pass.
abbrev pub own : ℕ → List Entry → List Entry
own pass entries = filter (λ e. e.pass == pass) entries

abbrev pub own_calls : {F : Type 0} → ℕ → List (CallOf F) → List (CallOf F)
own_calls pass calls = filter (λ call. call.pass == pass) calls

-- The calls of one pass in a journal, with what each was told.
abbrev pub heard : {F : Type 0} → Setup F → ℕ → List Entry → List (CallOf F)
heard setup pass journal = own_calls pass (calls_of setup journal)
