-- What the fields of a state stand for.
use Rattle.ffv1_rice.specs.declared.state.Tally.{Tally}
use Rattle.ffv1_rice.specs.State.{State}

abbrev pub state_of : Tally → State
state_of t = record { drift = t.drift; error_sum = t.error_sum; bias = t.bias; count = t.count }
