-- The time of a frame against that of an earlier one.
use Rattle.std.proofs.Common.{ℕ, ◌+◌, ◌*◌, ◌/◌, ◌<◌, ◌≤◌, arith}
use Rattle.std.proofs.Math.Nat.{div-mul-le_self, lt-div-mul-add}
use Rattle.std.proofs.lemmas.Nat.{div_below, le-div}
use Rattle.mkv_write.specs.File.{frame_time}

pub frame_time-le : (rate first frame : ℕ) → 1 ≤ rate → first ≤ frame → frame_time rate first ≤ frame_time rate frame
unfolding frame_time
frame_time-le rate first frame above later =
    let half = rate / 2 in
    let whole : (1000 * first + half) / rate * rate ≤ 1000 * first + half = div-mul-le_self (1000 * first + half) rate in
    le-div ((1000 * first + half) / rate) (1000 * frame + half) rate (omega arith) (omega arith)

-- within 25 frames the time rises by less than 24,001 milliseconds
pub frame_time-lt : (rate first frame : ℕ) → 1 ≤ rate → frame < first + 25 → frame_time rate frame < frame_time rate first + 24001
unfolding frame_time
frame_time-lt rate first frame above near =
    let half = rate / 2 in
    let positive : 0 < rate = omega arith in
    let whole : 1000 * first + half < (1000 * first + half) / rate * rate + rate = lt-div-mul-add positive in
    div_below (1000 * frame + half) rate ((1000 * first + half) / rate + 24001) positive (omega arith)
