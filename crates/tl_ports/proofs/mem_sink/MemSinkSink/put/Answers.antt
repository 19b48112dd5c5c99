use Rattle.std.proofs.Common.{ℕ, List, [], ◌∷◌, ◌++◌, ◌-◌, ◌/◌, length, take, inr, ap, ◌∙◌, arith}
use Rattle.tl_ports.proofs.PieceLemmas.{cut-added}
use Rattle.tl_ports.proofs.mem_sink.MemSinkSink.put.Goals as goal

pub returns-in-Ok-clause-puts : goal.returns-in-Ok-clause-puts
returns-in-Ok-clause-puts c =
    let self = c.args.self.now in
    let puts = c.in-Ok.ensures.puts in
    let n : ℕ = c.len.result - c.len-before.result in (
      puts.0,
      cut-added self.bytes.items c.put.new.bytes.items self.lens.items c.push_reserved.new.self.items c.args.bytes.now n self.whole puts.1
          (c.push_reserved.ensures.items ∙ ap (λ (lens : List ℕ). lens ++ n ∷ []) c.reserve.ensures.items) (omega (arith, c.len.ensures, c.len-before.ensures)),
    )

pub returns-in-Ok-clause-added : goal.returns-in-Ok-clause-added
returns-in-Ok-clause-added c = λ told. (returns-in-Ok-clause-puts c).1

pub returns-in-Err-Failed-clause-puts : goal.returns-in-Err-Failed-clause-puts
returns-in-Err-Failed-clause-puts c =
    let self = c.args.self.now in
    let puts = rw c.in-Err-Failed.field-0-is at c.in-Err-Failed.ensures.puts in
    let n : ℕ = c.len-in-Err-Failed.result - c.len-before.result in (
      puts.0,
      cut-added self.bytes.items c.put.new.bytes.items self.lens.items c.push_reserved-in-Err-Failed.new.self.items (take (length c.args.bytes.now / 2) c.args.bytes.now) n self.whole puts.1
          (c.push_reserved-in-Err-Failed.ensures.items ∙ ap (λ (lens : List ℕ). lens ++ n ∷ []) c.reserve.ensures.items) (omega (arith, c.len-in-Err-Failed.ensures, c.len-before.ensures)),
    )

pub returns-in-Err-Failed-clause-added : goal.returns-in-Err-Failed-clause-added
returns-in-Err-Failed-clause-added c = λ told. inr (length c.args.bytes.now / 2, (returns-in-Err-Failed-clause-puts c).1)
