use Rattle.std.proofs.Common.{◌≡◌, refl, sym, map, is_some, false}
use Rattle.script_lang.proofs.Taking.{took_rate, not_some}
use Rattle.script_lang.proofs.script_reading.take_rate.Goals as goal

pub returns : goal.returns
returns c =
    let s = c.args.state.now in
    let first : is_some s.rate ≡ false = cc in
    took_rate s _ (map (λ word. word.now) c.args.rest.now) c.in_ok-rate.rate c.requires (not_some s.rate first) (sym c.in_ok-rate.ensures.exact) c.in_ok-rate.ensures.rate refl
