use Rattle.std.proofs.Common.{◌≡◌, refl, sym, map}
use Rattle.script_lang.proofs.Taking.{took_format}
use Rattle.script_lang.proofs.script_reading.take_format.Goals as goal

pub returns : goal.returns
returns c =
    took_format c.args.state.now _ (map (λ word. word.now) c.args.rest.now) c.in_ok-header_rate.field-0 c.in_ok-format.format c.requires (sym c.in_ok-header_rate.ensures.exact)
    c.in_ok-format.ensures.read c.in_ok-format.ensures.sound c.in_ok-header_rate.ensures.header refl
