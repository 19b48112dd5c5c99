use Rattle.std.proofs.Common.{◌≡◌, ◌∙◌, ap, sym, refl, map, List, [], ◌∷◌, ◌++◌}
use Rattle.script_lang.specs.declared.script.BodyLine.{BodyLine}
use Rattle.script_lang.specs.declared.script.Call.{Call}
use Rattle.script_lang.specs.declared.script.Call.TheVariants as call
use Rattle.script_lang.specs.declared.script.ClipLine.{ClipLine}
use Rattle.script_lang.specs.State.{has_word, begun, clip_line}
use Rattle.script_lang.proofs.Taking.{took_other, took_edl, took_export, took_clip, took_format, took_rate, begun_body, begun_clip}
use Rattle.script_lang.proofs.script_reading.take_export.Goals as goal

pub returns : goal.returns
returns c =
    let s = c.args.state.now in
    took_export s _ c.args.n (map (λ word. word.now) c.args.rest.now) c.in_ok-file.file.now c.requires.keeps c.requires.formatted (record { rate = refl; format = refl; names = λ w. refl })
    (λ w. refl) c.in_ok-put_word.ensures
    (begun_body (begun s) c.put_call.new.body.items (s.body.items ++ record { n = c.args.n; call = call.Export c.in_ok-file.file.now } ∷ [])
    (c.in_ok-put_call.ensures ∙ ap (λ f. s.body.items ++ record { n = c.args.n; call = call.Export f } ∷ []) c.in_ok-file-2.ensures))
    c.in_ok-file.ensures (sym c.is_named.ensures ∙ c.if-is_named.false)
