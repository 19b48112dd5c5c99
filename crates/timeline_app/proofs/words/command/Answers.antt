use Rattle.std.proofs.Common.{◌≡◌, ◌∙◌, ap, refl, [], true}
use Rattle.std.specs.Prelude.{codes}
use Rattle.clap.specs.Simple.{app_of_fields, on_top}
use Rattle.clap.specs.Words.{App, Rule, app_of, new_app, with_rule}
use Rattle.timeline_app.proofs.words.command.Goals as goal

-- the command before its arguments
abbrev plain : App
plain = record { top = record (new_app (codes "timeline")).top { no_binary_name = true }; subs = [] }

step : {old new : App} {rule given : Rule} {begun : App} → new ≡ with_rule old rule → old ≡ begun → rule ≡ given → new ≡ with_rule begun given
step shape is same = rw (shape, is, same) refl

pub returns : goal.returns
returns c =
    let begun : app_of c.no_binary_name.result ≡ plain = ap app_of_fields c.no_binary_name.ensures ∙ ap (on_top (λ shape. record shape { no_binary_name = true })) c.new.ensures.app in
    let script = step (c.in_ok-script.ensures.shape c.script_argument.ensures.global) begun c.script_argument.ensures.rule in
    let workers = step (c.in_ok-workers.ensures.shape c.number_argument.ensures.global) script c.number_argument.ensures.rule in
    let cache = step (c.in_ok-cache.ensures.shape c.number_argument-2.ensures.global) workers c.number_argument-2.ensures.rule in
    step (c.in_ok-journal.ensures.shape c.number_argument-3.ensures.global) cache c.number_argument-3.ensures.rule
