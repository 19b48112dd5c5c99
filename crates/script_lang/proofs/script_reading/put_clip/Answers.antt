use Rattle.std.proofs.Common.{◌≡◌, ◌∙◌, ap, refl, [], ◌∷◌, ◌++◌}
use Rattle.script_lang.specs.State.{begun, clip_line}
use Rattle.script_lang.proofs.Taking.{took_clip, begun_clip}
use Rattle.script_lang.proofs.script_reading.put_clip.Goals as goal

pub returns : goal.returns
returns c =
    let s = c.args.state.now in
    took_clip s _ (clip_line c.args.n c.args.clip) c.requires.keeps c.requires.room c.requires.below c.requires.header c.requires.fresh refl refl
    c.in_ok-put_word.ensures c.in_ok-put_word-2.ensures (λ w. refl)
    (begun_clip (begun s) c.push_clip.new.clips.items (s.clips.items ++ clip_line c.args.n c.args.clip ∷ [])
    (c.in_ok-push_clip.ensures ∙ ap (λ line. s.clips.items ++ line ∷ []) c.in_ok-line.ensures))
