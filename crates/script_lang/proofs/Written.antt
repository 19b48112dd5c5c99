-- A script that was written is read back.
use Rattle.std.proofs.Common.{◌≡◌, ℕ, ◌+◌, ◌≤◌, Bool, true, ◌&&◌, List, [], ◌∷◌, ◌++◌, length, map, flat_map, Some, refl, ap, sym, ◌∙◌, subst, append-nil, arith}
use Rattle.std.specs.List.{list_all}
use Rattle.std.specs.Str.Lines.{lines}
use Rattle.tl_limits.specs.Limits.{max_clips, max_lines}
use Rattle.script_lang.specs.declared.script.ClipLine.{ClipLine}
use Rattle.script_lang.specs.declared.script.Script.{Script}
use Rattle.script_lang.specs.Law.{AreWritableClips, IsWritable, clips_from, ScriptsReadBack}
use Rattle.script_lang.specs.Line.{is_name}
use Rattle.script_lang.specs.Lists.{Words}
use Rattle.script_lang.specs.ScriptSound.{IsFormat, AreApart}
use Rattle.script_lang.specs.ScriptText.{Begun, script_from, script}
use Rattle.script_lang.specs.Writing.{ended_line, clip_words, call_words, format_words}
use Rattle.script_lang.proofs.WrittenCalls.{Precedes, exports_of, lists_of, calls_again}
use Rattle.script_lang.proofs.WrittenHeader.{rate_line, clips_again, format_line}

joint : (a b : Bool) → a ≡ true → b ≡ true → (a && b) ≡ true
joint a b e f = rw (e, f) refl

-- ---- what line numbers leave as it was
names_from : (n : ℕ) (clips : List ClipLine) → map (λ c. c.name) (clips_from n clips) ≡ map (λ c. c.name) clips
unfolding clips_from
names_from n [] = refl
names_from n (clip ∷ more) = ap (λ words. clip.name ∷ words) (names_from (n + 1) more)

files_from : (n : ℕ) (clips : List ClipLine) → map (λ c. c.file) (clips_from n clips) ≡ map (λ c. c.file) clips
unfolding clips_from
files_from n [] = refl
files_from n (clip ∷ more) = ap (λ words. clip.file ∷ words) (files_from (n + 1) more)

clips_named : (rate : ℕ) (clips : List ClipLine) → AreWritableClips rate clips → list_all is_name (map (λ c. c.name) clips) ≡ true
clips_named rate [] w = refl
clips_named rate (clip ∷ more) w = joint (is_name clip.name) (list_all is_name (map (λ c. c.name) more)) w.0.name (clips_named rate more w.1)

-- what stands before the calls
abbrev headed : Script → Begun
headed s = record { rate = Some s.rate; clips = clips_from 2 s.clips; format = Some s.format; body = [] }

headed_precedes : (s : Script) → IsWritable s → Precedes (headed s) s.body
headed_precedes s w =
    let files : map (λ c. c.file) s.clips ≡ map (λ c. c.file) (clips_from 2 s.clips) ++ [] =
    sym (append-nil (map (λ c. c.file) (clips_from 2 s.clips)) ∙ files_from 2 s.clips) in
    record {
      format = refl;
      distinct = w.sound.said.exports;
      apart = subst (λ (words : Words). AreApart (exports_of s.body) (words ++ lists_of s.body)) files w.sound.said.apart;
    }

pub scripts_read_back : ScriptsReadBack
scripts_read_back s w =
    let calls : List ℕ = flat_map (λ line. ended_line (call_words line.call)) s.body in
    let format : List ℕ = ended_line (format_words s.format) ++ calls in
    let clips : List ℕ = flat_map (λ clip. ended_line (clip_words s.rate clip)) s.clips ++ format in
    let few : 2 + length s.clips + length s.body ≤ max_lines = w.lines in
    let room : length s.clips ≤ max_clips = w.sound.said.clip_count in
    let line : 2 + length s.clips + 1 ≡ 3 + length s.clips = omega arith in
    let names = names_from 2 s.clips in
    rate_line s.rate clips w.sound.rate
    ∙ clips_again s.rate 2 [] s.clips format w.sound.rate (record {
      writable = w.clips;
      distinct = w.sound.said.distinct;
      black = w.sound.said.black;
      room = omega arith;
      few = omega arith;
    })
    ∙ format_line s.rate (2 + length s.clips) (clips_from 2 s.clips) s.format calls
    (ap (list_all is_name) names ∙ clips_named s.rate s.clips w.clips)
    (subst (λ (words : Words). IsFormat words s.format) (sym names) w.sound.said.format) (omega arith)
    ∙ ap (λ n. script_from (headed s) n (lines calls)) line
    ∙ calls_again (headed s) (3 + length s.clips) s.rate s.format s.body refl refl w.sound.said.calls w.calls (headed_precedes s w) (omega arith)
