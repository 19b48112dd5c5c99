-- What was read stays sound with one more line.
use Rattle.std.proofs.Common.{◌≡◌, ℕ, ◌+◌, ◌≤◌, ◌<◌, Bool, true, false, ◌||◌, not, List, [], ◌∷◌, ◌++◌, length, map, flat_map, Option, Some, None, codes, refl, ap, sym, ◌∙◌, subst, append-nil, append_assoc, length-append, arith}
use Rattle.std.specs.List.{list_any}
use Rattle.std.specs.Str.{bytes_eq}
use Rattle.std.proofs.lemmas.List.{map-append}
use Rattle.std.proofs.lemmas.List.Folds.{list_any-append}
use Rattle.std.proofs.lemmas.Slice.Eq.{bytes_eq-Decides}
use Rattle.tl_limits.specs.Limits.{max_clips, timecode_frames}
use Rattle.script_lang.specs.declared.script.BodyLine.{BodyLine}
use Rattle.script_lang.specs.declared.script.Call.{Call}
use Rattle.script_lang.specs.declared.script.Call.TheVariants as call
use Rattle.script_lang.specs.declared.script.ClipLine.{ClipLine}
use Rattle.script_lang.specs.declared.script.FormatLine.{FormatLine}
use Rattle.script_lang.specs.declared.script.FormatLine.TheVariants as format
use Rattle.script_lang.specs.Line.{is_one_of}
use Rattle.script_lang.specs.Lists.{Words}
use Rattle.script_lang.specs.ScriptText.{Begun, list_files, export_files, names, read_files, exported, with_clip_line, with_body}
use Rattle.script_lang.specs.ScriptSound.{IsCall, AreCalls, AreClips, IsFormat, IsFormatOrNone, AreDistinct, AreApart, IsBegun}
use Rattle.script_lang.proofs.CallSound.{IsOther}
use Rattle.script_lang.proofs.Keeping.{one_more, no_file, one_file}

neither : (a b : Bool) → (a || b) ≡ false → (a ≡ false) × (b ≡ false)
neither true b e = absurd (cc)
neither false b e = (refl, e)

no_or : (a b : Bool) → a ≡ false → b ≡ false → (a || b) ≡ false
no_or a b e f = rw (e, f) refl

both_ways : (x y : Bool) → (x ≡ true → y ≡ true) → (y ≡ true → x ≡ true) → x ≡ y
both_ways true y f g = sym (f refl)
both_ways false true f g = g refl
both_ways false false f g = refl

pub swap : (a b : List ℕ) → bytes_eq a b ≡ bytes_eq b a
swap a b =
    both_ways (bytes_eq a b) (bytes_eq b a) (λ e. (bytes_eq-Decides b a).1 (sym ((bytes_eq-Decides a b).0 e)))
    (λ e. (bytes_eq-Decides a b).1 (sym ((bytes_eq-Decides b a).0 e)))

-- ---- words at the end of a list
distinct_more : (words : Words) (word : List ℕ) → AreDistinct words → is_one_of words word ≡ false → AreDistinct (words ++ word ∷ [])
distinct_more [] word d fresh = (refl, tt)
distinct_more (w ∷ more) word d fresh =
    let parts = neither (bytes_eq w word) (is_one_of more word) fresh in
    (one_more more word w ∙ no_or (bytes_eq word w) (is_one_of more w) (swap word w ∙ parts.0) d.0, distinct_more more word d.1 parts.1)

apart_more : (words others : Words) (word : List ℕ) → AreApart words others → is_one_of others word ≡ false → AreApart (words ++ word ∷ []) others
apart_more [] others word d fresh = (fresh, tt)
apart_more (w ∷ more) others word d fresh = (d.0, apart_more more others word d.1 fresh)

apart_from : (words front back : Words) (word : List ℕ) → AreApart words (front ++ back) → is_one_of words word ≡ false
    → AreApart words ((front ++ word ∷ []) ++ back)
apart_from [] front back word d fresh = tt
apart_from (w ∷ more) front back word d fresh =
    let parts = neither (bytes_eq w word) (is_one_of more word) fresh in
    let split : (is_one_of front w || is_one_of back w) ≡ false = sym (list_any-append (λ other. bytes_eq other w) front back) ∙ d.0 in
    let two = neither (is_one_of front w) (is_one_of back w) split in (
      list_any-append (λ other. bytes_eq other w) (front ++ word ∷ []) back
          ∙ no_or (is_one_of (front ++ word ∷ []) w) (is_one_of back w) (one_more front word w ∙ no_or (bytes_eq word w) (is_one_of front w) (swap word w ∙ parts.0) two.0) two.1,
      apart_from more front back word d.1 parts.1,
    )

apart_by : (a b front back : Words) → a ≡ b → front ≡ back → AreApart a front → AreApart b back
apart_by a b front back same others d = subst (λ (words : Words). AreApart words back) same (subst (AreApart a) others d)

-- ---- clips and calls at the end of a list
clips_more : (clips : List ClipLine) (clip : ClipLine) → AreClips clips → clip.start < timecode_frames → AreClips (clips ++ clip ∷ [])
clips_more [] clip s below = (below, tt)
clips_more (c ∷ more) clip s below = (s.0, clips_more more clip s.1 below)

calls_more : (body : List BodyLine) (line : BodyLine) → AreCalls body → IsCall line.call → AreCalls (body ++ line ∷ [])
calls_more [] line s sound = (sound, tt)
calls_more (l ∷ more) line s sound = (s.0, calls_more more line s.1 sound)

or_later : (a b : Bool) → b ≡ true → (a || b) ≡ true
or_later true b e = refl
or_later false b e = e

format_more : (words : Words) (word : List ℕ) (o : Option FormatLine) → IsFormatOrNone words o → IsFormatOrNone (words ++ word ∷ []) o
format_more words word None s = tt
format_more words word (Some (format.As name)) s = one_more words word name ∙ or_later (bytes_eq word name) (is_one_of words name) s
format_more words word (Some (format.Own width height kind coding columns rows)) s = s

names_with : (b : Begun) (clip : ClipLine) → names (with_clip_line b clip) ≡ names b ++ clip.name ∷ []
names_with b clip = map-append (λ c. c.name) b.clips (clip ∷ [])

files_with : (b : Begun) (clip : ClipLine) → map (λ c. c.file) (b.clips ++ clip ∷ []) ≡ map (λ c. c.file) b.clips ++ clip.file ∷ []
files_with b clip = map-append (λ c. c.file) b.clips (clip ∷ [])

-- Before the format there is no call, so a clip's file isn't one that was exported.
pub clip_added : (b : Begun) (clip : ClipLine) → IsBegun b → length b.clips < max_clips → clip.start < timecode_frames → b.body ≡ []
    → (bytes_eq clip.name (codes "black") || is_one_of (names b) clip.name) ≡ false → IsBegun (with_clip_line b clip)
clip_added b clip s room below none fresh =
    let parts = neither (bytes_eq clip.name (codes "black")) (is_one_of (names b) clip.name) fresh in
    record {
      clip_count = omega (arith, length-append b.clips (clip ∷ []));
      clips = clips_more b.clips clip s.clips below;
      distinct = rw (names_with b clip) (distinct_more (names b) clip.name s.distinct parts.1);
      black = ap (λ ws. is_one_of ws (codes "black")) (names_with b clip) ∙ one_more (names b) clip.name (codes "black") ∙ no_or (bytes_eq clip.name (codes "black")) (is_one_of (names b) (codes "black")) parts.0 s.black;
      format = rw (names_with b clip) (format_more (names b) clip.name b.format s.format);
      calls = s.calls;
      exports = s.exports;
      apart = rw none tt;
    }

pub format_added : (b : Begun) (f : FormatLine) → IsBegun b → IsFormat (names b) f → IsBegun (record b { format = Some f })
format_added b f s sound = record {
  clip_count = s.clip_count;
  clips = s.clips;
  distinct = s.distinct;
  black = s.black;
  format = sound;
  calls = s.calls;
  exports = s.exports;
  apart = s.apart;
}

-- a call that names no file
pub other_added : (b : Begun) (n : ℕ) (said : Call) → IsBegun b → IsOther said → IsBegun (with_body b n said)
other_added b n said s other =
    let line : BodyLine = record { n = n; call = said } in
    let reads : flat_map (λ l. list_files l.call) (b.body ++ line ∷ []) ≡ flat_map (λ l. list_files l.call) b.body = no_file (λ l. list_files l.call) b.body line other.reads in
    let writes : flat_map (λ l. export_files l.call) (b.body ++ line ∷ []) ≡ flat_map (λ l. export_files l.call) b.body = no_file (λ l. export_files l.call) b.body line other.writes in
    record {
      clip_count = s.clip_count;
      clips = s.clips;
      distinct = s.distinct;
      black = s.black;
      format = s.format;
      calls = calls_more b.body line s.calls other.numbers;
      exports = subst AreDistinct (sym writes) s.exports;
      apart = apart_by (exported b) (exported (with_body b n said)) (read_files b) (read_files (with_body b n said)) (sym writes) (ap (λ ws. map (λ c. c.file) b.clips ++ ws) (sym reads)) s.apart;
    }

-- an edit list that wasn't exported
pub edl_added : (b : Begun) (n : ℕ) (file : List ℕ) → IsBegun b → is_one_of (exported b) file ≡ false → IsBegun (with_body b n (call.Edl file))
edl_added b n file s fresh =
    let line : BodyLine = record { n = n; call = call.Edl file } in
    let reads : flat_map (λ l. list_files l.call) (b.body ++ line ∷ []) ≡ flat_map (λ l. list_files l.call) b.body ++ file ∷ [] = one_file (λ l. list_files l.call) b.body line file refl in
    let writes : flat_map (λ l. export_files l.call) (b.body ++ line ∷ []) ≡ flat_map (λ l. export_files l.call) b.body = no_file (λ l. export_files l.call) b.body line refl in
    let files : List (List ℕ) = map (λ c. c.file) b.clips in
    record {
      clip_count = s.clip_count;
      clips = s.clips;
      distinct = s.distinct;
      black = s.black;
      format = s.format;
      calls = calls_more b.body line s.calls tt;
      exports = subst AreDistinct (sym writes) s.exports;
      apart =
          apart_by (exported b) (exported (with_body b n (call.Edl file))) ((read_files b ++ file ∷ []) ++ []) (read_files (with_body b n (call.Edl file))) (sym writes)
          (append-nil (read_files b ++ file ∷ []) ∙ append_assoc files (flat_map (λ l. list_files l.call) b.body) (file ∷ []) ∙ ap (λ ws. files ++ ws) (sym reads))
          (apart_from (exported b) (read_files b) [] file (subst (AreApart (exported b)) (sym (append-nil (read_files b))) s.apart) fresh);
    }

-- a file that no line before names
pub export_added : (b : Begun) (n : ℕ) (file : List ℕ) → IsBegun b → (is_one_of (read_files b) file || is_one_of (exported b) file) ≡ false → IsBegun (with_body b n (call.Export file))
export_added b n file s fresh =
    let line : BodyLine = record { n = n; call = call.Export file } in
    let reads : flat_map (λ l. list_files l.call) (b.body ++ line ∷ []) ≡ flat_map (λ l. list_files l.call) b.body = no_file (λ l. list_files l.call) b.body line refl in
    let writes : flat_map (λ l. export_files l.call) (b.body ++ line ∷ []) ≡ flat_map (λ l. export_files l.call) b.body ++ file ∷ [] = one_file (λ l. export_files l.call) b.body line file refl in
    let parts = neither (is_one_of (read_files b) file) (is_one_of (exported b) file) fresh in
    record {
      clip_count = s.clip_count;
      clips = s.clips;
      distinct = s.distinct;
      black = s.black;
      format = s.format;
      calls = calls_more b.body line s.calls tt;
      exports = subst AreDistinct (sym writes) (distinct_more (exported b) file s.exports parts.1);
      apart =
          apart_by (exported b ++ file ∷ []) (exported (with_body b n (call.Export file))) (read_files b) (read_files (with_body b n (call.Export file))) (sym writes)
          (ap (λ ws. map (λ c. c.file) b.clips ++ ws) (sym reads)) (apart_more (exported b) (read_files b) file s.apart parts.0);
    }

pub none_yet : IsBegun (record { rate = None; clips = []; format = None; body = [] })
none_yet = record { clip_count = omega arith; clips = tt; distinct = tt; black = refl; format = tt; calls = tt; exports = tt; apart = tt }
