-- The calls of a written script are read back.
use Rattle.std.proofs.Common.{◌≡◌, ℕ, ◌+◌, ◌≤◌, Bool, true, false, ◌&&◌, ◌||◌, List, [], ◌∷◌, ◌++◌, length, map, flat_map, Some, is_some, Ok, codes, refl, ap, sym, ◌∙◌, subst, append_assoc, append-nil, arith, lit<}
use Rattle.std.specs.List.{list_all}
use Rattle.std.specs.Str.{bytes_eq, is_utf8}
use Rattle.std.specs.Str.Lines.{lines}
use Rattle.std.proofs.lemmas.Grind.{flat_map-append}
use Rattle.std.proofs.lemmas.List.Folds.{list_any-append}
use Rattle.tl_limits.specs.Limits.{max_frames, max_lines}
use Rattle.script_lang.specs.declared.script.BodyLine.{BodyLine}
use Rattle.script_lang.specs.declared.script.Call.{Call}
use Rattle.script_lang.specs.declared.script.Call.TheVariants as call
use Rattle.script_lang.specs.declared.script.FormatLine.{FormatLine}
use Rattle.script_lang.specs.Calls.{span_of, piece_of, relink_of, journal_call, view_call, place_call, call_of}
use Rattle.script_lang.specs.Fields.{pair_of, one_number, two_numbers, within, place_by, one_name}
use Rattle.script_lang.specs.Law.{call_texts, AreWritableCalls, calls_from}
use Rattle.script_lang.specs.Line.{is_name, is_one_of, joined}
use Rattle.script_lang.specs.Lists.{Words}
use Rattle.script_lang.specs.ScriptSound.{IsCall, AreCalls, AreDistinct, AreApart}
use Rattle.script_lang.specs.ScriptText.{Begun, list_files, export_files, read_files, exported, with_body, with_edl, with_export, with_other, with_known, with_call, with_words, with_split, ended, script_from}
use Rattle.script_lang.specs.Writing.{digits, call_words, ended_line}
use Rattle.script_lang.proofs.Reread.{both, is_plain}
use Rattle.script_lang.proofs.Soundness.{is_letters, letters_name}
use Rattle.script_lang.proofs.Adding.{swap}
use Rattle.script_lang.proofs.WrittenWords.{digits_name, signed_name, within_again, signed_again, name_again}
use Rattle.script_lang.proofs.WrittenLines.{is_begun_line, one_line}

upto : (low n : ℕ) → low ≤ n → n ≤ max_frames → within low max_frames (digits n) ≡ Ok n
upto low n above below = within_again low max_frames n above below (lit< tt)

small : (n : ℕ) → n ≤ max_frames → within 0 max_frames (digits n) ≡ Ok n
small n below = upto 0 n (omega arith) below

named : (word : List ℕ) (rest : Bool) → (is_name word && rest) ≡ true → is_name word ≡ true
named word rest e = (both (is_name word) rest e).0

-- The file of an edit list wasn't exported before, and that of an export wasn't named before.
abbrev pub IsFree : Begun → Call → Type 0
IsFree b (call.Edl file) = is_one_of (exported b) file ≡ false
IsFree b (call.Export file) = (is_one_of (read_files b) file || is_one_of (exported b) file) ≡ false
IsFree b other = Unit {0}

-- ---- one call
call_again : (b : Begun) (n : ℕ) (line : List ℕ) (said : Call) → is_utf8 line ≡ true → is_some b.format ≡ true → IsCall said
    → list_all is_name (call_texts said) ≡ true → IsFree b said → with_split b n line (call_words said) ≡ Ok (with_body b n said)
unfolding with_split with_words with_call with_known with_other with_edl with_export call_of place_call view_call journal_call piece_of span_of relink_of pair_of one_number two_numbers place_by one_name call_words
call_again b n line (call.Insert at name first len) text placed s w free = rw (text, placed, small at s.0, small first s.1, upto 1 len s.2.0 s.2.1, name_again name (named name true w)) refl
call_again b n line (call.Overwrite at name first len) text placed s w free = rw (text, placed, small at s.0, small first s.1, upto 1 len s.2.0 s.2.1, name_again name (named name true w)) refl
call_again b n line (call.Extract at len) text placed s w free = rw (text, placed, small at s.0, upto 1 len s.1.0 s.1.1) refl
call_again b n line (call.Lift at len) text placed s w free = rw (text, placed, small at s.0, upto 1 len s.1.0 s.1.1) refl
call_again b n line (call.Split at) text placed s w free = rw (text, placed, small at s) refl
call_again b n line (call.TrimIn at by) text placed s w free = rw (text, placed, small at s.0, signed_again by s.1) refl
call_again b n line (call.TrimOut at by) text placed s w free = rw (text, placed, small at s.0, signed_again by s.1) refl
call_again b n line (call.Slip at by) text placed s w free = rw (text, placed, small at s.0, signed_again by s.1) refl
call_again b n line (call.Dissolve at len) text placed s w free = rw (text, placed, small at s.0, small len s.1) refl
call_again b n line (call.Relink at name first) text placed s w free = rw (text, placed, small at s.0, small first s.1, name_again name (named name true w)) refl
call_again b n line (call.Edl file) text placed s w free = rw (text, placed, name_again file (named file true w), free) refl
call_again b n line call.Undo text placed s w free = rw (text, placed) refl
call_again b n line call.Redo text placed s w free = rw (text, placed) refl
call_again b n line (call.Want first len) text placed s w free = rw (text, placed, small first s.0, upto 1 len s.1.0 s.1.1) refl
call_again b n line (call.Cancel first len) text placed s w free = rw (text, placed, small first s.0, upto 1 len s.1.0 s.1.1) refl
call_again b n line (call.Play frame) text placed s w free = rw (text, placed, small frame s) refl
call_again b n line (call.Show frame) text placed s w free = rw (text, placed, small frame s) refl
call_again b n line (call.Roll first len) text placed s w free = rw (text, placed, small first s.0, upto 1 len s.1.0 s.1.1) refl
call_again b n line (call.Work turns) text placed s w free = rw (text, placed, upto 1 turns s.0 s.1) refl
call_again b n line (call.Export file) text placed s w free = rw (text, placed, name_again file (named file true w), free) refl

-- its words
call_named : (said : Call) → list_all is_name (call_texts said) ≡ true → list_all is_name (call_words said) ≡ true
unfolding call_words is_letters is_plain
call_named (call.Insert at name first len) w = rw (letters_name (codes "insert") refl, digits_name at, named name true w, digits_name first, digits_name len) refl
call_named (call.Overwrite at name first len) w = rw (letters_name (codes "overwrite") refl, digits_name at, named name true w, digits_name first, digits_name len) refl
call_named (call.Extract at len) w = rw (letters_name (codes "extract") refl, digits_name at, digits_name len) refl
call_named (call.Lift at len) w = rw (letters_name (codes "lift") refl, digits_name at, digits_name len) refl
call_named (call.Split at) w = rw (letters_name (codes "split") refl, digits_name at) refl
call_named (call.TrimIn at by) w = rw (letters_name (codes "trimin") refl, digits_name at, signed_name by) refl
call_named (call.TrimOut at by) w = rw (letters_name (codes "trimout") refl, digits_name at, signed_name by) refl
call_named (call.Slip at by) w = rw (letters_name (codes "slip") refl, digits_name at, signed_name by) refl
call_named (call.Dissolve at len) w = rw (letters_name (codes "dissolve") refl, digits_name at, digits_name len) refl
call_named (call.Relink at name first) w = rw (letters_name (codes "relink") refl, digits_name at, named name true w, digits_name first) refl
call_named (call.Edl file) w = rw (letters_name (codes "edl") refl, named file true w) refl
call_named call.Undo w = rw (letters_name (codes "undo") refl) refl
call_named call.Redo w = rw (letters_name (codes "redo") refl) refl
call_named (call.Want first len) w = rw (letters_name (codes "want") refl, digits_name first, digits_name len) refl
call_named (call.Cancel first len) w = rw (letters_name (codes "cancel") refl, digits_name first, digits_name len) refl
call_named (call.Play n) w = rw (letters_name (codes "play") refl, digits_name n) refl
call_named (call.Show n) w = rw (letters_name (codes "show") refl, digits_name n) refl
call_named (call.Roll first len) w = rw (letters_name (codes "roll") refl, digits_name first, digits_name len) refl
call_named (call.Work turns) w = rw (letters_name (codes "work") refl, digits_name turns) refl
call_named (call.Export file) w = rw (letters_name (codes "export") refl, named file true w) refl

call_begins : (said : Call) → is_begun_line (call_words said) ≡ true
unfolding call_words is_begun_line joined
call_begins (call.Insert at name first len) = refl
call_begins (call.Overwrite at name first len) = refl
call_begins (call.Extract at len) = refl
call_begins (call.Lift at len) = refl
call_begins (call.Split at) = refl
call_begins (call.TrimIn at by) = refl
call_begins (call.TrimOut at by) = refl
call_begins (call.Slip at by) = refl
call_begins (call.Dissolve at len) = refl
call_begins (call.Relink at name first) = refl
call_begins (call.Edl file) = refl
call_begins call.Undo = refl
call_begins call.Redo = refl
call_begins (call.Want first len) = refl
call_begins (call.Cancel first len) = refl
call_begins (call.Play n) = refl
call_begins (call.Show n) = refl
call_begins (call.Roll first len) = refl
call_begins (call.Work turns) = refl
call_begins (call.Export file) = refl

call_line : (b : Begun) (n : ℕ) (said : Call) (rest : List ℕ) → is_some b.format ≡ true → IsCall said → list_all is_name (call_texts said) ≡ true
    → IsFree b said → n ≤ max_lines → script_from b n (lines (ended_line (call_words said) ++ rest)) ≡ script_from (with_body b n said) (n + 1) (lines rest)
call_line b n said rest placed s w free within =
    one_line b (with_body b n said) n (call_words said) rest (call_named said w) (call_begins said) within
    (λ line text. call_again b n line said text placed s w free)

-- ---- files of calls that follow
abbrev pub lists_of : List BodyLine → Words
lists_of body = flat_map (λ line. list_files line.call) body

abbrev pub exports_of : List BodyLine → Words
exports_of body = flat_map (λ line. export_files line.call) body

neither : (a b : Bool) → (a || b) ≡ false → (a ≡ false) × (b ≡ false)
neither true b e = absurd (cc)
neither false b e = (refl, e)

no_or : (a b : Bool) → a ≡ false → b ≡ false → (a || b) ≡ false
no_or a b e f = rw (e, f) refl

parted : (front back : Words) (word : List ℕ) → is_one_of (front ++ back) word ≡ false
    → (is_one_of front word ≡ false) × (is_one_of back word ≡ false)
parted front back word e =
    neither (is_one_of front word) (is_one_of back word) (sym (list_any-append (λ other. bytes_eq other word) front back) ∙ e)

-- a word of a list of which none stands twice isn't among those before it
pub distinct_free : (front back : Words) (word : List ℕ) → AreDistinct (front ++ word ∷ back) → is_one_of front word ≡ false
distinct_free [] back word d = refl
distinct_free (w ∷ front) back word d =
    let later = parted front (word ∷ back) w d.0 in
    no_or (bytes_eq w word) (is_one_of front word) (swap w word ∙ (neither (bytes_eq word w) (is_one_of back w) later.1).0) (distinct_free front back word d.1)

apart_free : (words front back : Words) (word : List ℕ) → AreApart words (front ++ word ∷ back) → is_one_of words word ≡ false
apart_free [] front back word d = refl
apart_free (w ∷ words) front back word d =
    let later = parted front (word ∷ back) w d.0 in
    no_or (bytes_eq w word) (is_one_of words word) (swap w word ∙ (neither (bytes_eq word w) (is_one_of back w) later.1).0) (apart_free words front back word d.1)

apart_at : (front back others : Words) (word : List ℕ) → AreApart (front ++ word ∷ back) others → is_one_of others word ≡ false
apart_at [] back others word d = d.0
apart_at (w ∷ front) back others word d = apart_at front back others word d.1

apart_front : (front back others : Words) → AreApart (front ++ back) others → AreApart front others
apart_front [] back others d = tt
apart_front (w ∷ front) back others d = (d.0, apart_front front back others d.1)

-- What stands before calls that follow has none of their files in the way.
pub record Precedes (b : Begun) (left : List BodyLine) : Type 0 where
  pub format : is_some b.format ≡ true
  pub distinct : AreDistinct (exported b ++ exports_of left)
  pub apart : AreApart (exported b ++ exports_of left) (read_files b ++ lists_of left)

call_free : (b : Begun) (said : Call) (lists exports : Words) → AreDistinct (exported b ++ (export_files said ++ exports))
    → AreApart (exported b ++ (export_files said ++ exports)) (read_files b ++ (list_files said ++ lists)) → IsFree b said
call_free b (call.Edl file) lists exports d a =
    apart_free (exported b) (read_files b) lists file (apart_front (exported b) exports (read_files b ++ (file ∷ lists)) a)
call_free b (call.Export file) lists exports d a =
    no_or (is_one_of (read_files b) file) (is_one_of (exported b) file)
    (parted (read_files b) lists file (apart_at (exported b) exports (read_files b ++ lists) file a)).0
    (distinct_free (exported b) exports file d)
call_free b (call.Insert at name first len) lists exports d a = tt
call_free b (call.Overwrite at name first len) lists exports d a = tt
call_free b (call.Extract at len) lists exports d a = tt
call_free b (call.Lift at len) lists exports d a = tt
call_free b (call.Split at) lists exports d a = tt
call_free b (call.TrimIn at by) lists exports d a = tt
call_free b (call.TrimOut at by) lists exports d a = tt
call_free b (call.Slip at by) lists exports d a = tt
call_free b (call.Dissolve at len) lists exports d a = tt
call_free b (call.Relink at name first) lists exports d a = tt
call_free b call.Undo lists exports d a = tt
call_free b call.Redo lists exports d a = tt
call_free b (call.Want first len) lists exports d a = tt
call_free b (call.Cancel first len) lists exports d a = tt
call_free b (call.Play n) lists exports d a = tt
call_free b (call.Show n) lists exports d a = tt
call_free b (call.Roll first len) lists exports d a = tt
call_free b (call.Work turns) lists exports d a = tt

-- the files of one more call
moved : (f : BodyLine → Words) (body : List BodyLine) (line : BodyLine) (front back : Words)
    → (front ++ flat_map f (body ++ line ∷ [])) ++ back ≡ (front ++ flat_map f body) ++ (f line ++ back)
moved f body line front back =
    ap (λ files. (front ++ files) ++ back) (flat_map-append f body (line ∷ []) ∙ ap (λ files. flat_map f body ++ files) (append-nil (f line)))
    ∙ ap (λ files. files ++ back) (sym (append_assoc front (flat_map f body) (f line)))
    ∙ append_assoc (front ++ flat_map f body) (f line) back

precedes_more : (b : Begun) (n : ℕ) (line : BodyLine) (more : List BodyLine) → Precedes b (line ∷ more) → Precedes (with_body b n line.call) more
precedes_more b n line more p =
    let next : BodyLine = record { n = n; call = line.call } in
    let exports : exported (with_body b n line.call) ++ exports_of more ≡ exported b ++ exports_of (line ∷ more) = moved (λ l. export_files l.call) b.body next [] (exports_of more) in
    let lists : read_files (with_body b n line.call) ++ lists_of more ≡ read_files b ++ lists_of (line ∷ more) = moved (λ l. list_files l.call) b.body next (map (λ clip. clip.file) b.clips) (lists_of more) in
    record {
      format = p.format;
      distinct = subst AreDistinct (sym exports) p.distinct;
      apart = subst (λ (words : Words). AreApart words (read_files (with_body b n line.call) ++ lists_of more)) (sym exports) (subst (AreApart (exported b ++ exports_of (line ∷ more))) (sym lists) p.apart);
    }

-- ---- all calls
calls_end : (b : Begun) (n rate : ℕ) (format : FormatLine) → b.rate ≡ Some rate → b.format ≡ Some format
    → ended b n b.rate b.format ≡ Ok (record { rate = rate; clips = b.clips; format = format; body = b.body })
unfolding ended
calls_end b n rate format r f = rw (r, f) refl

pub calls_again : (b : Begun) (n rate : ℕ) (format : FormatLine) (left : List BodyLine) → b.rate ≡ Some rate → b.format ≡ Some format
    → AreCalls left → AreWritableCalls left → Precedes b left → n + length left ≤ max_lines + 1
    → script_from b n (lines (flat_map (λ line. ended_line (call_words line.call)) left))
    ≡ Ok (record { rate = rate; clips = b.clips; format = format; body = b.body ++ calls_from n left })
unfolding script_from calls_from
calls_again b n rate format [] r f s w p few =
    calls_end b n rate format r f
    ∙ ap (λ body. Ok (record { rate = rate; clips = b.clips; format = format; body = body })) (sym (append-nil b.body))
calls_again b n rate format (line ∷ more) r f s w p few =
    call_line b n line.call (flat_map (λ l. ended_line (call_words l.call)) more) p.format s.0 w.0
    (call_free b line.call (lists_of more) (exports_of more) p.distinct p.apart) (omega arith)
    ∙ calls_again (with_body b n line.call) (n + 1) rate format more r f s.1 w.1 (precedes_more b n line more p) (omega arith)
    ∙ ap (λ body. Ok (record { rate = rate; clips = b.clips; format = format; body = body }))
    (append_assoc b.body (record { n = n; call = line.call } ∷ []) (calls_from (n + 1) more))
