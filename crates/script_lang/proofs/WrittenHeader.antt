-- The header of a written script is read back.
use Rattle.std.proofs.Common.{◌≡◌, ℕ, ◌+◌, ◌*◌, ◌≤◌, Bool, true, false, ◌&&◌, ◌||◌, List, [], ◌∷◌, ◌++◌, length, map, flat_map, Some, None, Ok, codes, nat_le, refl, ap, sym, ◌∙◌, subst, append_assoc, append-nil, length-append, arith, lit<, lit≤}
use Rattle.std.specs.List.{list_all}
use Rattle.std.specs.Char.{is_ascii_digit}
use Rattle.std.specs.Str.{bytes_eq, is_utf8}
use Rattle.std.specs.Str.Lines.{lines}
use Rattle.std.proofs.lemmas.Bool.{leb-true, lt-leb}
use Rattle.std.proofs.lemmas.List.{map-append}
use Rattle.std.proofs.lemmas.Slice.Eq.{bytes_eq-Decides}
use Rattle.tl_limits.specs.Limits.{IsRate, max_clips, max_frames, max_lines, max_rate, max_side, max_slices}
use Rattle.pic_planes.specs.Grid.{reaches_ends}
use Rattle.text_words.proofs.Reading.{digits-number_text, timecodes_read_back}
use Rattle.script_lang.specs.declared.script.ChromaWord.{ChromaWord}
use Rattle.script_lang.specs.declared.script.ChromaWord.TheVariants as chroma
use Rattle.script_lang.specs.declared.script.ClipLine.{ClipLine}
use Rattle.script_lang.specs.declared.script.CoderWord.{CoderWord}
use Rattle.script_lang.specs.declared.script.CoderWord.TheVariants as coder
use Rattle.script_lang.specs.declared.script.FormatLine.{FormatLine}
use Rattle.script_lang.specs.declared.script.FormatLine.TheVariants as format
use Rattle.script_lang.specs.Fields.{within, pair_of}
use Rattle.script_lang.specs.Header.{rate_of, clip_of, chroma_of, coder_of, is_side, is_grid, is_covered, chroma_planes, coded_format, sized_format, own_format, like_format, format_of}
use Rattle.script_lang.specs.Law.{IsWritableClip, AreWritableClips, clips_from}
use Rattle.script_lang.specs.Line.{is_name, is_one_of, joined}
use Rattle.script_lang.specs.ScriptSound.{IsFormat, AreDistinct}
use Rattle.script_lang.specs.ScriptText.{Begun, nothing, names, header_rate, with_rate, with_clip, with_format, with_words, with_split, script_from}
use Rattle.script_lang.specs.Writing.{digits, chroma_word, coder_word, format_words, clip_words, ended_line}
use Rattle.script_lang.proofs.Reread.{both, is_plain}
use Rattle.script_lang.proofs.Soundness.{is_letters, letters_name, one_passes}
use Rattle.script_lang.proofs.WrittenWords.{digits_name, timecode_name, within_again, name_again}
use Rattle.script_lang.proofs.WrittenLines.{is_begun_line, one_line}
use Rattle.script_lang.proofs.WrittenCalls.{distinct_free}

-- ---- the rate
abbrev pub rated : ℕ → List ClipLine → Begun
rated rate clips = record { rate = Some rate; clips = clips; format = None; body = [] }

rate_again : (rate n : ℕ) (line : List ℕ) → IsRate rate → is_utf8 line ≡ true
    → with_split nothing n line (codes "rate" ∷ digits rate ∷ []) ≡ Ok (rated rate [])
unfolding with_split with_words with_rate rate_of
rate_again rate n line bounds text = rw (text, within_again 1 max_rate rate bounds.0 bounds.1 (lit< tt)) refl

pub rate_line : (rate : ℕ) (rest : List ℕ) → IsRate rate
    → script_from nothing 1 (lines (ended_line (codes "rate" ∷ digits rate ∷ []) ++ rest)) ≡ script_from (rated rate []) 2 (lines rest)
unfolding is_begun_line joined is_letters is_plain
rate_line rate rest bounds =
    one_line nothing (rated rate []) 1 (codes "rate" ∷ digits rate ∷ []) rest (rw (letters_name (codes "rate") refl, digits_name rate) refl) refl (lit≤ tt)
    (λ line text. rate_again rate 1 line bounds text)

-- ---- the clips
clip_again : (rate n : ℕ) (done : List ClipLine) (clip : ClipLine) (line : List ℕ) → IsRate rate → IsWritableClip rate clip
    → nat_le max_clips (length done) ≡ false → (bytes_eq clip.name (codes "black") || is_one_of (map (λ c. c.name) done) clip.name) ≡ false
    → is_utf8 line ≡ true → with_split (rated rate done) n line (clip_words rate clip) ≡ Ok (rated rate (done ++ record clip { n = n } ∷ []))
unfolding with_split with_words with_clip header_rate clip_of
clip_again rate n done clip line bounds w room fresh text =
    rw (room, text, timecodes_read_back rate clip.start bounds w.start, name_again clip.name w.name, name_again clip.file w.file, fresh) refl

clip_named : (rate : ℕ) (clip : ClipLine) → IsWritableClip rate clip → list_all is_name (clip_words rate clip) ≡ true
unfolding is_letters is_plain
clip_named rate clip w =
    let named : is_name clip.name ≡ true = w.name in
    let filed : is_name clip.file ≡ true = w.file in
    rw (letters_name (codes "clip") refl, named, filed, timecode_name rate clip.start) refl

no_or : (a b : Bool) → a ≡ false → b ≡ false → (a || b) ≡ false
no_or a b e f = rw (e, f) refl

neither : (a b : Bool) → (a || b) ≡ false → (a ≡ false) × (b ≡ false)
neither true b e = absurd (cc)
neither false b e = (refl, e)

-- Clips that follow have names of their own, and there is room for them.
pub record Follow (rate n : ℕ) (done left : List ClipLine) : Type 0 where
  pub writable : AreWritableClips rate left
  pub distinct : AreDistinct (map (λ c. c.name) done ++ map (λ c. c.name) left)
  pub black : is_one_of (map (λ c. c.name) left) (codes "black") ≡ false
  pub room : length done + length left ≤ max_clips
  pub few : n + length left ≤ max_lines + 1

follow_more : (rate n : ℕ) (done left : List ClipLine) (clip : ClipLine) → Follow rate n done (clip ∷ left)
    → Follow rate (n + 1) (done ++ record clip { n = n } ∷ []) left
follow_more rate n done left clip f =
    let next : ClipLine = record clip { n = n } in
    let names : map (λ c. c.name) (done ++ next ∷ []) ++ map (λ c. c.name) left ≡ map (λ c. c.name) done ++ (clip.name ∷ map (λ c. c.name) left) =
    ap (λ words. words ++ map (λ c. c.name) left) (map-append (λ c. c.name) done (next ∷ []))
    ∙ append_assoc (map (λ c. c.name) done) (clip.name ∷ []) (map (λ c. c.name) left) in
    record {
      writable = f.writable.1;
      distinct = subst AreDistinct (sym names) f.distinct;
      black = (neither (bytes_eq clip.name (codes "black")) (is_one_of (map (λ c. c.name) left) (codes "black")) f.black).1;
      room = let r = f.room in omega (arith, length-append done (next ∷ []));
      few = let r = f.few in omega arith;
    }

pub clips_again : (rate n : ℕ) (done left : List ClipLine) (rest : List ℕ) → IsRate rate → Follow rate n done left
    → script_from (rated rate done) n (lines (flat_map (λ clip. ended_line (clip_words rate clip)) left ++ rest))
    ≡ script_from (rated rate (done ++ clips_from n left)) (n + length left) (lines rest)
unfolding clips_from is_begun_line joined
clips_again rate n done [] rest bounds f =
    let same : n ≡ n + 0 = omega arith in
    ap (λ clips. script_from (rated rate clips) n (lines rest)) (sym (append-nil done))
    ∙ ap (λ at. script_from (rated rate (done ++ [])) at (lines rest)) same
clips_again rate n done (clip ∷ more) rest bounds f =
    let next : ClipLine = record clip { n = n } in
    let count : n + 1 + length more ≡ n + length (clip ∷ more) = omega arith in
    let after : List ℕ = flat_map (λ c. ended_line (clip_words rate c)) more in
    let room : length done + length (clip ∷ more) ≤ max_clips = f.room in
    let few : n + length (clip ∷ more) ≤ max_lines + 1 = f.few in
    let own = neither (bytes_eq clip.name (codes "black")) (is_one_of (map (λ c. c.name) more) (codes "black")) f.black in
    let fresh = distinct_free (map (λ c. c.name) done) (map (λ c. c.name) more) clip.name f.distinct in
    ap (λ text. script_from (rated rate done) n (lines text)) (append_assoc (ended_line (clip_words rate clip)) after rest)
    ∙ one_line (rated rate done) (rated rate (done ++ next ∷ [])) n (clip_words rate clip) (after ++ rest) (clip_named rate clip f.writable.0) refl (omega arith)
    (λ line text. clip_again rate n done clip line bounds f.writable.0 (lt-leb max_clips (length done) (omega arith)) (no_or (bytes_eq clip.name (codes "black")) (is_one_of (map (λ c. c.name) done) clip.name) own.0 fresh) text)
    ∙ clips_again rate (n + 1) (done ++ next ∷ []) more rest bounds (follow_more rate n done more clip f)
    ∙ ap (λ clips. script_from (rated rate clips) (n + 1 + length more) (lines rest)) (append_assoc done (next ∷ []) (clips_from (n + 1) more))
    ∙ ap (λ at. script_from (rated rate (done ++ next ∷ clips_from (n + 1) more)) at (lines rest)) count

-- ---- the format
chroma_again : (kind : ChromaWord) → chroma_of (chroma_word kind) ≡ Some kind
unfolding chroma_of
chroma_again chroma.Grey = refl
chroma_again chroma.C444 = refl
chroma_again chroma.C440 = refl
chroma_again chroma.C422 = refl
chroma_again chroma.C420 = refl
chroma_again chroma.C411 = refl
chroma_again chroma.C410 = refl

coder_again : (coding : CoderWord) → coder_of (coder_word coding) ≡ Some coding
unfolding coder_of
coder_again coder.Range = refl
coder_again coder.Rice = refl

chroma_named : (kind : ChromaWord) → is_name (chroma_word kind) ≡ true
unfolding is_letters is_plain
chroma_named chroma.Grey = letters_name (codes "grey") refl
chroma_named chroma.C444 = letters_name (codes "444") refl
chroma_named chroma.C440 = letters_name (codes "440") refl
chroma_named chroma.C422 = letters_name (codes "422") refl
chroma_named chroma.C420 = letters_name (codes "420") refl
chroma_named chroma.C411 = letters_name (codes "411") refl
chroma_named chroma.C410 = letters_name (codes "410") refl

coder_named : (coding : CoderWord) → is_name (coder_word coding) ≡ true
unfolding is_letters is_plain
coder_named coder.Range = letters_name (codes "range") refl
coder_named coder.Rice = letters_name (codes "rice") refl

pair_again : (a b : ℕ) → a ≤ max_frames → b ≤ max_frames → pair_of 0 (digits a) (digits b) ≡ Ok (a, b)
unfolding pair_of
pair_again a b first second =
    rw (within_again 0 max_frames a (omega arith) first (lit< tt), within_again 0 max_frames b (omega arith) second (lit< tt)) refl

-- numbers don't spell `as`
not_as : (word : List ℕ) (b : Bool) → list_all is_ascii_digit word ≡ true → bytes_eq word (codes "as") ≡ b → b ≡ false
not_as word false e f = refl
not_as word true e f =
    let same : word ≡ codes "as" = (bytes_eq-Decides word (codes "as")).0 f in
    let bad : list_all is_ascii_digit (codes "as") ≡ true = subst (λ (w : List ℕ). list_all is_ascii_digit w ≡ true) same e in
    absurd (cc)

IsGridWithin : (width height columns rows : ℕ) → Type 0
IsGridWithin width height columns rows = (width ≤ max_side) × (height ≤ max_side) × (columns ≤ width) × (rows ≤ height)

covered_sides : (columns rows width height : ℕ) (kind : ChromaWord) → is_covered columns rows width height kind ≡ true → IsGridWithin width height columns rows
unfolding is_covered IsGridWithin
covered_sides columns rows width height kind e =
    let first = both ((is_side width && is_side height) && is_grid columns rows width height) (reaches_ends columns rows width height (chroma_planes kind)) e in
    let sides = both (is_side width && is_side height) (is_grid columns rows width height) first.0 in
    let each = both (is_side width) (is_side height) sides.0 in
    let few = both (((nat_le 1 columns && nat_le columns width) && nat_le 1 rows) && nat_le rows height) (nat_le (columns * rows) max_slices) sides.1 in
    let low = both ((nat_le 1 columns && nat_le columns width) && nat_le 1 rows) (nat_le rows height) few.0 in
    let across = both (nat_le 1 columns && nat_le columns width) (nat_le 1 rows) low.0 in (
      leb-true width max_side (both (nat_le 1 width) (nat_le width max_side) each.0).1,
      leb-true height max_side (both (nat_le 1 height) (nat_le height max_side) each.1).1,
      leb-true columns width (both (nat_le 1 columns) (nat_le columns width) across.0).1,
      leb-true rows height low.1,
    )

own_again : (width height : ℕ) (kind : ChromaWord) (coding : CoderWord) (columns rows : ℕ) → is_covered columns rows width height kind ≡ true
    → own_format (digits width ∷ digits height ∷ chroma_word kind ∷ coder_word coding ∷ digits columns ∷ digits rows ∷ []) ≡ Ok (format.Own width height kind coding columns rows)
unfolding own_format sized_format coded_format IsGridWithin
own_again width height kind coding columns rows covered =
    let s = covered_sides columns rows width height kind covered in
    let a : width ≤ max_side = s.0 in
    let b : height ≤ max_side = s.1 in
    let c : columns ≤ width = s.2 in
    let d : rows ≤ height = s.3 in
    rw (pair_again width height (omega arith) (omega arith), pair_again columns rows (omega arith) (omega arith), chroma_again kind, coder_again coding, covered) refl

format_again : (rate n : ℕ) (clips : List ClipLine) (said : FormatLine) (line : List ℕ) → list_all is_name (map (λ c. c.name) clips) ≡ true
    → IsFormat (map (λ c. c.name) clips) said → is_utf8 line ≡ true
    → with_split (rated rate clips) n line (format_words said) ≡ Ok (record { rate = Some rate; clips = clips; format = Some said; body = [] })
unfolding with_split with_words with_format header_rate format_of like_format format_words
format_again rate n clips (format.As name) line named s text =
    rw (text, name_again name (one_passes is_name (map (λ c. c.name) clips) name s named), s) refl
format_again rate n clips (format.Own width height kind coding columns rows) line named s text =
    rw (text, not_as (digits width) (bytes_eq (digits width) (codes "as")) (digits-number_text 1 width) refl, own_again width height kind coding columns rows s) refl

format_named : (clips : List ClipLine) (said : FormatLine) → list_all is_name (map (λ c. c.name) clips) ≡ true
    → IsFormat (map (λ c. c.name) clips) said → list_all is_name (format_words said) ≡ true
unfolding format_words is_letters is_plain
format_named clips (format.As name) named s = rw (letters_name (codes "format") refl, letters_name (codes "as") refl, one_passes is_name (map (λ c. c.name) clips) name s named) refl
format_named clips (format.Own width height kind coding columns rows) named s =
    rw (letters_name (codes "format") refl, digits_name width, digits_name height, chroma_named kind, coder_named coding, digits_name columns, digits_name rows) refl

format_begins : (said : FormatLine) → is_begun_line (format_words said) ≡ true
unfolding format_words is_begun_line joined
format_begins (format.As name) = refl
format_begins (format.Own width height kind coding columns rows) = refl

pub format_line : (rate n : ℕ) (clips : List ClipLine) (said : FormatLine) (rest : List ℕ) → list_all is_name (map (λ c. c.name) clips) ≡ true
    → IsFormat (map (λ c. c.name) clips) said → n ≤ max_lines
    → script_from (rated rate clips) n (lines (ended_line (format_words said) ++ rest))
    ≡ script_from (record { rate = Some rate; clips = clips; format = Some said; body = [] }) (n + 1) (lines rest)
format_line rate n clips said rest named s within =
    one_line (rated rate clips) (record { rate = Some rate; clips = clips; format = Some said; body = [] }) n (format_words said) rest
    (format_named clips said named s) (format_begins said) within (λ line text. format_again rate n clips said line named s text)
