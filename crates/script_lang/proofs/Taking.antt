-- Steps of the reader: what each line adds, and that the sets go with it.
use Rattle.std.proofs.Common.{◌≡◌, ℕ, ◌<◌, Bool, true, false, ◌||◌, not, List, [], ◌∷◌, ◌++◌, length, map, flat_map, Option, Some, None, is_some, is_none, Result, Ok, Err, IfSome, codes, refl, ap, sym, ◌∙◌, subst}
use Rattle.std.specs.Str.{bytes_eq}
use Rattle.tl_limits.specs.Limits.{IsRate, max_clips, timecode_frames}
use Rattle.script_lang.specs.declared.script.BodyLine.{BodyLine}
use Rattle.script_lang.specs.declared.script.Call.{Call}
use Rattle.script_lang.specs.declared.script.Call.TheVariants as call
use Rattle.script_lang.specs.declared.script.ClipLine.{ClipLine}
use Rattle.script_lang.specs.declared.script.FormatLine.{FormatLine}
use Rattle.script_lang.specs.declared.state.State.{State}
use Rattle.script_lang.specs.Calls.{call_of}
use Rattle.script_lang.specs.Fields.{◌>>=◌, checked, one_name}
use Rattle.script_lang.specs.Header.{rate_of, format_of}
use Rattle.script_lang.specs.Line.{is_one_of}
use Rattle.script_lang.specs.Lists.{Words}
use Rattle.script_lang.specs.ScriptText.{Begun, names, read_files, exported, list_files, export_files, with_rate, header_rate, with_clip_line, with_format, with_body, with_edl, with_export, with_other}
use Rattle.script_lang.specs.ScriptSound.{IsFormat, IsBegun}
use Rattle.script_lang.specs.State.{has_word, begun, Keeps, Took}
use Rattle.script_lang.proofs.CallSound.{IsOther, call_sound}
use Rattle.script_lang.proofs.Keeping.{mapped_more, clip_file, no_file, one_file, call_file}
use Rattle.script_lang.proofs.Adding.{clip_added, format_added, other_added, edl_added, export_added}

-- The sets and what else is kept, by what was read.
pub record Fits (t : State) (b : Begun) : Type 0 where
  pub rate : IfSome t.rate IsRate
  pub names : (word : List ℕ) → has_word t.names word ≡ is_one_of (names b) word
  pub read : (word : List ℕ) → has_word t.read word ≡ is_one_of (read_files b) word
  pub exported : (word : List ℕ) → has_word t.exported word ≡ is_one_of (exported b) word
  pub sound : IsBegun b
  pub bare : is_none t.format ≡ true → b.body ≡ []

pub kept : (t : State) (b : Begun) → begun t ≡ b → Fits t b → Keeps t
kept t b e fits = record {
  rate = fits.rate;
  names = λ w. fits.names w ∙ ap (λ x. is_one_of (names x) w) (sym e);
  read = λ w. fits.read w ∙ ap (λ x. is_one_of (read_files x) w) (sym e);
  sound = subst IsBegun (sym e) fits.sound;
  bare = λ none. ap (λ x. x.body) e ∙ fits.bare none;
  exported = λ w. fits.exported w ∙ ap (λ x. is_one_of (exported x) w) (sym e);
}

clash : {A : Type 0} (o : Option A) (P : Type 0) → is_some o ≡ true → is_none o ≡ true → P
clash (Some x) P e f = absurd (cc)
clash None P e f = absurd (cc)

-- What a step leaves as it was.
pub record Rests (s t : State) : Type 0 where
  pub rate : t.rate ≡ s.rate
  pub format : t.format ≡ s.format
  pub names : (word : List ℕ) → has_word t.names word ≡ has_word s.names word

body_fits : (s t : State) (n : ℕ) (said : Call) → Keeps s → is_some s.format ≡ true → Rests s t
    → ((word : List ℕ) → has_word t.read word ≡ is_one_of (read_files (with_body (begun s) n said)) word)
    → ((word : List ℕ) → has_word t.exported word ≡ is_one_of (exported (with_body (begun s) n said)) word)
    → IsBegun (with_body (begun s) n said) → Fits t (with_body (begun s) n said)
body_fits s t n said k formatted rests reads exports sound = record {
  rate = subst (λ (o : Option ℕ). IfSome o IsRate) (sym rests.rate) k.rate;
  names = λ w. rests.names w ∙ k.names w;
  read = reads;
  exported = exports;
  sound = sound;
  bare = λ none. clash s.format _ formatted (ap is_none (sym rests.format) ∙ none);
}

-- ---- a call that names no file
other_step : (b : Begun) (n : ℕ) (first : List ℕ) (rest : Words) (said : Call) → call_of first rest ≡ Ok said → with_other b n first rest ≡ Ok (with_body b n said)
unfolding with_other
other_step b n first rest said e = rw e refl

pub took_other : (s t : State) (n : ℕ) (first : List ℕ) (rest : Words) (said : Call) → Keeps s → is_some s.format ≡ true → Rests s t
    → ((word : List ℕ) → has_word t.read word ≡ has_word s.read word) → ((word : List ℕ) → has_word t.exported word ≡ has_word s.exported word)
    → begun t ≡ with_body (begun s) n said → call_of first rest ≡ Ok said → Took t (with_other (begun s) n first rest)
took_other s t n first rest said k formatted rests reads exports e read =
    let other = call_sound first rest said read in
    let line : BodyLine = record { n = n; call = said } in
    record {
      same = other_step (begun s) n first rest said read ∙ ap Ok (sym e);
      keeps =
          kept t (with_body (begun s) n said) e
          (body_fits s t n said k formatted rests
          (λ w. reads w ∙ k.read w ∙ ap (λ ws. is_one_of (map (λ c. c.file) (begun s).clips ++ ws) w) (sym (no_file (λ l. list_files l.call) (begun s).body line other.reads)))
          (λ w. exports w ∙ k.exported w ∙ ap (λ ws. is_one_of ws w) (sym (no_file (λ l. export_files l.call) (begun s).body line other.writes)))
          (other_added (begun s) n said k.sound other));
    }

-- ---- an edit list
edl_step : (b : Begun) (n : ℕ) (rest : Words) (file : List ℕ) → one_name rest ≡ Ok file → is_one_of (exported b) file ≡ false → with_edl b n rest ≡ Ok (with_body b n (call.Edl file))
unfolding with_edl
edl_step b n rest file e fresh = rw (e, fresh) refl

pub took_edl : (s t : State) (n : ℕ) (rest : Words) (file : List ℕ) → Keeps s → is_some s.format ≡ true → Rests s t
    → ((word : List ℕ) → has_word t.read word ≡ (bytes_eq file word || has_word s.read word)) → ((word : List ℕ) → has_word t.exported word ≡ has_word s.exported word)
    → begun t ≡ with_body (begun s) n (call.Edl file) → one_name rest ≡ Ok file → has_word s.exported file ≡ false → Took t (with_edl (begun s) n rest)
took_edl s t n rest file k formatted rests reads exports e read fresh =
    let said : Call = call.Edl file in
    let line : BodyLine = record { n = n; call = said } in
    let new : is_one_of (exported (begun s)) file ≡ false = sym (k.exported file) ∙ fresh in
    record {
      same = edl_step (begun s) n rest file read new ∙ ap Ok (sym e);
      keeps =
          kept t (with_body (begun s) n said) e
          (body_fits s t n said k formatted rests
          (λ w. reads w ∙ ap (λ b. bytes_eq file w || b) (k.read w) ∙ sym (call_file (map (λ c. c.file) (begun s).clips) (λ l. list_files l.call) (begun s).body line file w refl))
          (λ w. exports w ∙ k.exported w ∙ ap (λ ws. is_one_of ws w) (sym (no_file (λ l. export_files l.call) (begun s).body line refl)))
          (edl_added (begun s) n file k.sound new));
    }

-- ---- an export
export_step : (b : Begun) (n : ℕ) (rest : Words) (file : List ℕ) → one_name rest ≡ Ok file → (is_one_of (read_files b) file || is_one_of (exported b) file) ≡ false
    → with_export b n rest ≡ Ok (with_body b n (call.Export file))
unfolding with_export
export_step b n rest file e fresh = rw (e, fresh) refl

pub took_export : (s t : State) (n : ℕ) (rest : Words) (file : List ℕ) → Keeps s → is_some s.format ≡ true → Rests s t
    → ((word : List ℕ) → has_word t.read word ≡ has_word s.read word) → ((word : List ℕ) → has_word t.exported word ≡ (bytes_eq file word || has_word s.exported word))
    → begun t ≡ with_body (begun s) n (call.Export file) → one_name rest ≡ Ok file → (has_word s.read file || has_word s.exported file) ≡ false → Took t (with_export (begun s) n rest)
took_export s t n rest file k formatted rests reads exports e read fresh =
    let said : Call = call.Export file in
    let line : BodyLine = record { n = n; call = said } in
    let new : (is_one_of (read_files (begun s)) file || is_one_of (exported (begun s)) file) ≡ false =
    ap (λ b. b || is_one_of (exported (begun s)) file) (sym (k.read file)) ∙ ap (λ b. has_word s.read file || b) (sym (k.exported file)) ∙ fresh in
    record {
      same = export_step (begun s) n rest file read new ∙ ap Ok (sym e);
      keeps =
          kept t (with_body (begun s) n said) e
          (body_fits s t n said k formatted rests
          (λ w. reads w ∙ k.read w ∙ ap (λ ws. is_one_of (map (λ c. c.file) (begun s).clips ++ ws) w) (sym (no_file (λ l. list_files l.call) (begun s).body line refl)))
          (λ w. exports w ∙ ap (λ b. bytes_eq file w || b) (k.exported w) ∙ sym (call_file [] (λ l. export_files l.call) (begun s).body line file w refl))
          (export_added (begun s) n file k.sound new));
    }

-- ---- the header
pub took_clip : (s t : State) (clip : ClipLine) → Keeps s → length s.clips.items < max_clips → clip.start < timecode_frames → is_none s.format ≡ true
    → (bytes_eq clip.name (codes "black") || has_word s.names clip.name) ≡ false → t.rate ≡ s.rate → t.format ≡ s.format
    → ((word : List ℕ) → has_word t.names word ≡ (bytes_eq clip.name word || has_word s.names word))
    → ((word : List ℕ) → has_word t.read word ≡ (bytes_eq clip.file word || has_word s.read word)) → ((word : List ℕ) → has_word t.exported word ≡ has_word s.exported word)
    → begun t ≡ with_clip_line (begun s) clip → Took t (Ok (with_clip_line (begun s) clip))
took_clip s t clip k room below none fresh rate format named reads exports e = record {
  same = ap Ok (sym e);
  keeps =
      kept t (with_clip_line (begun s) clip) e (record {
        rate = subst (λ (o : Option ℕ). IfSome o IsRate) (sym rate) k.rate;
        names = λ w. named w ∙ ap (λ b. bytes_eq clip.name w || b) (k.names w) ∙ sym (mapped_more (λ c. c.name) (begun s).clips clip w);
        read = λ w. reads w ∙ ap (λ b. bytes_eq clip.file w || b) (k.read w) ∙ sym (clip_file (begun s).clips clip (flat_map (λ l. list_files l.call) (begun s).body) w);
        exported = λ w. exports w ∙ k.exported w;
        sound = clip_added (begun s) clip k.sound room below (k.bare none) (ap (λ b. bytes_eq clip.name (codes "black") || b) (sym (k.names clip.name)) ∙ fresh);
        bare = λ _. k.bare none;
      });
}

format_step : (b : Begun) (rest : Words) (rate : ℕ) (f : FormatLine) → header_rate b ≡ Ok rate → format_of (names b) rest ≡ Ok f → with_format b rest ≡ Ok (record b { format = Some f })
unfolding with_format
format_step b rest rate f e read = rw (e, read) refl

pub took_format : (s t : State) (rest : Words) (rate : ℕ) (f : FormatLine) → Keeps s → header_rate (begun s) ≡ Ok rate → format_of (names (begun s)) rest ≡ Ok f
    → IsFormat (names (begun s)) f → is_none s.format ≡ true → t ≡ record s { format = Some f } → Took t (with_format (begun s) rest)
took_format s t rest rate f k e read sound none same = subst (λ (x : State). Took x (with_format (begun s) rest)) (sym same) (record {
  same = format_step (begun s) rest rate f e read;
  keeps = record {
    rate = k.rate;
    names = k.names;
    read = k.read;
    sound = format_added (begun s) f k.sound sound;
    bare = λ _. k.bare none;
    exported = k.exported;
  };
})

rate_step : (b : Begun) (rest : Words) (rate : ℕ) → is_none b.rate ≡ true → rate_of rest ≡ Ok rate → with_rate b rest ≡ Ok (record b { rate = Some rate })
unfolding with_rate
rate_step b rest rate none read = rw (none, read) refl

rate_added : (b : Begun) (o : Option ℕ) → IsBegun b → IsBegun (record b { rate = o })
rate_added b o s = record {
  clip_count = s.clip_count;
  clips = s.clips;
  distinct = s.distinct;
  black = s.black;
  format = s.format;
  calls = s.calls;
  exports = s.exports;
  apart = s.apart;
}

pub took_rate : (s t : State) (rest : Words) (rate : ℕ) → Keeps s → is_none s.rate ≡ true → rate_of rest ≡ Ok rate → IsRate rate → t ≡ record s { rate = Some rate } → Took t (with_rate (begun s) rest)
took_rate s t rest rate k none read bounds same = subst (λ (x : State). Took x (with_rate (begun s) rest)) (sym same) (record {
  same = rate_step (begun s) rest rate none read;
  keeps = record {
    rate = bounds;
    names = k.names;
    read = k.read;
    sound = rate_added (begun s) (Some rate) k.sound;
    bare = k.bare;
    exported = k.exported;
  };
})

pub begun_body : (b : Begun) (items more : List BodyLine) → items ≡ more → (let a : Begun = record b { body = items } in a) ≡ record b { body = more }
begun_body b items more e = ap (λ (body : List BodyLine). let a : Begun = record b { body = body } in a) e

pub begun_clip : (b : Begun) (items more : List ClipLine) → items ≡ more → (let a : Begun = record b { clips = items } in a) ≡ record b { clips = more }
begun_clip b items more e = ap (λ (clips : List ClipLine). let a : Begun = record b { clips = clips } in a) e

pub not_some : {A : Type 0} (o : Option A) → is_some o ≡ false → is_none o ≡ true
not_some None e = refl
not_some (Some x) e = absurd (cc)
