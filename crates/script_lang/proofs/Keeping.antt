-- The sets of the reader after one more clip or call.
use Rattle.std.proofs.Common.{◌≡◌, ℕ, Bool, true, false, ◌||◌, if◌then◌else◌, List, [], ◌∷◌, ◌++◌, map, flat_map, Some, Result, Ok, IfSome, refl, ap, sym, ◌∙◌, append_assoc, append-nil}
use Rattle.std.specs.List.{list_any}
use Rattle.std.specs.Str.{bytes_eq}
use Rattle.std.proofs.lemmas.List.{map-append}
use Rattle.std.proofs.lemmas.List.Folds.{list_any-append}
use Rattle.std.proofs.lemmas.Grind.{flat_map-append}
use Rattle.tl_limits.specs.Limits.{IsRate}
use Rattle.script_lang.specs.declared.script.BodyLine.{BodyLine}
use Rattle.script_lang.specs.declared.script.Call.{Call}
use Rattle.script_lang.specs.declared.script.ClipLine.{ClipLine}
use Rattle.script_lang.specs.Line.{is_one_of}
use Rattle.script_lang.specs.Lists.{Words}
use Rattle.script_lang.specs.ScriptText.{list_files, export_files}

or_swap : (a b : Bool) → (a || (b || false)) ≡ (b || a)
or_swap true true = refl
or_swap true false = refl
or_swap false true = refl
or_swap false false = refl

or_right : (a b c : Bool) → ((b || a) || c) ≡ (b || (a || c))
or_right a true c = refl
or_right a false c = refl

or_end : (a : Bool) → (a || false) ≡ a
or_end true = refl
or_end false = refl

-- one more word
pub one_more : (words : Words) (word other : List ℕ) → is_one_of (words ++ word ∷ []) other ≡ (bytes_eq word other || is_one_of words other)
one_more words word other =
    list_any-append (λ w. bytes_eq w other) words (word ∷ []) ∙ or_swap (is_one_of words other) (bytes_eq word other)

pub mapped_more : (f : ClipLine → List ℕ) (clips : List ClipLine) (clip : ClipLine) (other : List ℕ)
    → is_one_of (map f (clips ++ clip ∷ [])) other ≡ (bytes_eq (f clip) other || is_one_of (map f clips) other)
mapped_more f clips clip other = ap (λ ws. is_one_of ws other) (map-append f clips (clip ∷ [])) ∙ one_more (map f clips) (f clip) other

-- the files of one more clip
pub clip_file : (clips : List ClipLine) (clip : ClipLine) (lists : Words) (other : List ℕ)
    → is_one_of (map (λ c. c.file) (clips ++ clip ∷ []) ++ lists) other ≡ (bytes_eq clip.file other || is_one_of (map (λ c. c.file) clips ++ lists) other)
clip_file clips clip lists other =
    list_any-append (λ w. bytes_eq w other) (map (λ c. c.file) (clips ++ clip ∷ [])) lists
    ∙ ap (λ b. b || is_one_of lists other) (mapped_more (λ c. c.file) clips clip other)
    ∙ or_right (is_one_of (map (λ c. c.file) clips) other) (bytes_eq clip.file other) (is_one_of lists other)
    ∙ ap (λ b. bytes_eq clip.file other || b) (sym (list_any-append (λ w. bytes_eq w other) (map (λ c. c.file) clips) lists))

-- the files of one more call: none, or one
pub no_file : (f : BodyLine → Words) (body : List BodyLine) (line : BodyLine) → f line ≡ [] → flat_map f (body ++ line ∷ []) ≡ flat_map f body
no_file f body line none =
    flat_map-append f body (line ∷ []) ∙ ap (λ ws. flat_map f body ++ (ws ++ [])) none ∙ append-nil (flat_map f body)

pub one_file : (f : BodyLine → Words) (body : List BodyLine) (line : BodyLine) (file : List ℕ) → f line ≡ file ∷ [] → flat_map f (body ++ line ∷ []) ≡ flat_map f body ++ file ∷ []
one_file f body line file one = flat_map-append f body (line ∷ []) ∙ ap (λ ws. flat_map f body ++ (ws ++ [])) one

pub call_file : (front : Words) (f : BodyLine → Words) (body : List BodyLine) (line : BodyLine) (file other : List ℕ) → f line ≡ file ∷ []
    → is_one_of (front ++ flat_map f (body ++ line ∷ [])) other ≡ (bytes_eq file other || is_one_of (front ++ flat_map f body) other)
call_file front f body line file other one =
    ap (λ ws. is_one_of (front ++ ws) other) (one_file f body line file one)
    ∙ ap (λ ws. is_one_of ws other) (sym (append_assoc front (flat_map f body) (file ∷ [])))
    ∙ one_more (front ++ flat_map f body) file other

pub or_cond : (a b : Bool) → (if a then true else b) ≡ (a || b)
or_cond true b = refl
or_cond false b = refl
