-- The words of a written event line.
use Rattle.std.proofs.Common.{◌≡◌, ℕ, zero, suc, ◌-◌, ◌<◌, Bool, true, List, [], ◌∷◌, ◌++◌, length, replicate, Option, Some, None, codes, refl, ap, sym, ◌∙◌, append_assoc, arith}
use Rattle.std.specs.Str.{chars}
use Rattle.text_words.specs.declared.blanks.Blanks.TheVariants.{SpaceTab}
use Rattle.text_words.specs.Blanks.{words}
use Rattle.text_words.specs.Law.{is_word}
use Rattle.text_words.specs.Number.{number_text}
use Rattle.text_words.specs.Timecode.{timecode_text}
use Rattle.text_words.proofs.Splitting.{words_read_back}
use Rattle.edl_text.specs.declared.event.Event.{Event}
use Rattle.edl_text.specs.Writing.{head_text, kind_text, times_text, event_line}
use Rattle.edl_text.proofs.Bytes.{clock-number, clock-timecode, clock_is_word, some-number, length-timecode}

one : (word rest : List ℕ) → is_word SpaceTab word ≡ true → words SpaceTab (word ++ 32 ∷ rest) ≡ word ∷ words SpaceTab rest
one word rest h = words_read_back.one SpaceTab word rest 32 h refl

blank : (rest : List ℕ) → words SpaceTab (32 ∷ rest) ≡ words SpaceTab rest
blank rest = words_read_back.blank SpaceTab rest 32 refl

spaces : (k : ℕ) (rest : List ℕ) → words SpaceTab (replicate k 32 ++ rest) ≡ words SpaceTab rest
spaces zero rest = refl
spaces (suc k) rest = blank (replicate k 32 ++ rest) ∙ spaces k rest

-- a word and the blanks that fill its places, and one more
padded : (word : List ℕ) (k : ℕ) (rest : List ℕ) → is_word SpaceTab word ≡ true → words SpaceTab (word ++ (replicate k 32 ++ 32 ∷ rest)) ≡ word ∷ words SpaceTab rest
padded word zero rest h = one word rest h
padded word (suc k) rest h = one word (replicate k 32 ++ 32 ∷ rest) h ∙ ap (λ ws. word ∷ ws) (spaces k (32 ∷ rest) ∙ blank rest)

number_word : (n : ℕ) → is_word SpaceTab (number_text 3 n) ≡ true
number_word n = clock_is_word (number_text 3 n) (some-number 3 n (omega arith)) (clock-number 3 n)

timecode_word : (rate frame : ℕ) → is_word SpaceTab (timecode_text rate frame) ≡ true
timecode_word rate frame = clock_is_word (timecode_text rate frame) (length-timecode rate frame) (clock-timecode rate frame)

head_words : (e : Event) (tail : List ℕ) → is_word SpaceTab e.reel ≡ true → words SpaceTab (head_text e ++ tail) ≡ number_text 3 e.number ∷ e.reel ∷ codes "V" ∷ words SpaceTab tail
unfolding head_text
head_words e tail h =
    let num : List ℕ = number_text 3 e.number in
    let k : ℕ = 8 - length (chars e.reel) in
    let fill : List ℕ = replicate k 32 in
    let channel : List ℕ = codes " V     " ++ tail in
    let after : List ℕ = 32 ∷ 32 ∷ 32 ∷ 32 ∷ tail in
    ap (words SpaceTab)
    (append_assoc (((num ++ codes "  ") ++ e.reel) ++ fill) (codes " V     ") tail
    ∙ append_assoc ((num ++ codes "  ") ++ e.reel) fill channel
    ∙ append_assoc (num ++ codes "  ") e.reel (fill ++ channel)
    ∙ append_assoc num (codes "  ") (e.reel ++ (fill ++ channel)))
    ∙ one num (32 ∷ (e.reel ++ (fill ++ channel))) (number_word e.number)
    ∙ ap (λ ws. num ∷ ws) (blank (e.reel ++ (fill ++ channel)) ∙ padded e.reel k (86 ∷ 32 ∷ after) h
    ∙ ap (λ ws. e.reel ∷ ws) (one (86 ∷ []) after refl ∙ ap (λ ws. (86 ∷ []) ∷ ws) (spaces 4 tail)))

abbrev pub kind_of : Option ℕ → List (List ℕ)
kind_of None = codes "C" ∷ []
kind_of (Some frames) = codes "D" ∷ number_text 3 frames ∷ []

kind_words : (duration : Option ℕ) (tail : List ℕ) → words SpaceTab (kind_text duration ++ tail) ≡ kind_of duration ++ words SpaceTab tail
unfolding kind_text
kind_words None tail = one (67 ∷ []) (replicate 7 32 ++ tail) refl ∙ ap (λ ws. (67 ∷ []) ∷ ws) (spaces 7 tail)
kind_words (Some frames) tail =
    let num : List ℕ = number_text 3 frames in
    ap (words SpaceTab) (append_assoc (codes "D    " ++ num) (codes " ") tail ∙ append_assoc (codes "D    ") num (32 ∷ tail))
    ∙ one (68 ∷ []) (replicate 3 32 ++ (num ++ 32 ∷ tail)) refl
    ∙ ap (λ ws. (68 ∷ []) ∷ ws) (spaces 3 (num ++ 32 ∷ tail) ∙ one num tail (number_word frames))

abbrev pub times_list : (rate : ℕ) → Event → List (List ℕ)
times_list rate e = timecode_text rate e.source_in ∷ timecode_text rate e.source_out ∷ timecode_text rate e.record_in ∷ timecode_text rate e.record_out ∷ []

times_words : (rate : ℕ) (e : Event) → words SpaceTab (times_text rate e) ≡ times_list rate e
unfolding times_text
times_words rate e =
    let a : List ℕ = timecode_text rate e.source_in in
    let b : List ℕ = timecode_text rate e.source_out in
    let c : List ℕ = timecode_text rate e.record_in in
    let d : List ℕ = timecode_text rate e.record_out in
    ap (words SpaceTab)
    (append_assoc ((((a ++ codes " ") ++ b) ++ codes " ") ++ c) (codes " ") d
    ∙ append_assoc (((a ++ codes " ") ++ b) ++ codes " ") c (32 ∷ d)
    ∙ append_assoc ((a ++ codes " ") ++ b) (codes " ") (c ++ 32 ∷ d)
    ∙ append_assoc (a ++ codes " ") b (32 ∷ (c ++ 32 ∷ d))
    ∙ append_assoc a (codes " ") (b ++ 32 ∷ (c ++ 32 ∷ d)))
    ∙ one a (b ++ 32 ∷ (c ++ 32 ∷ d)) (timecode_word rate e.source_in)
    ∙ ap (λ ws. a ∷ ws) (one b (c ++ 32 ∷ d) (timecode_word rate e.source_out)
    ∙ ap (λ ws. b ∷ ws) (one c d (timecode_word rate e.record_in)
    ∙ ap (λ ws. c ∷ ws) (words_read_back.last SpaceTab d (timecode_word rate e.record_out))))

pub line_words : (rate : ℕ) (e : Event) → is_word SpaceTab e.reel ≡ true
    → words SpaceTab (event_line rate e) ≡ number_text 3 e.number ∷ e.reel ∷ codes "V" ∷ (kind_of e.duration ++ times_list rate e)
line_words rate e h =
    ap (words SpaceTab) (append_assoc (head_text e) (kind_text e.duration) (times_text rate e))
    ∙ head_words e (kind_text e.duration ++ times_text rate e) h
    ∙ ap (λ ws. number_text 3 e.number ∷ e.reel ∷ codes "V" ∷ ws) (kind_words e.duration (times_text rate e) ∙ ap (λ ws. kind_of e.duration ++ ws) (times_words rate e))
