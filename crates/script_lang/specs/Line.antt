-- Lines of output: each is its words parted by single blanks, and a line feed.
use Rattle.std.specs.Prelude.{ℕ, Bool, true, ◌&&◌, List, [], ◌∷◌, ◌++◌, map, flat_map, codes, decimal}
use Rattle.std.specs.List.{list_all, list_any}
use Rattle.std.specs.Str.{bytes_eq, is_utf8}
use Rattle.text_words.specs.declared.blanks.Blanks.TheVariants.{SpaceTabReturn}
use Rattle.text_words.specs.Law.{is_line, is_word}
use Rattle.script_lang.specs.declared.out_line.OutLine.{OutLine}
use Rattle.script_lang.specs.declared.out_line.OutLine.TheVariants as out
use Rattle.script_lang.specs.Lists.{Words, refusals, edl_faults, frame_faults, line_faults, clip_faults, record_faults, store_faults}

-- A word of a line: one that is the same in all such lines, a number of so many bits, one of a list of words, or a name.
pub data Field : Type 0 where
  Fixed : List ℕ → Field
  Number : (bits n : ℕ) → Field
  Listed : Words → List ℕ → Field
  Named : List ℕ → Field

-- The words of each line.
unfoldable pub fields : OutLine → List Field
fields (out.Ok len) = Fixed (codes "ok") ∷ Number 32 len ∷ []
fields (out.Refused why) = Fixed (codes "refused") ∷ Listed refusals why ∷ []
fields (out.EdlLine n why) = Fixed (codes "edl") ∷ Fixed (codes "line") ∷ Number 32 n ∷ Listed edl_faults why ∷ []
fields (out.Wanted count) = Fixed (codes "wanted") ∷ Number 32 count ∷ []
fields (out.Cancelled count) = Fixed (codes "cancelled") ∷ Number 32 count ∷ []
fields (out.Past len) = Fixed (codes "past") ∷ Number 32 len ∷ []
fields (out.Frame n) = Fixed (codes "frame") ∷ Number 32 n ∷ []
fields (out.Pending n) = Fixed (codes "pending") ∷ Number 32 n ∷ []
fields (out.Fault n kind) = Fixed (codes "fault") ∷ Number 32 n ∷ Listed frame_faults kind ∷ []
fields (out.Worked count) = Fixed (codes "worked") ∷ Number 32 count ∷ []
fields (out.Asked export) = Fixed (codes "asked") ∷ Number 64 export ∷ []
fields (out.FaultLine n why) = Fixed (codes "fault") ∷ Fixed (codes "line") ∷ Number 32 n ∷ Listed line_faults why ∷ []
fields (out.FaultClip n kind) =
    Fixed (codes "fault") ∷ Fixed (codes "line") ∷ Number 32 n ∷ Fixed (codes "clip") ∷ Listed clip_faults kind ∷ []
fields (out.FaultRecord n kind) =
    Fixed (codes "fault") ∷ Fixed (codes "line") ∷ Number 32 n ∷ Fixed (codes "record") ∷ Listed record_faults kind ∷ []
fields (out.Store name kind) = Fixed (codes "store") ∷ Named name ∷ Listed store_faults kind ∷ []
fields out.ScreenFailed = Fixed (codes "screen") ∷ Fixed (codes "failed") ∷ []
fields out.NoMemory = Fixed (codes "no") ∷ Fixed (codes "memory") ∷ []
fields (out.JournalFull len owed) = Fixed (codes "journal") ∷ Fixed (codes "full") ∷ Number 64 len ∷ Number 64 owed ∷ []
fields out.Usage =
    Fixed (codes "usage:") ∷ Fixed (codes "timeline") ∷ Fixed (codes "SCRIPT") ∷ Fixed (codes "[--workers") ∷ Fixed (codes "N]")
    ∷ Fixed (codes "[--cache") ∷ Fixed (codes "N]") ∷ Fixed (codes "[--journal") ∷ Fixed (codes "N]") ∷ []
fields (out.Done export frames) = Fixed (codes "export") ∷ Number 64 export ∷ Fixed (codes "done") ∷ Number 32 frames ∷ []
fields (out.ExportFault export at clip frame kind) =
    Fixed (codes "export") ∷ Number 64 export ∷ Fixed (codes "fault") ∷ Number 32 at ∷ Named clip
    ∷ Number 32 frame ∷ Listed frame_faults kind ∷ []
fields (out.Long export at) = Fixed (codes "export") ∷ Number 64 export ∷ Fixed (codes "long") ∷ Number 32 at ∷ []
fields (out.Sink export) = Fixed (codes "export") ∷ Number 64 export ∷ Fixed (codes "sink") ∷ []
fields (out.Memory export) = Fixed (codes "export") ∷ Number 64 export ∷ Fixed (codes "memory") ∷ []

abbrev pub word_of : Field → List ℕ
word_of (Fixed word) = word
word_of (Number bits n) = decimal n
word_of (Listed words word) = word
word_of (Named name) = name

abbrev pub words_of : OutLine → Words
words_of line = map word_of (fields line)

-- Words parted by single blanks.
unfoldable pub joined : Words → List ℕ
joined [] = []
joined (word ∷ more) = word ++ flat_map (λ next. 32 ∷ next) more

abbrev pub line_text : OutLine → List ℕ
line_text line = joined (words_of line) ++ 10 ∷ []

-- A word says why or of what kind exactly where its list has it.
abbrev pub is_one_of : Words → List ℕ → Bool
is_one_of words word = list_any (λ other. bytes_eq other word) words

abbrev pub is_listed_field : Field → Bool
is_listed_field (Listed words word) = is_one_of words word
is_listed_field field = true

-- Each of its words that says why or of what kind is in its list.
abbrev pub is_listed : OutLine → Bool
is_listed line = list_all is_listed_field (fields line)

-- A name that is a single word of a line, in UTF-8.
abbrev pub is_name : List ℕ → Bool
is_name name = is_utf8 name && (is_word SpaceTabReturn name && is_line name)
