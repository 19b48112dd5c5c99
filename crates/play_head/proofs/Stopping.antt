-- The words of a stop line.
use Rattle.std.proofs.Common.{◌≡◌, ◌≢◌, ℕ, List, refl, sym, subst}
use Rattle.std.specs.Prelude.{IsTrue}
use Rattle.tl_ports.specs.declared.fault.FetchFault.{FetchFault}
use Rattle.tl_ports.specs.declared.fault.FetchFault.TheVariants as fetching
use Rattle.script_lang.specs.declared.out_line.OutLine.TheVariants as out
use Rattle.script_lang.specs.Line.{fields, is_listed}
use Rattle.play_head.specs.PlayingScript.{store_word}

store-listed : (fault : FetchFault) (name : List ℕ) → fault ≢ fetching.NoMemory → IsTrue (is_listed (out.Store name (store_word fault)))
unfolding fields
store-listed fetching.Failed name h = refl
store-listed fetching.Missing name h = refl
store-listed (fetching.TooLarge limit) name h = refl
store-listed fetching.NoMemory name h = absurd (h refl)

pub kind-listed : (fault : FetchFault) (name kind : List ℕ) → fault ≢ fetching.NoMemory → kind ≡ store_word fault → IsTrue (is_listed (out.Store name kind))
kind-listed fault name kind h e = subst (λ (word : List ℕ). IsTrue (is_listed (out.Store name word))) (sym e) (store-listed fault name h)

pub screen-listed : IsTrue (is_listed out.ScreenFailed)
unfolding fields
screen-listed = refl

pub memory-listed : IsTrue (is_listed out.NoMemory)
unfolding fields
memory-listed = refl

pub full-listed : (len owing : ℕ) → IsTrue (is_listed (out.JournalFull len owing))
unfolding fields
full-listed len owing = refl
