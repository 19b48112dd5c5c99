-- What a writer stands for, and what its calls do to the begun file.
use Rattle.std.specs.Prelude.{◌≡◌, ℕ, ◌/◌, Bool, IsTrue, List, [], ◌∷◌, ◌++◌, length, Result, Ok, Err}
use Rattle.tl_ports.specs.Outside.{Rose}
use Rattle.mkv_write.specs.declared.fault.WriteFault.{WriteFault}
use Rattle.mkv_write.specs.declared.fault.WriteFault.TheVariants as writing
use Rattle.tl_limits.specs.Limits.{cluster_frames}
use Rattle.mkv_write.specs.File.{head, clusters, mkv}

-- A file that is being written, and the packets that were given so far.
pub record Writing : Type 0 where
  pub private : List ℕ
  pub width : ℕ
  pub height : ℕ
  pub rate : ℕ
  pub packets : List (List ℕ)

-- A file of which no packet was given yet.
abbrev pub nothing_yet : (private : List ℕ) (width height rate : ℕ) → Writing
nothing_yet private width height rate = record { private = private; width = width; height = height; rate = rate; packets = [] }

-- The same with one more packet.
abbrev pub with_packet : Writing → List ℕ → Writing
with_packet w packet = record w { packets = w.packets ++ packet ∷ [] }

-- The whole file over the packets so far.
abbrev pub file_of : Writing → List ℕ
file_of w = mkv w.private w.width w.height w.rate w.packets

-- What was put so far: all that stands before the first Cluster, and each Cluster that is full.
abbrev pub put_of : Writing → List ℕ
put_of w = head w.private w.width w.height ++ clusters w.rate w.packets (length w.packets / cluster_frames)

-- A list begins with another.
abbrev pub IsPrefix : List ℕ → List ℕ → Type 0
IsPrefix prefix whole = (rest : List ℕ) × (whole ≡ prefix ++ rest)

-- What the begun file holds after a call, where it is told: at `Ok` the whole of what was to be put, and after a fault a prefix of it.
abbrev pub Puts : {T : Type 0} (tells : Bool) (held whole : List ℕ) → Result T WriteFault → Type 0
Puts tells held whole (Ok value) = IsTrue tells → held ≡ whole
Puts tells held whole (Err fault) = IsTrue tells → IsPrefix held whole

-- The same of a piece that is added at the end.
abbrev pub Appends : {T : Type 0} (tells : Bool) (before after piece : List ℕ) → Result T WriteFault → Type 0
Appends tells before after piece result = Puts tells after (before ++ piece) result

-- `Sink` comes only where the vault's count rose in that call, and every other answer leaves the count as it was.
abbrev pub WriteHasCause : {T : Type 0} → ℕ → ℕ → Result T WriteFault → Type 0
WriteHasCause before now (Ok value) = now ≡ before
WriteHasCause before now (Err writing.Sink) = Rose before now
WriteHasCause before now (Err writing.NoMemory) = now ≡ before
