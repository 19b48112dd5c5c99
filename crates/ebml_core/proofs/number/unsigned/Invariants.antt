use Rattle.std.proofs.Common.{◌≡◌, ◌^◌, ◌<◌, take}
use Rattle.ebml_core.specs.Spelling.{unsigned_of}
use Rattle.ebml_core.proofs.number.unsigned.Given as goal

abbrev pub invariant-loop-octet : goal.invariant-loop-octet
invariant-loop-octet l = (l.number ≡ unsigned_of (take l.octet-index l.octets)) × (l.number < 256 ^ l.octet-index)
