-- What a call without a clip answers.
use Rattle.std.proofs.Common.{ℕ, List, refl}
use Rattle.codec_c.specs.declared.answer.Answer.{Answer}
use Rattle.codec_c.specs.declared.answer.Answer.TheVariants.{Done, Arguments, Memory, Fault, SliceTooLong}
use Rattle.codec_c.specs.Call.{Call, Decodes, Encodes, Refuses}

pub no_decoding : (c : Call) (packet samples : List ℕ) (answer : Answer) → Refuses c answer → Decodes c packet samples samples answer
no_decoding c packet samples Arguments none_is = (λ p shape can. none_is p shape can.clip, refl)
no_decoding c packet samples Memory any = refl
no_decoding c packet samples (Done count) never = absurd never
no_decoding c packet samples (Fault fault) never = absurd never
no_decoding c packet samples SliceTooLong never = absurd never

pub no_encoding : (c : Call) (samples room : List ℕ) (answer : Answer) → Refuses c answer → Encodes c samples room room answer
no_encoding c samples room Arguments none_is = (λ p shape can. absurd (none_is p shape can.clip), refl)
no_encoding c samples room Memory any = refl
no_encoding c samples room (Done count) never = absurd never
no_encoding c samples room (Fault fault) never = absurd never
no_encoding c samples room SliceTooLong never = absurd never
