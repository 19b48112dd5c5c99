use Rattle.ffv1_frame.proofs.DecodingExists.{decoding_exists}
use Rattle.ffv1_frame.proofs.OneDecoding.{one_decoding}
use Rattle.ffv1_frame.proofs.law.one_decoding.Goals as goal

pub returns-clause-some : goal.returns-clause-some
returns-clause-some c = decoding_exists

pub returns-clause-one : goal.returns-clause-one
returns-clause-one c = one_decoding
