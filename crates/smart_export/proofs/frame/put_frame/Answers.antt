use Rattle.std.specs.Prelude.{Bool, IsTrue, Result, Ok, Err, IsErrAnd, Some}
use Rattle.std.specs.Arc.{arc_value}
use Rattle.std.proofs.Common.{◌≡◌, ℕ, List, [], ◌∷◌, length, refl, sym, ap, ◌∙◌, subst}
use Rattle.std.proofs.lemmas.Result.{err_from_is_err_and}
use Rattle.tl_model.specs.Media.{Library, Encodes, outcome_of}
use Rattle.tl_model.specs.declared.recipe.Recipe.{Recipe}
use Rattle.tl_model.specs.declared.media.EncodeFault.{EncodeFault}
use Rattle.tl_model.specs.declared.media.EncodeFault.TheVariants as encoding
use Rattle.mkv_write.specs.Writing.{Writing, put_of}
use Rattle.mkv_write.specs.declared.fault.WriteFault.{WriteFault}
use Rattle.mkv_write.specs.declared.fault.WriteFault.TheVariants as writing
use Rattle.smart_export.specs.declared.stop.Stop.{Stop}
use Rattle.smart_export.specs.declared.stop.Stop.TheVariants as stop
use Rattle.smart_export.specs.Rendered.{IsTooLong}
use Rattle.smart_export.specs.Ends.{IsCut}
use Rattle.smart_export.specs.Stop.{WritesTo, CodesTo, placed}
use Rattle.smart_export.specs.Puts.{one_frame, PutsFrames}
use Rattle.smart_export.proofs.Packets.{own_is, coded_is, long_is, encoded, encoded-long}
use Rattle.smart_export.proofs.Parts.{cut_before, cut_after, cut_at}
use Rattle.smart_export.proofs.frame.put_frame.Goals as goal

-- Memory ran out.
no_memory : {F : Type 0} (tells : Bool) (held : List ℕ) (lib : Library F) (recipe : Recipe) (w after : Writing) (result : Result Unit Stop) (at : ℕ) → IsErrAnd result (λ why. why ≡ stop.NoMemory)
    → IsCut tells held (one_frame lib recipe w) → PutsFrames tells held (one_frame lib recipe w) after (placed result at)
no_memory tells held lib recipe w after result at fails cut =
    let p = err_from_is_err_and result fails in
    subst (λ (r : Result Unit Stop). PutsFrames tells held (one_frame lib recipe w) after (placed r at)) (sym (p.1 ∙ ap Err p.2)) cut

-- The packet wasn't written.
not_written : {F : Type 0} (tells : Bool) (held : List ℕ) (lib : Library F) (recipe : Recipe) (w after : Writing) (fault : WriteFault) (result : Result Unit Stop) (at : ℕ) → IsErrAnd result (WritesTo fault)
    → IsCut tells held (one_frame lib recipe w) → PutsFrames tells held (one_frame lib recipe w) after (placed result at)
not_written tells held lib recipe w after writing.Sink result at fails cut =
    let p = err_from_is_err_and result fails in
    subst (λ (r : Result Unit Stop). PutsFrames tells held (one_frame lib recipe w) after (placed r at)) (sym (p.1 ∙ ap Err p.2)) cut
not_written tells held lib recipe w after writing.NoMemory result at fails cut = no_memory tells held lib recipe w after result at fails cut

-- The picture wasn't coded.
not_coded : {F : Type 0} (tells : Bool) (held : List ℕ) (lib : Library F) (recipe : Recipe) (w after : Writing) (fault : EncodeFault) (result : Result Unit Stop) → IsErrAnd result (CodesTo fault)
    → (IsTrue tells → held ≡ put_of w) → (fault ≡ encoding.SliceTooLong → IsTooLong lib recipe) → PutsFrames tells held (one_frame lib recipe w) after (placed result (length w.packets))
not_coded tells held lib recipe w after encoding.SliceTooLong result fails is long =
    let p = err_from_is_err_and result fails in
    subst (λ (r : Result Unit Stop). PutsFrames tells held (one_frame lib recipe w) after (placed r (length w.packets))) (sym (p.1 ∙ ap Err p.2))
    (cut_at tells held lib recipe w (IsTooLong lib) is (long refl))
not_coded tells held lib recipe w after encoding.NoMemory result fails is long =
    no_memory tells held lib recipe w after result (length w.packets) fails (cut_before tells held lib recipe w is)

pub returns-in_err-frame-clause-put : goal.returns-in_err-frame-clause-put
returns-in_err-frame-clause-put g c =
    let lib = g.M.Media.library c.args.media.now in
    no_memory _ _ lib _ _ _ c.from_residual.result _ c.from_residual.ensures.1 (cut_before _ _ lib _ _ c.requires.held)

pub returns-in-Fault-clause-put : goal.returns-in-Fault-clause-put
returns-in-Fault-clause-put g c =
    let lib = g.M.Media.library c.args.media.now in
    cut_at _ _ lib c.args.recipe c.args.writer.now (λ recipe. lib.render recipe ≡ Err c.in-Fault.fault) c.requires.held (sym c.in_ok-frame.ensures ∙ ap outcome_of c.in-Fault.is)

pub returns-in_err-frame-2-clause-put : goal.returns-in_err-frame-2-clause-put
returns-in_err-frame-2-clause-put g c =
    let lib = g.M.Media.library c.args.media.now in
    let rendered : lib.render c.args.recipe ≡ Ok (arc_value c.in-Frame.frame) = sym c.in_ok-frame.ensures ∙ ap outcome_of c.in-Frame.is in
    not_written _ _ lib _ _ _ c.in_err-frame-2.field-0.0 c.from_residual-in_err-frame-2.result _ c.from_residual-in_err-frame-2.ensures.1
    (cut_after _ _ lib _ _ c.in-Some.packet.now (own_is lib c.lawful.ensures c.args.recipe (arc_value c.in-Frame.frame) c.in-Some.packet.now c.requires.recipe rendered (sym c.in-Some.ensures.bytes)) c.in_err-frame-2.ensures.put)

pub returns-in-Some-clause-put : goal.returns-in-Some-clause-put
returns-in-Some-clause-put g c =
    let lib = g.M.Media.library c.args.media.now in
    let rendered : lib.render c.args.recipe ≡ Ok (arc_value c.in-Frame.frame) = sym c.in_ok-frame.ensures ∙ ap outcome_of c.in-Frame.is in
    let added = c.in_ok-frame-2.ensures.added in
    let packet : List ℕ = c.in-Some.packet.now in (
      packet ∷ [],
      (own_is lib c.lawful.ensures c.args.recipe (arc_value c.in-Frame.frame) packet c.requires.recipe rendered (sym c.in-Some.ensures.bytes), tt),
      added,
      λ told. c.in_ok-frame-2.ensures.put told ∙ ap put_of (sym added),
    )

pub encode-requires : goal.encode-requires
encode-requires g c =
    let lib = g.M.Media.library c.args.media.now in
    let rendered : lib.render c.args.recipe ≡ Ok (arc_value c.in-Frame.frame) = sym c.in_ok-frame.ensures ∙ ap outcome_of c.in-Frame.is in
    c.lawful.ensures.shaped c.args.recipe c.deref.result.now c.requires.recipe (rendered ∙ ap Ok (sym c.deref.ensures))

pub returns-in_err-packet-clause-put : goal.returns-in_err-packet-clause-put
returns-in_err-packet-clause-put g c =
    let lib = g.M.Media.library c.args.media.now in
    let picture = c.deref.result.now in
    let rendered : lib.render c.args.recipe ≡ Ok picture = sym c.in_ok-frame.ensures ∙ ap outcome_of c.in-Frame.is ∙ ap Ok (sym c.deref.ensures) in
    not_coded _ _ lib _ _ _ c.in_err-packet.field-0.0 c.from_residual-in_err-packet.result c.from_residual-in_err-packet.ensures.1 c.requires.held
    (λ same. long_is lib c.args.recipe picture rendered (sym c.in_default.ensures.bytes) (encoded-long (lib.coded picture) (subst (λ (f : EncodeFault). Encodes (lib.coded picture) (Err f)) same c.in_err-packet.ensures)))

pub returns-in_err-frame-3-clause-put : goal.returns-in_err-frame-3-clause-put
returns-in_err-frame-3-clause-put g c =
    let lib = g.M.Media.library c.args.media.now in
    let picture = c.deref.result.now in
    let rendered : lib.render c.args.recipe ≡ Ok picture = sym c.in_ok-frame.ensures ∙ ap outcome_of c.in-Frame.is ∙ ap Ok (sym c.deref.ensures) in
    let packet = c.deref-2.result.now in
    let coded : lib.coded picture ≡ Some packet = (encoded (lib.coded picture) c.in_ok-packet.packet c.in_ok-packet.ensures).0 ∙ ap Some (sym c.deref-2.ensures.value) in
    not_written _ _ lib _ _ _ c.in_err-frame-3.field-0.0 c.from_residual-in_err-frame-3.result _ c.from_residual-in_err-frame-3.ensures.1
    (cut_after _ _ lib _ _ packet (coded_is lib c.lawful.ensures c.args.recipe picture packet c.requires.recipe rendered (sym c.in_default.ensures.bytes) coded) c.in_err-frame-3.ensures.put)

pub returns-clause-put : goal.returns-clause-put
returns-clause-put g c =
    let lib = g.M.Media.library c.args.media.now in
    let picture = c.deref.result.now in
    let rendered : lib.render c.args.recipe ≡ Ok picture = sym c.in_ok-frame.ensures ∙ ap outcome_of c.in-Frame.is ∙ ap Ok (sym c.deref.ensures) in
    let packet = c.deref-2.result.now in
    let coded : lib.coded picture ≡ Some packet = (encoded (lib.coded picture) c.in_ok-packet.packet c.in_ok-packet.ensures).0 ∙ ap Some (sym c.deref-2.ensures.value) in
    let added = c.in_ok-frame-3.ensures.added in (
      packet ∷ [],
      (coded_is lib c.lawful.ensures c.args.recipe picture packet c.requires.recipe rendered (sym c.in_default.ensures.bytes) coded, tt),
      added,
      λ told. c.in_ok-frame-3.ensures.put told ∙ ap put_of (sym added),
    )
