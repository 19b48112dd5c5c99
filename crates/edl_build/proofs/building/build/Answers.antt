use Rattle.std.proofs.Common.{◌≡◌, ◌∙◌, ap, sym, None, Ok, arith, rules}
use Rattle.edl_text.specs.List.{Fails}
use Rattle.edl_build.specs.Clip.{known_at}
use Rattle.edl_build.specs.Build.{parts_from, laid}
use Rattle.edl_build.proofs.Built.{built_segments, built_fault}
use Rattle.edl_build.proofs.Formed.{built_formed}
use Rattle.edl_build.proofs.building.build.Goals as goal

pub returns-in-Ok : goal.returns-in-Ok
returns-in-Ok c =
    let built =
    built_segments c.args.clips.now (known_at c.in_ok-known.known) c.args.edl.now.events c.in_ok-parts.parts.items c.sort.new.parts.items c.from_vec.result c.in_ok-known.ensures
    (ap (λ events. parts_from (known_at c.in_ok-known.known) None events) (sym c.as_slice.ensures) ∙ c.in_ok-parts.ensures)
    c.in_ok-sort.ensures
    (ap laid (sym c.deref.ensures.value) ∙ c.in-Ok.ensures ∙ ap Ok (sym c.from_vec.ensures)) in
    record { exact = built; formed = λ timed. built_formed c.args.clips.now c.args.edl.now.events c.from_vec.result c.requires timed built }

pub returns : goal.returns
returns c = record {
  exact =
      built_fault c.args.clips.now (known_at c.in_ok-known.known) c.args.edl.now.events c.in_ok-parts.parts.items c.sort.new.parts.items _
      c.in_ok-known.ensures
      (ap (λ events. parts_from (known_at c.in_ok-known.known) None events) (sym c.as_slice.ensures) ∙ c.in_ok-parts.ensures)
      c.in_ok-sort.ensures
      (rw c.deref.ensures.value at c.in-Err.ensures);
  formed = λ timed. tt;
}
