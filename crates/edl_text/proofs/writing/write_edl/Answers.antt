use Rattle.std.proofs.Common.{◌≡◌, ◌∙◌, rules}
use Rattle.edl_text.proofs.Joining.{joined_list}
use Rattle.edl_text.proofs.writing.write_edl.Goals as goal

pub returns : goal.returns
returns c =
    joined_list c.args.rate c.args.edl.now c.new-out.result.items c.extend_from_slice.new.self.items c.extend_from_slice-2.new.self.items c.extend_from_slice-3.new.self.items
    c.as_bytes.result.now c.put_events.new.out.items c.as_slice.result.now
    c.new-out.ensures.items c.in_ok-extend_from_slice.ensures.items (c.as_bytes.ensures.value ∙ c.as_str.ensures) c.in_ok-extend_from_slice-2.ensures.items c.in_ok-extend_from_slice-3.ensures.items
    c.as_slice.ensures c.in_ok-put_events.ensures
