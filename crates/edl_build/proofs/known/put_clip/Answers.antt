use Rattle.std.proofs.Common.{◌≡◌, ◌∙◌, sym, Some, true, rules}
use Rattle.std.specs.Str.{bytes_eq}
use Rattle.std.proofs.lemmas.Map.Text.{hash_map_updates_str}
use Rattle.edl_build.specs.Clip.{known_at}
use Rattle.edl_build.proofs.Knowing.{put_known, none_at}
use Rattle.edl_build.proofs.known.put_clip.Goals as goal

pub returns-in_ok-insert : goal.returns-in_ok-insert
returns-in_ok-insert c = λ other.
    put_known (bytes_eq c.args.name.now other) (known_at c.args.known.now other) (known_at c.insert.new.self other) c.args.clip
    (λ same. none_at (known_at c.args.known.now) c.args.name.now other (search rules) same)
    (hash_map_updates_str c.args.name.now c.args.known.now c.insert.new.self (Some c.args.clip) c.in_ok-insert.ensures.updates other)
