use Rattle.std.proofs.Common.{rules}
use Rattle.std.proofs.lemmas.Bool.{false≢true}
use Rattle.tl_ports.proofs.StreamLemmas.{piece_of}
use Rattle.tl_ports.proofs.folder_store.FolderStoreStore.fetch.Goals as goal

pub returns-in-Ok-clause-fetched : goal.returns-in-Ok-clause-fetched
returns-in-Ok-clause-fetched g c =
    let piece = piece_of c.args.into.now.items c.read_file.new.into.items c.args.limit c.in-Ok.ensures.front (search rules) in
    (piece.0, piece.1, (piece.2, λ told. absurd (false≢true told)))
