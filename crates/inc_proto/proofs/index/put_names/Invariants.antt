use Rattle.std.proofs.Common.{◌≡◌, drop}
use Rattle.inc_fs.specs.Paths.{path_cmp}
use Rattle.inc_proto.specs.Indexes.{put_all}
use Rattle.inc_proto.proofs.index.put_names.Given as goal

abbrev pub invariant-loop-name : goal.invariant-loop-name
invariant-loop-name l =
    put_all path_cmp (λ name. (l.krate, name)) l.at (drop l.name-index l.names) l.looked
    ≡ put_all path_cmp (λ name. (l.krate, name)) l.at l.names l.fn.looked
