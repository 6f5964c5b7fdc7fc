use Rattle.std.proofs.Common.{◌≡◌, drop}
use Rattle.inc_proto.specs.Indexes.{put_all, file_cmp}
use Rattle.inc_proto.proofs.index.put_files.Given as goal

abbrev pub invariant-loop-file : goal.invariant-loop-file
invariant-loop-file l =
    put_all file_cmp (λ file. ((l.krate, l.entry), file)) l.at (drop l.file-index l.files) l.listed
    ≡ put_all file_cmp (λ file. ((l.krate, l.entry), file)) l.at l.files l.fn.listed
