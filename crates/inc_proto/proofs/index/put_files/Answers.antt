use Rattle.std.proofs.Common.{◌≡◌, ◌∙◌, ap, sym, arith, drop, []}
use Rattle.std.proofs.lemmas.List.{drop_all}
use Rattle.inc_proto.specs.Indexes.{put_all, file_cmp}
use Rattle.inc_proto.proofs.Indexed.{put_next}
use Rattle.inc_proto.proofs.index.put_files.Goals as goal

pub loop-file-preserved : goal.loop-file-preserved
loop-file-preserved c =
    put_next file_cmp (λ file. ((c.args.krate.now, c.args.entry.now), file)) c.args.at c.args.files.now c.loop-file.file-index c.file-item.result c.in_ok-path.path
    c.loop-file.listed c.insert.new.self (omega arith) c.file-item.is c.in_ok-path.ensures c.in_ok-insert.ensures.ok
    ∙ c.loop-file.invariant

pub returns : goal.returns
returns c =
    let none : drop c.loop-file.file-index c.args.files.now ≡ [] = drop_all c.loop-file.file-index c.args.files.now (omega arith) in
    sym (ap (λ fs. put_all file_cmp (λ file. ((c.args.krate.now, c.args.entry.now), file)) c.args.at fs c.loop-file.listed) none) ∙ c.loop-file.invariant
