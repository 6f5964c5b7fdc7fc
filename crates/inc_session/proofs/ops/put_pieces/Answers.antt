use Rattle.std.proofs.Common.{rules, refl, ap, sym, ◌∙◌, ◌≡◌, length, take, drop}
use Rattle.std.proofs.lemmas.Bool.{eqb-true}
use Rattle.inc_fs.specs.Paths.{Text}
use Rattle.inc_fs.specs.declared.op.Op.{Op}
use Rattle.inc_fs.specs.declared.op.Op.TheVariants.{Append}
use Rattle.inc_names.specs.Entries.{working_text}
use Rattle.inc_session.proofs.Pieces.{pieces_step, pieces_done, some_left}
use Rattle.inc_session.proofs.ops.put_pieces.Goals as goal

pub pieces-init : goal.pieces-init
pieces-init c = refl

pub pieces-smaller : goal.pieces-smaller
pieces-smaller c = search rules

pub pieces-preserved : goal.pieces-preserved
pieces-preserved c =
    let rest = c.pieces.rest.now in
    let f : Text → Op = λ piece. Append c.args.task.now.krate (working_text c.args.its) c.args.file.now piece in
    let some = some_left (length rest) c.is_empty.result c.is_empty.ensures c.pieces-test.true in
    rw (c.in_ok-push.ensures, c.in_ok-append.ensures)
    (pieces_step f c.pieces.ops rest c.split_at.result.0.now c.split_at.result.1.now some
    (c.split_at.ensures.front ∙ ap (λ n. take n rest) c.min.ensures) (c.split_at.ensures.back ∙ ap (λ n. drop n rest) c.min.ensures) ∙ c.pieces.invariant)

pub returns : goal.returns
returns c =
    let none : length c.pieces.rest.now ≡ 0 = eqb-true (length c.pieces.rest.now) 0 (sym c.is_empty.ensures ∙ c.pieces-test.false) in
    sym (pieces_done (λ piece. Append c.args.task.now.krate (working_text c.args.its) c.args.file.now piece) c.pieces.ops c.pieces.rest.now none) ∙ c.pieces.invariant
