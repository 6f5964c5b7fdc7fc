-- What a ground asks of a session's view.
use Rattle.std.specs.Prelude.{◌≡◌, ℕ, List, length, true, false, cond, Some, None, refl, slice_get}
use Rattle.std.proofs.Common.{sym, ◌∙◌, subst, get_or}
use Rattle.std.proofs.Math.Dec.{ltb}
use Rattle.std.proofs.lemmas.Bool.{false≢true, ltb-true}
use Rattle.std.proofs.lemmas.Option.{slice_get_read}
use Rattle.inc_fs.specs.declared.op.Op.{Op}
use Rattle.inc_proto.specs.declared.event.Event.{Event}
use Rattle.inc_proto.specs.declared.enrolled.Enrolled.{Enrolled}
use Rattle.inc_proto.specs.Events.{is_running}
use Rattle.inc_proto.specs.Files.{Files}
use Rattle.inc_proto.specs.Grounds.{Fits}
use Rattle.inc_proto.specs.Legal.{sight_of, MaySee, MayDo}
use Rattle.inc_proto.specs.Permits.{IsPermitted}
use Rattle.inc_proto.proofs.Kept.{may_runs}

-- what its view permits, a running session may do,
pub view_may : (files : Files) (h : List Event) (who : ℕ) (one : Enrolled) (op : Op) → Fits h who (Some one) → one.runs ≡ true
    → IsPermitted files one.view.job one.view.steps op → MayDo files h who op
view_may files h who one op f runs may =
    subst (λ b. MaySee files (cond b (sight_of who h) None) op) (sym (f.2 ∙ runs)) (subst (λ s. MaySee files s op) (sym f.1) may)

-- and nothing else;
pub may_view : (files : Files) (h : List Event) (who : ℕ) (one : Enrolled) (op : Op) → Fits h who (Some one)
    → MayDo files h who op → IsPermitted files one.view.job one.view.steps op
may_view files h who one op f may =
    let runs = may_runs files h who op may in
    subst (λ s. MaySee files s op) f.1 (subst (λ b. MaySee files (cond b (sight_of who h) None) op) runs may)

-- one that rests may do nothing.
pub rests_may_not : (files : Files) (h : List Event) (who : ℕ) (op : Op) → is_running who h ≡ false → MayDo files h who op → ⊥
rests_may_not files h who op rests may = false≢true (sym rests ∙ may_runs files h who op may)

-- the record that was found is the one of its number
pub found_at : (xs ys : List Enrolled) (who : ℕ) (one : Enrolled) → xs ≡ ys → true ≡ ltb who (length xs) → one ≡ get_or xs who one → slice_get ys who ≡ Some one
found_at xs ys who one same within is =
    subst (λ zs. slice_get zs who ≡ Some one) same (slice_get_read xs (length xs) who one refl (ltb-true who (length xs) (sym within)) is)
