-- What a view keeps beside its steps, brought forward.
use Rattle.std.specs.Prelude.{◌≡◌, ◌∷◌, ◌++◌, [], ℕ, length, reverse, Option, Some, None, IfSome, OnOk, OnErr, Ok, Err, refl}
use Rattle.std.proofs.Common.{ap, sym, ◌∙◌, subst}
use Rattle.std.specs.declared.result.Result.{Result}
use Rattle.inc_fs.specs.declared.op.Op.{Op}
use Rattle.inc_fs.specs.declared.op.Op.TheVariants.{Draw}
use Rattle.inc_fs.specs.declared.op.Reply.{Reply}
use Rattle.inc_fs.specs.declared.op.Reply.TheVariants.{Fault}
use Rattle.inc_names.specs.declared.session.SessionName.{SessionName}
use Rattle.inc_proto.specs.declared.index.Index.{Index}
use Rattle.inc_proto.specs.declared.own.OwnLock.{OwnLock}
use Rattle.inc_proto.specs.Events.{Steps}
use Rattle.inc_proto.specs.Indexes.{Indexes}
use Rattle.inc_proto.specs.Seen.{AreOf}
use Rattle.inc_proto.specs.Views.{Dir, name_after, own_after, dir, dir_after}
use Rattle.inc_proto.specs.Views.Dir.{Unmade, Stands, Removed, Published}
use Rattle.inc_proto.proofs.Indexed.{index_with_place, index_without_place}
use Rattle.inc_proto.proofs.Turned.{last_is_first}

-- a place says nothing of the directory
still : (d : Dir) → dir_after (Draw, Fault) d ≡ d
still Unmade = refl
still (Stands krate entry files) = refl
still Removed = refl
still (Published krate entry files) = refl

index_in : (steps : Steps) (index : Option Index) → IfSome index (Indexes steps) → IfSome index (Indexes ((Draw, Fault) ∷ steps))
index_in steps None is = is
index_in steps (Some index) is = index_with_place steps index is

index_out : (steps : Steps) (index : Option Index) → IfSome index (Indexes ((Draw, Fault) ∷ steps)) → IfSome index (Indexes steps)
index_out steps None is = is
index_out steps (Some index) is = index_without_place steps index is

-- a place is held
with_place : {steps : Steps} {drawn : Option SessionName} {lock : OwnLock} {kept : Option Dir} {index : Option Index}
    → AreOf steps drawn lock kept index → AreOf ((Draw, Fault) ∷ steps) drawn lock kept index
with_place {steps = steps} {kept = kept} {index = index} are = record {
  name_is = are.name_is;
  own_is = are.own_is;
  dir_is = subst (λ d. IfSome kept (λ own. own ≡ d)) (sym (still (dir steps))) are.dir_is;
  index_is = index_in steps index are.index_is;
}

pub placed : {A E : Type 0} (r : Result A E) (old new : Steps) (drawn : Option SessionName) (lock : OwnLock) (kept : Option Dir) (index : Option Index)
    → OnOk r (new ≡ old ++ (Draw, Fault) ∷ []) → OnErr r (new ≡ old) → AreOf (reverse old) drawn lock kept index → AreOf (reverse new) drawn lock kept index
placed (Ok a) old new drawn lock kept index ok err are =
    subst (λ ss. AreOf ss drawn lock kept index) (sym (ap reverse ok ∙ last_is_first old (Draw, Fault))) (with_place are)
placed (Err e) old new drawn lock kept index ok err are = subst (λ ss. AreOf (reverse ss) drawn lock kept index) (sym err) are

-- a place is given up
pub without_place : {steps : Steps} {drawn : Option SessionName} {lock : OwnLock} {kept : Option Dir} {index : Option Index}
    → AreOf ((Draw, Fault) ∷ steps) drawn lock kept index → AreOf steps drawn lock kept index
without_place {steps = steps} {kept = kept} {index = index} are = record {
  name_is = are.name_is;
  own_is = are.own_is;
  dir_is = subst (λ d. IfSome kept (λ own. own ≡ d)) (still (dir steps)) are.dir_is;
  index_is = index_out steps index are.index_is;
}

-- the step is put into its place
pub brought : (step : Op × Reply) {steps : Steps} {drawn drawn1 : Option SessionName} {lock lock1 : OwnLock} {kept kept1 : Option Dir} {index index1 : Option Index} {at : ℕ}
    → AreOf ((Draw, Fault) ∷ steps) drawn lock kept index → drawn1 ≡ name_after step drawn → lock1 ≡ own_after step lock
    → ((d : Dir) → IfSome kept (λ own. own ≡ d) → IfSome kept1 (λ own. own ≡ dir_after step d))
    → at ≡ length steps
    → ((ss : Steps) → at ≡ length ss → IfSome index (λ it. Indexes ss it) → IfSome index1 (λ it. Indexes (step ∷ ss) it))
    → AreOf (step ∷ steps) drawn1 lock1 kept1 index1
brought step {steps = steps} are drawn_is lock_is kept_is at_is index_is =
    let was = without_place are in
    record {
      name_is = drawn_is ∙ ap (name_after step) was.name_is;
      own_is = lock_is ∙ ap (own_after step) was.own_is;
      dir_is = kept_is (dir steps) was.dir_is;
      index_is = index_is steps at_is was.index_is;
    }
